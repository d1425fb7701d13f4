use Rattle.std.proofs.Common.{◌≡◌, ◌∙◌, sym, ap, subst, true}
use Rattle.rw_library.specs.Entries.{has_entry, place_of}
use Rattle.rw_lemmas.specs.Refusals.{in_use, user_from}
use Rattle.rw_lemmas.proofs.Without.{no_user, place_within, removed_whole}
use Rattle.rw_lemmas.proofs.table.Lemmas.remove.Goals as goal

pub take_out-requires-3 : goal.take_out-requires-3
take_out-requires-3 c =
    place_within c.self.inside.library c.self.inside.proofs c.self.inside.statuses c.args.name.now c.place_of-place.result c.self.invariant.1
    (subst (λ t. has_entry c.args.name.now t.library.entries ≡ true) (sym c.self.view_is) c.requires)
    (c.place_of-place.ensures ∙ ap (λ l. place_of l c.args.name.now) c.as_slice-entries.ensures)

pub invariant_of-self : goal.invariant_of-self
invariant_of-self c =
    removed_whole c.self.inside.library c.self.inside.proofs c.self.inside.statuses c.args.name.now c.place_of-place.result c.take_out.new.items c.take_out-2.new.items c.take_out-3.new.items
    c.self.invariant.0 c.self.invariant.1
    (subst (λ t. has_entry c.args.name.now t.library.entries ≡ true) (sym c.self.view_is) c.requires)
    (no_user _ c.use_refusal.result
    (c.use_refusal.ensures ∙ (λ i. in_use (user_from c.args.name.now (place_of (c.as_slice-entries.ensures i) c.args.name.now) (c.as_slice.ensures i) 0 (c.as_slice-entries.ensures i)))) c.in_default.not-Some)
    (c.place_of-place.ensures ∙ ap (λ l. place_of l c.args.name.now) c.as_slice-entries.ensures)
    c.take_out.ensures c.take_out-2.ensures c.take_out-3.ensures
