use Rattle.std.proofs.Common.{◌≡◌, ◌<◌, ◌∙◌, sym, ap, subst, length, true}
use Rattle.rw_sequents.proofs.Runs.{on_err}
use Rattle.rw_library.specs.Entries.{has_entry, place_of}
use Rattle.std.proofs.lemmas.Result.{on_err_weaker}
use Rattle.rw_lemmas.specs.Affected.{AtMostAffected}
use Rattle.rw_lemmas.specs.Table.{moved, with_moved}
use Rattle.rw_lemmas.proofs.Whole.{moved_whole}
use Rattle.rw_lemmas.proofs.Unaffected.{none_more, table_is}
use Rattle.rw_lemmas.proofs.table.Lemmas.move_to.Goals as goal

pub renew-requires : goal.renew-requires
renew-requires g c =
    moved_whole c.self.inside.library c.self.inside.proofs c.args.name.now c.place_of-place.result c.args.to c.move_to.new.items c.move_to-2.new.items c.self.invariant.0
    (subst (λ t. has_entry c.args.name.now t.library.entries ≡ true) (sym c.self.view_is) c.requires.there)
    (c.place_of-place.ensures ∙ ap (λ l. place_of l c.args.name.now) c.as_slice.ensures)
    (subst (λ t. c.args.to < length t.library.entries) (sym c.self.view_is) c.requires.within)
    (c.in_ok-move_to.ensures ∙ ap (λ l. moved c.place_of-place.result c.args.to l.entries) c.in_ok-library.ensures)
    (c.in_ok-move_to-2.ensures ∙ ap (moved c.place_of-place.result c.args.to) (c.in_ok-proofs.ensures ∙ c.as_slice-3.ensures))

pub returns-in_err-library-clause-memory : goal.returns-in_err-library-clause-memory
returns-in_err-library-clause-memory g c = on_err _ (none_more _ _ _)

pub returns-in_err-move_to-clause-memory : goal.returns-in_err-move_to-clause-memory
returns-in_err-move_to-clause-memory g c = on_err _ (none_more _ _ _)

pub returns-in_err-refusal-clause-memory : goal.returns-in_err-refusal-clause-memory
returns-in_err-refusal-clause-memory g c = on_err _ (none_more _ _ _)

pub returns-in-Some-clause-memory : goal.returns-in-Some-clause-memory
returns-in-Some-clause-memory g c = none_more _ _ _

pub returns-in_err-proofs-clause-memory : goal.returns-in_err-proofs-clause-memory
returns-in_err-proofs-clause-memory g c = on_err _ (none_more _ _ _)

pub returns-in_err-move_to-2-clause-memory : goal.returns-in_err-move_to-2-clause-memory
returns-in_err-move_to-2-clause-memory g c = on_err _ (none_more _ _ _)

pub returns-clause-memory : goal.returns-clause-memory
returns-clause-memory g c =
    let place : c.place_of-place.result ≡ place_of c.args.self.now.library.entries c.args.name.now =
    c.place_of-place.ensures ∙ ap (λ l. place_of l c.args.name.now) (c.as_slice.ensures ∙ ap (λ t. t.library.entries) c.self.view_is) in
    let library = c.in_ok-library.ensures ∙ ap (λ t. t.library) c.self.view_is in
    let proofs = c.in_ok-proofs.ensures ∙ c.as_slice-3.ensures ∙ ap (λ t. t.proofs) c.self.view_is in
    let items : c.move_to.new.items ≡ (with_moved c.args.self.now c.args.name.now c.args.to).library.entries = c.in_ok-move_to.ensures ∙ (λ i. moved (place i) c.args.to (library i).entries) in
    let certs : c.move_to-2.new.items ≡ (with_moved c.args.self.now c.args.name.now c.args.to).proofs = c.in_ok-move_to-2.ensures ∙ (λ i. moved (place i) c.args.to (proofs i)) in
    on_err_weaker c.renew.result (subst (λ t. AtMostAffected c.args.self.now t c.args.steps.now c.renew.new.steps) (table_is items certs)) c.renew.ensures.memory
