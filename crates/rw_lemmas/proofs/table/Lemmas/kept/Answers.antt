use Rattle.std.proofs.Common.{◌≤◌, length, true, false, sym, ap, ◌∙◌, subst}
use Rattle.std.proofs.lemmas.List.{length-take-le}
use Rattle.rw_library.specs.Entries.{place_of}
use Rattle.rw_library.proofs.Places.{place_within}
use Rattle.rw_lemmas.proofs.Unaffected.{read_here, affected_here, none_there, kept_if_some}
use Rattle.rw_lemmas.proofs.table.Lemmas.kept.Goals as goal

pub slice_bounds-reads_change-end : goal.slice_bounds-reads_change-end
slice_bounds-reads_change-end c =
    sym (length-take-le _ _ (subst (λ k. k ≤ length c.as_slice-entries.result.now) (sym c.place_of-old.ensures) (place_within c.as_slice-entries.result.now c.args.lemma.now.name)))

pub returns-then-reads_change-clause-affected : goal.returns-then-reads_change-clause-affected
returns-then-reads_change-clause-affected c n =
    affected_here c.args.self.now c.args.library.now c.args.changes.now c.requires.told c.place_of-old.result c.args.place c.args.lemma.now c.args.cert.now
    (c.place_of-old.ensures ∙ ap (λ es. place_of es c.args.lemma.now.name) (c.as_slice-entries.ensures ∙ ap (λ t. t.library.entries) c.self.view_is))
    (read_here c.args.changes.now c.as_slice-entries.result.now c.as_slice.result.now c.args.self.now.library.entries c.args.library.now.entries c.place_of-old.result c.args.place c.args.lemma.now c.args.cert.now
    c.reads_change.result true (c.as_slice-entries.ensures ∙ ap (λ t. t.library.entries) c.self.view_is) c.as_slice.ensures c.reads_change.ensures c.if-reads_change.true)

pub returns-clause-status : goal.returns-clause-status
returns-clause-status c =
    kept_if_some c.args.self.now c.args.library.now c.args.changes.now c.requires.told c.place_of-old.result c.args.place c.args.lemma.now c.args.cert.now c.in_ok-status.status c.in_ok-status.ensures.status
    c.in_ok-status.ensures.goal c.in_ok-status.ensures.cert
    (read_here c.args.changes.now c.as_slice-entries.result.now c.as_slice.result.now c.args.self.now.library.entries c.args.library.now.entries c.place_of-old.result c.args.place c.args.lemma.now c.args.cert.now
    c.reads_change.result false (c.as_slice-entries.ensures ∙ ap (λ t. t.library.entries) c.self.view_is) c.as_slice.ensures c.reads_change.ensures c.if-reads_change.false)

pub returns-clause-affected : goal.returns-clause-affected
returns-clause-affected c n =
    none_there c.args.self.now c.args.library.now c.place_of-old.result c.args.place c.args.lemma.now c.args.cert.now
    (c.place_of-old.ensures ∙ ap (λ es. place_of es c.args.lemma.now.name) (c.as_slice-entries.ensures ∙ ap (λ t. t.library.entries) c.self.view_is))
    (c.in_ok-status.ensures.none n)
