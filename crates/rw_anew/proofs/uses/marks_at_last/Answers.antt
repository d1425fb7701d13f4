use Rattle.std.proofs.Common.{◌∙◌, ap, sym, map, length}
use Rattle.rw_library.specs.Entries.{entry_name}
use Rattle.rw_anew.specs.Marks.{same_marks}
use Rattle.rw_anew.specs.Uses.{is_cited}
use Rattle.rw_anew.proofs.RoundLemmas.{early_stop}
use Rattle.rw_anew.proofs.uses.marks_at_last.Goals as goal

pub returns-then-same_marks : goal.returns-then-same_marks
returns-then-same_marks c =
    early_stop c.args.main.now c.args.entries.now c.args.proofs.now c.loop-round._round (length c.args.entries.now) c.loop-round.marks c.in_ok-next.next c.loop-round.invariant
    (c.in_ok-next.ensures ∙ ap (λ ms. map (λ e. is_cited c.args.main.now c.args.proofs.now ms (entry_name e)) c.args.entries.now) c.as_slice.ensures)
    (ap (λ ms. same_marks ms c.loop-round.marks) (sym c.as_slice-in-loop-round.ensures) ∙ ap (same_marks c.as_slice-in-loop-round.result.now) (sym c.as_slice-in-loop-round-2.ensures) ∙ sym c.same_marks.ensures ∙ c.if-same_marks.true)
    c.loop-round-test.true
