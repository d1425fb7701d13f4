use Rattle.std.proofs.Common.{◌∙◌, ap, sym}
use Rattle.std.specs.List.{slice_get}
use Rattle.std.specs.Option.{option_copied}
use Rattle.rw_anew.specs.Marks.{marks_and_cites}
use Rattle.rw_anew.proofs.RoundLemmas.{marked_skip, marked_found}
use Rattle.rw_anew.proofs.uses.marked_cites.Goals as goal

pub loop-i-preserved : goal.loop-i-preserved
loop-i-preserved c =
    marked_skip c.args.name.now c.args.marks.now c.args.proofs.now c.loop-i.i c.marks_and_cites.result c.loop-i-test.true
    (c.marks_and_cites.ensures
    ∙ ap (λ o. marks_and_cites c.args.name.now o (option_copied c.at.result)) c.at-mark.ensures
    ∙ ap (marks_and_cites c.args.name.now (slice_get c.args.marks.now c.loop-i.i)) c.at.ensures)
    c.if-marks_and_cites.false
    ∙ c.loop-i.invariant

pub returns-then-marks_and_cites : goal.returns-then-marks_and_cites
returns-then-marks_and_cites c =
    sym (marked_found c.args.name.now c.args.marks.now c.args.proofs.now c.loop-i.i c.marks_and_cites.result c.loop-i-test.true
    (c.marks_and_cites.ensures
    ∙ ap (λ o. marks_and_cites c.args.name.now o (option_copied c.at.result)) c.at-mark.ensures
    ∙ ap (marks_and_cites c.args.name.now (slice_get c.args.marks.now c.loop-i.i)) c.at.ensures)
    c.if-marks_and_cites.true)
    ∙ c.loop-i.invariant
