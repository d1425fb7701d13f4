use Rattle.std.proofs.Common.{◌≡◌, ◌+◌, arith, length, ◌≤◌, sym, ◌∙◌}
use Rattle.std.proofs.lemmas.Result.{err_from_is_err_and}
use Rattle.rw_arith.proofs.Counting.{stopped}
use Rattle.rw_arith.proofs.Refuting.{none_left, refuted}
use Rattle.rw_arith.proofs.check.check_lines.Goals as goal

pub returns-then-refutes-clause-refuted : goal.returns-then-refutes-clause-refuted
returns-then-refutes-clause-refuted g c =
    let past : length c.args.lines.now ≤ c.loop-line.line-index = omega arith in
    refuted c.args.left.now c.args.right.now c.args.lines.now
    (none_left c.args.left.now c.args.right.now c.args.lines.now c.loop-line.made c.as_slice.result.now c.loop-line.number c.loop-line.line-index past c.loop-line.invariant.rest c.as_slice.ensures
    (sym c.if-refutes.true ∙ c.refutes.ensures))

pub returns-in_err-make-clause-cost : goal.returns-in_err-make-clause-cost
returns-in_err-make-clause-cost g c =
    let p = err_from_is_err_and c.from_residual.result c.from_residual.ensures.1 in
    let n : c.loop-line.number ≡ c.loop-line.line-index = c.loop-line.invariant.number in
    let s : c.loop-line.steps ≡ c.args.steps.now + c.loop-line.line-index = c.loop-line.invariant.counted in
    let t : c.tick.new.self ≡ c.loop-line.steps + 1 = c.tick.ensures in
    rw (p.1, p.2)
    (stopped c.args.left.now c.args.right.now c.args.lines.now c.loop-line.made c.loop-line.number c.loop-line.line-index c.args.steps.now c.tick.new.self _ c.in_err-make.field-0.0 n
    c.loop-line-test.true c.loop-line.invariant.rest (omega (arith, n, s, t)) (c.in_err-make.ensures))
