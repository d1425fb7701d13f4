use Rattle.std.proofs.Common.{◌≡◌, ◌+◌, ◌≤◌, [], drop, length}
use Rattle.rw_arith.specs.Lines.{all_made}
use Rattle.rw_arith.proofs.check.check_lines.Given as goal

abbrev pub invariant-loop-line : goal.invariant-loop-line
invariant-loop-line g l = record {
  number : l.number ≡ l.line-index;
  long : length l.made ≡ l.line-index;
  rest : all_made l.left l.right l.number (drop l.line-index l.lines) l.made ≡ all_made l.left l.right 0 l.lines [];
  counted : l.steps ≡ l.fn.steps + l.line-index;
}
