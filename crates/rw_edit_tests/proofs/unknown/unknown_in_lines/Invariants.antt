use Rattle.std.proofs.Common.{◌≡◌, drop, map}
use Rattle.rw_faults.specs.Faults.{first_of_names}
use Rattle.rw_edit_tests.specs.Refusals.{unknown_in_line}
use Rattle.rw_edit_tests.proofs.unknown.unknown_in_lines.Given as goal

abbrev pub invariant-loop-line : goal.invariant-loop-line
invariant-loop-line l = first_of_names (map (unknown_in_line l.heads l.entries) (drop l.line-index l.lines)) ≡ first_of_names (map (unknown_in_line l.heads l.entries) l.lines)
