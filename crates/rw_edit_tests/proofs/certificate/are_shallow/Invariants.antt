use Rattle.std.proofs.Common.{◌≡◌, drop}
use Rattle.std.specs.List.{list_all}
use Rattle.rw_faults.specs.Limits.{is_shallow}
use Rattle.rw_edit_tests.specs.Refusals.{passes, is_shallow_term}
use Rattle.rw_edit_tests.proofs.certificate.are_shallow.Given as goal

abbrev pub invariant-loop-line : goal.invariant-loop-line
invariant-loop-line l = list_all (passes is_shallow is_shallow_term) (drop l.line-index l.lines) ≡ list_all (passes is_shallow is_shallow_term) l.lines
