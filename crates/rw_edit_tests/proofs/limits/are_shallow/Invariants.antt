use Rattle.std.proofs.Common.{◌≡◌, drop}
use Rattle.std.specs.List.{list_all}
use Rattle.rw_faults.specs.Limits.{is_shallow}
use Rattle.rw_edit_tests.proofs.limits.are_shallow.Given as goal

abbrev pub invariant-loop-formula : goal.invariant-loop-formula
invariant-loop-formula l = list_all is_shallow (drop l.formula-index l.formulas) ≡ list_all is_shallow l.formulas
