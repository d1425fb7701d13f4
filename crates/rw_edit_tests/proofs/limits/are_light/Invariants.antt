use Rattle.std.proofs.Common.{◌≡◌, drop}
use Rattle.std.specs.List.{list_all}
use Rattle.rw_faults.specs.Limits.{is_light}
use Rattle.rw_edit_tests.proofs.limits.are_light.Given as goal

abbrev pub invariant-loop-formula : goal.invariant-loop-formula
invariant-loop-formula l = list_all is_light (drop l.formula-index l.formulas) ≡ list_all is_light l.formulas
