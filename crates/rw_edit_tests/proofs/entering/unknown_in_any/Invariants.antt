use Rattle.std.proofs.Common.{◌≡◌, drop, map}
use Rattle.rw_faults.specs.Faults.{first_of_names, unknown_in}
use Rattle.rw_edit_tests.proofs.entering.unknown_in_any.Given as goal

abbrev pub invariant-loop-formula : goal.invariant-loop-formula
invariant-loop-formula l = first_of_names (map (unknown_in l.scope l.heads) (drop l.formula-index l.formulas)) ≡ first_of_names (map (unknown_in l.scope l.heads) l.formulas)
