use Rattle.std.proofs.Common.{◌≡◌, drop}
use Rattle.rw_edit_tests.specs.Entering.{ill_formed_from}
use Rattle.rw_edit_tests.proofs.entering.ill_formed_from.Given as goal

abbrev pub invariant-loop-formula : goal.invariant-loop-formula
invariant-loop-formula l = ill_formed_from l.scope l.heads l.number (drop l.formula-index l.formulas) ≡ ill_formed_from l.scope l.heads l.first l.formulas
