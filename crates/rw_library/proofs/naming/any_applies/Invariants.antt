use Rattle.std.proofs.Common.{◌≡◌, drop}
use Rattle.std.specs.List.{list_any}
use Rattle.rw_library.specs.Naming.{applies}
use Rattle.rw_library.proofs.naming.any_applies.Given as goal

abbrev pub invariant-loop-formula : goal.invariant-loop-formula
invariant-loop-formula l = list_any (applies l.name) (drop l.formula-index l.formulas) ≡ list_any (applies l.name) l.formulas
