use Rattle.std.proofs.Common.{◌≡◌, drop}
use Rattle.std.specs.List.{list_any}
use Rattle.rw_lemmas.specs.Differing.{meets}
use Rattle.rw_lemmas.proofs.staying.some_meets.Given as goal

abbrev pub invariant-loop-formula : goal.invariant-loop-formula
invariant-loop-formula l = list_any (meets l.names) (drop l.formula-index l.formulas) ≡ list_any (meets l.names) l.formulas
