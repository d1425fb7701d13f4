use Rattle.std.proofs.Common.{◌≡◌, drop}
use Rattle.rw_subst.specs.Conj.{disj}
use Rattle.rw_citations.proofs.Behind.{disj_from}
use Rattle.rw_citations.proofs.joining.disj.Given as goal

abbrev pub invariant-loop-formula : goal.invariant-loop-formula
invariant-loop-formula l = disj_from l.joined (drop l.formula-index l.formulas) ≡ disj l.formulas
