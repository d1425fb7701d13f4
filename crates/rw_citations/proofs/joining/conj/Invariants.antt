use Rattle.std.proofs.Common.{◌≡◌, drop}
use Rattle.rw_subst.specs.Conj.{conj}
use Rattle.rw_citations.proofs.Behind.{conj_from}
use Rattle.rw_citations.proofs.joining.conj.Given as goal

abbrev pub invariant-loop-formula : goal.invariant-loop-formula
invariant-loop-formula l = conj_from l.joined (drop l.formula-index l.formulas) ≡ conj l.formulas
