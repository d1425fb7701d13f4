use Rattle.std.proofs.Common.{◌≡◌, length}
use Rattle.rw_subst.specs.Conj.{conj, conj_with}
use Rattle.rw_subst.proofs.conditions.join_behind.Given as goal

abbrev pub invariant-more : goal.invariant-more
invariant-more l = conj_with l.all l.rest ≡ conj l.fn.formulas

abbrev pub decreases-more : goal.decreases-more
decreases-more l = length l.rest
