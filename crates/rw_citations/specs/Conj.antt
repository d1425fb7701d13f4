-- What a sequent says as a formula.
use Rattle.std.specs.Prelude.{◌<◌, ◌⊎◌, length, Option, Some, None}
use Rattle.rw_terms.specs.declared.term.Formula.{Formula}
use Rattle.rw_terms.specs.declared.term.Formula.TheVariants.{And, Or, Imp}
use Rattle.rw_terms.specs.declared.sequent.Sequent.{Sequent}
use Rattle.rw_subst.specs.Conj.{conj, disj}

-- where each left formula holds, some right formula holds
abbrev pub statement : Sequent → Formula
statement q = Imp (conj q.left) (disj q.right)

-- more formulas stand on a side than a formula may be deep
abbrev pub IsLong : Sequent → Type 0
IsLong q = (64 < length q.left) ⊎ (64 < length q.right)

-- one more formula behind those that are joined, if any are
abbrev pub and_also : Option Formula → Formula → Formula
and_also None g = g
and_also (Some f) g = And f g

abbrev pub or_also : Option Formula → Formula → Formula
or_also None g = g
or_also (Some f) g = Or f g
