-- The rules of the connectives, by the principal formula.
use Rattle.std.specs.Prelude.{[], ◌∷◌}
use Rattle.rw_terms.specs.declared.term.Formula.{Formula}
use Rattle.rw_terms.specs.declared.term.Formula.TheOpen.{Formula-F}
use Rattle.rw_terms.specs.declared.term.Formula.TheViews.{out-Formula}
use Rattle.rw_goals.specs.declared.added.Parts.{Parts}
use Rattle.rw_goals.specs.declared.added.Parts.TheVariants.{Fails, One, Two}
use Rattle.rw_goals.specs.declared.connectives.Connective.{Connective}
use Rattle.rw_goals.specs.declared.connectives.Connective.TheVariants.{Not, And, Or, Imp}
use Rattle.rw_goals.specs.Causes as causes
use Rattle.rw_goals.specs.Premises.{on_left, on_right}

-- `not A` on the left: A on the right
abbrev pub not_left : Formula-F Formula → Parts
not_left (Formula-F.Not a) = One (on_right (a ∷ []))
not_left _ = Fails causes.shape

-- `not A` on the right: A on the left
abbrev pub not_right : Formula-F Formula → Parts
not_right (Formula-F.Not a) = One (on_left (a ∷ []))
not_right _ = Fails causes.shape

-- `A and B` on the left: A and B on the left
abbrev pub and_left : Formula-F Formula → Parts
and_left (Formula-F.And a b) = One (on_left (a ∷ b ∷ []))
and_left _ = Fails causes.shape

-- `A and B` on the right: A, and then B, on the right
abbrev pub and_right : Formula-F Formula → Parts
and_right (Formula-F.And a b) = Two (on_right (a ∷ [])) (on_right (b ∷ []))
and_right _ = Fails causes.shape

-- `A or B` on the left: A, and then B, on the left
abbrev pub or_left : Formula-F Formula → Parts
or_left (Formula-F.Or a b) = Two (on_left (a ∷ [])) (on_left (b ∷ []))
or_left _ = Fails causes.shape

-- `A or B` on the right: A and B on the right
abbrev pub or_right : Formula-F Formula → Parts
or_right (Formula-F.Or a b) = One (on_right (a ∷ b ∷ []))
or_right _ = Fails causes.shape

-- `A => B` on the left: A on the right, and then B on the left
abbrev pub imp_left : Formula-F Formula → Parts
imp_left (Formula-F.Imp a b) = Two (on_right (a ∷ [])) (on_left (b ∷ []))
imp_left _ = Fails causes.shape

-- `A => B` on the right: A on the left and B on the right
abbrev pub imp_right : Formula-F Formula → Parts
imp_right (Formula-F.Imp a b) = One (record { names = []; left = a ∷ []; right = b ∷ [] })
imp_right _ = Fails causes.shape

-- the rule of a connective on the left, and on the right
abbrev pub left_rule : Connective → Formula → Parts
left_rule Not f = not_left (out-Formula f)
left_rule And f = and_left (out-Formula f)
left_rule Or f = or_left (out-Formula f)
left_rule Imp f = imp_left (out-Formula f)

-- the same on the right
abbrev pub right_rule : Connective → Formula → Parts
right_rule Not f = not_right (out-Formula f)
right_rule And f = and_right (out-Formula f)
right_rule Or f = or_right (out-Formula f)
right_rule Imp f = imp_right (out-Formula f)
