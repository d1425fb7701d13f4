-- The rules that close a goal.
use Rattle.std.specs.Prelude.{Bool, true, false, List, []}
use Rattle.std.specs.List.{list_any}
use Rattle.rw_terms.specs.declared.term.Formula.{Formula}
use Rattle.rw_terms.specs.declared.term.Formula.TheOpen.{Formula-F}
use Rattle.rw_terms.specs.declared.term.Formula.TheViews.{out-Formula}
use Rattle.rw_terms.specs.declared.sequent.Sequent.{Sequent}
use Rattle.rw_goals.specs.declared.closing.Closing.{Closing}
use Rattle.rw_goals.specs.declared.closing.Closing.TheVariants as closing
use Rattle.rw_goals.specs.Causes as causes
use Rattle.rw_terms.specs.Same.{same_term, same_formula}
use Rattle.rw_goals.specs.Premises.{Effect, Fails, Premises}

-- some left formula is the same as some right one
abbrev pub have_common : List Formula → List Formula → Bool
have_common left right = list_any (λ f. list_any (same_formula f) right) left

-- the formula `false`
abbrev pub is_false : Formula-F Formula → Bool
is_false Formula-F.False = true
is_false _ = false

-- the formula `true`
abbrev pub is_true : Formula-F Formula → Bool
is_true Formula-F.True = true
is_true _ = false

-- an equation of a term with itself
abbrev pub is_reflexive : Formula-F Formula → Bool
is_reflexive (Formula-F.Eq s t) = same_term s t
is_reflexive _ = false

-- no premise is left, or the goal is not of the rule's form
abbrev pub closes_if : Bool → Effect
closes_if true = Premises []
closes_if false = Fails 0 causes.shape

-- what each of them makes of a goal
abbrev pub closed_by : Closing → Sequent → Effect
closed_by closing.Common q = closes_if (have_common q.left q.right)
closed_by closing.False q = closes_if (list_any (λ f. is_false (out-Formula f)) q.left)
closed_by closing.True q = closes_if (list_any (λ f. is_true (out-Formula f)) q.right)
closed_by closing.Reflexive q = closes_if (list_any (λ f. is_reflexive (out-Formula f)) q.right)
