-- What a rule makes of a goal.
use Rattle.std.specs.Prelude.{◌≡◌, ℕ, zero, suc, ◌-◌, Bool, true, false, List, [], ◌∷◌, ◌++◌, slice_get, remove, Option, Some, None}
use Rattle.std.specs.List.{list_any}
use Rattle.rw_terms.specs.declared.term.Formula.{Formula}
use Rattle.rw_terms.specs.declared.sequent.Sequent.{Sequent}
use Rattle.rw_goals.specs.declared.added.Added.{Added}
use Rattle.rw_goals.specs.declared.added.Parts.{Parts}
use Rattle.rw_goals.specs.declared.added.Parts.TheVariants as parts
use Rattle.rw_goals.specs.declared.outcome.Outcome.{Outcome}
use Rattle.rw_goals.specs.declared.outcome.Outcome.TheVariants as outcome
use Rattle.rw_goals.specs.Causes as causes
use Rattle.rw_goals.specs.Weight.{is_heavy}

-- a line fails, with the arithmetic line, or 0, and the cause; or these premises stand for the goal, the first on top
pub data Effect : Type 0 where
  Fails : ℕ → ℕ → Effect
  Premises : List Sequent → Effect

-- a premise that has no more than the goal
abbrev pub nothing : Added
nothing = record { names = []; left = []; right = [] }

-- formulas for the left, and for the right
abbrev pub on_left : List Formula → Added
on_left fs = record { names = []; left = fs; right = [] }

abbrev pub on_right : List Formula → Added
on_right fs = record { names = []; left = []; right = fs }

-- new names and formulas go last
abbrev pub with_added : Sequent → Added → Sequent
with_added q a = record { names = q.names ++ a.names; left = q.left ++ a.left; right = q.right ++ a.right }

-- the premises, unless one passes the limit
abbrev pub unless_heavy : Bool → List Sequent → Effect
unless_heavy true premises = Fails 0 causes.too_large
unless_heavy false premises = Premises premises

-- the premises, if none passes the limit
abbrev pub limited : List Sequent → Effect
limited premises = unless_heavy (list_any is_heavy premises) premises

-- what the parts of a rule make of a goal
abbrev pub effect : Parts → Sequent → Effect
effect (parts.Fails cause) q = Fails 0 cause
effect (parts.One a) q = limited (with_added q a ∷ [])
effect (parts.Two a b) q = limited (with_added q a ∷ with_added q b ∷ [])

-- the formula of this number, counted from 1
abbrev pub numbered : List Formula → ℕ → Option Formula
numbered fs zero = None
numbered fs (suc i) = slice_get fs i

-- the rule at the principal formula, and the rest of the goal
abbrev pub principal : Option Formula → Sequent → (Formula → Parts) → Effect
principal None rest rule = Fails 0 causes.no_formula
principal (Some f) rest rule = effect (rule f) rest

-- the left formula of this number is the principal one, and is taken out
abbrev pub at_left : Sequent → ℕ → (Formula → Parts) → Effect
at_left q i = principal (numbered q.left i) (record { names = q.names; left = remove q.left (i - 1); right = q.right })

-- the same on the right
abbrev pub at_right : Sequent → ℕ → (Formula → Parts) → Effect
at_right q i = principal (numbered q.right i) (record { names = q.names; left = q.left; right = remove q.right (i - 1) })

-- what an outcome and the goal as it is then say
abbrev pub told : Outcome → Sequent → Effect
told (outcome.Fails sub cause) q = Fails sub cause
told outcome.Closes q = Premises []
told outcome.One q = Premises (q ∷ [])
told (outcome.Two r) q = Premises (q ∷ r ∷ [])

-- the outcome, with the goal as it is then, is this effect
abbrev pub Gives : Outcome → Sequent → Effect → Type 0
Gives o q e = told o q ≡ e
