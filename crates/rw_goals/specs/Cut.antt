-- The rules that ask nothing of a formula's form.
use Rattle.std.specs.Prelude.{Bool, true, false, ◌||◌, ltb, [], ◌∷◌}
use Rattle.rw_terms.specs.declared.term.Formula.{Formula}
use Rattle.rw_terms.specs.declared.sequent.Sequent.{Sequent}
use Rattle.rw_terms.specs.Size.{formula_weight, formula_depth}
use Rattle.rw_goals.specs.declared.added.Parts.{Parts}
use Rattle.rw_goals.specs.declared.added.Parts.TheVariants.{Fails, One, Two}
use Rattle.rw_goals.specs.declared.library.Library.{Library}
use Rattle.rw_goals.specs.Causes as causes
use Rattle.rw_goals.specs.Sorting.{keeps_rules}
use Rattle.rw_goals.specs.Premises.{Effect, effect, nothing, on_left, on_right}

-- a formula past a limit
abbrev pub is_large : Formula → Bool
is_large f = ltb 1024 (formula_weight f) || ltb 64 (formula_depth f)

-- the formula to show, and then to use, if it keeps the rules of sorts and the limits
abbrev pub cut_parts : Bool → Bool → Formula → Parts
cut_parts false large f = Fails causes.sort
cut_parts true true f = Fails causes.too_large
cut_parts true false f = Two (on_right (f ∷ [])) (on_left (f ∷ []))

-- what a cut with a formula makes of a goal
abbrev pub cut : Library → Formula → Sequent → Effect
cut library f q = effect (cut_parts (keeps_rules q.names library.entries f []) (is_large f) f) q

-- the premise has no more than what is left of the goal
abbrev pub leave_out : Formula → Parts
leave_out f = One nothing
