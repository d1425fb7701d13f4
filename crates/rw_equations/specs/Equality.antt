-- The rules of equality.
use Rattle.std.specs.Prelude.{ℕ, ◌-◌, Bool, true, false, ◌&&◌, nat_eq, is_some, List, [], ◌∷◌, slice_set, Option, Some, None}
use Rattle.rw_terms.specs.declared.term.Term.{Term}
use Rattle.rw_terms.specs.declared.term.Formula.{Formula}
use Rattle.rw_terms.specs.declared.term.Formula.TheVariants.{Eq, AtMost}
use Rattle.rw_terms.specs.declared.term.Formula.TheOpen.{Formula-F}
use Rattle.rw_terms.specs.declared.term.Formula.TheViews.{out-Formula}
use Rattle.rw_terms.specs.declared.sequent.Sequent.{Sequent}
use Rattle.rw_terms.specs.Named.{Named}
use Rattle.rw_goals.specs.declared.added.Parts.{Parts}
use Rattle.rw_goals.specs.declared.added.Parts.TheVariants.{Fails, One, Two}
use Rattle.rw_goals.specs.Causes as causes
use Rattle.rw_goals.specs.Premises as effects
use Rattle.rw_goals.specs.Premises.{Effect, nothing, on_left, on_right, numbered, effect, principal, at_right}
use Rattle.rw_goals.specs.Cut.{is_large}
use Rattle.rw_goals.specs.Sorting.{sort_of}
use Rattle.rw_equations.specs.declared.equality.Rewritten.{Rewritten}
use Rattle.rw_equations.specs.declared.equality.Rewritten.TheVariants as rewritten
use Rattle.rw_axioms.specs.Axioms.{is_int}
use Rattle.rw_equations.specs.Rewritten.{rewritten_formula}

-- an equation of integers by two orders
abbrev pub two_orders : Bool → Term → Term → Parts
two_orders true s t = Two (on_right (AtMost s t ∷ [])) (on_right (AtMost t s ∷ []))
two_orders false s t = Fails causes.shape

-- of integers over the names
abbrev pub equal_right : List Named → Formula-F Formula → Parts
equal_right names (Formula-F.Eq s t) = two_orders (is_int names s && is_int names t) s t
equal_right names _ = Fails causes.shape

-- the right equation of this number
abbrev pub equation_right : Sequent → ℕ → Effect
equation_right q j = at_right q j (λ f. equal_right q.names (out-Formula f))

-- the sides of an equation exchanged; the equation stays
abbrev pub flipped : Formula-F Formula → Parts
flipped (Formula-F.Eq s t) = One (on_left (Eq t s ∷ []))
flipped _ = Fails causes.shape

-- the left equation of this number
abbrev pub flip : Sequent → ℕ → Effect
flip q i = principal (numbered q.left i) q (λ f. flipped (out-Formula f))

-- an equation of terms over the names, as its sides
abbrev pub sides_if : Bool → Term → Term → Option (Term × Term)
sides_if true s t = Some (s, t)
sides_if false s t = None

-- the sides of an equation of terms over the names
abbrev pub sides : List Named → Formula-F Formula → Option (Term × Term)
sides names (Formula-F.Eq s t) = sides_if (is_some (sort_of names [] s) && is_some (sort_of names [] t)) s t
sides names _ = None

-- a rewritten formula, unless it is past a limit
abbrev pub if_small : Bool → Formula → Rewritten
if_small true f = rewritten.Fails causes.too_large
if_small false f = rewritten.To f

-- a formula rewritten by the sides of an equation
abbrev pub rewritten_by : Option (Term × Term) → Formula → Rewritten
rewritten_by None f = rewritten.Fails causes.shape
rewritten_by (Some e) f = if_small (is_large (rewritten_formula e.0 e.1 f)) (rewritten_formula e.0 e.1 f)

-- by the equation and the formula that are found
abbrev pub rewriting : List Named → Option Formula → Option Formula → Rewritten
rewriting names None o = rewritten.Fails causes.no_formula
rewriting names (Some e) None = rewritten.Fails causes.no_formula
rewriting names (Some e) (Some f) = rewritten_by (sides names (out-Formula e)) f

-- an equation does not rewrite itself
abbrev pub unless_itself : Bool → Option Formula → Rewritten → Rewritten
unless_itself true None r = rewritten.Fails causes.no_formula
unless_itself true (Some f) r = rewritten.Fails causes.shape
unless_itself false o r = r

-- the rewritten formula in its place
abbrev pub placed : Rewritten → (Formula → Sequent) → Effect
placed (rewritten.Fails cause) put = effects.Fails 0 cause
placed (rewritten.To f) put = effect (One nothing) (put f)

-- another formula in the place of the left one, and of the right one, of this number
abbrev pub left_with : Sequent → ℕ → Formula → Sequent
left_with q m f = record { names = q.names; left = slice_set q.left (m - 1) f; right = q.right }

abbrev pub right_with : Sequent → ℕ → Formula → Sequent
right_with q j f = record { names = q.names; left = q.left; right = slice_set q.right (j - 1) f }

-- the left equation of number i rewrites the left formula of number m
abbrev pub rewrite_left : Sequent → ℕ → ℕ → Effect
rewrite_left q i m =
    placed (unless_itself (nat_eq i m) (numbered q.left i) (rewriting q.names (numbered q.left i) (numbered q.left m))) (left_with q m)

-- and the right formula of number j
abbrev pub rewrite_right : Sequent → ℕ → ℕ → Effect
rewrite_right q i j = placed (rewriting q.names (numbered q.left i) (numbered q.right j)) (right_with q j)
