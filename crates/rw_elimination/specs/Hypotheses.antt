-- The hypotheses that an elimination uses, and its atoms.
use Rattle.std.specs.Prelude.{ℕ, ◌+◌, leb, nat_lt, Bool, true, false, cond, List, [], ◌∷◌, ◌++◌, map, length, Option, Some, None}
use Rattle.std.specs.List.{list_all}
use Rattle.rw_terms.specs.declared.term.Term.{Term}
use Rattle.rw_terms.specs.declared.term.Term.TheVariants.{Var, Init, Const, Div, Mod, Read, Fun}
use Rattle.rw_terms.specs.declared.term.Term.TheOpen.{Term-F}
use Rattle.rw_terms.specs.declared.term.Term.TheFolds.{para-Term}
use Rattle.rw_terms.specs.declared.term.Formula.{Formula}
use Rattle.rw_terms.specs.declared.term.Formula.TheOpen.{Formula-F}
use Rattle.rw_terms.specs.declared.term.Formula.TheViews.{out-Formula}
use Rattle.rw_arith.specs.declared.line.Ref.{Ref}
use Rattle.rw_arith.specs.declared.line.Ref.TheVariants.{Left, Right}
use Rattle.rw_arith.specs.declared.poly.Summand.{Summand}
use Rattle.rw_arith.specs.declared.poly.Expansion.{Expansion}
use Rattle.rw_arith.specs.declared.poly.Expansion.TheVariants.{Polynomial, Unfit, Wide}
use Rattle.rw_arith.specs.Given.{given_by_left, given_by_right}
use Rattle.rw_elimination.specs.declared.hypotheses.Hypothesis.{Hypothesis}

-- a constant, or a multiple of one atom
abbrev pub is_single : Summand → Bool
is_single s = leb (length s.atoms) 1

-- each product has at most one factor
abbrev pub is_linear : List Summand → Bool
is_linear p = list_all is_single p

-- the atoms of a term in the order of its text, without those within other atoms
abbrev pub occurrences_step : Term-F (Term × List Term) → List Term
occurrences_step (Term-F.Lit n) = []
occurrences_step (Term-F.Var x) = Var x ∷ []
occurrences_step (Term-F.Init x) = Init x ∷ []
occurrences_step (Term-F.Const x) = Const x ∷ []
occurrences_step (Term-F.Bound _) = []
occurrences_step (Term-F.Neg a) = a.1
occurrences_step (Term-F.Add a b) = a.1 ++ b.1
occurrences_step (Term-F.Sub a b) = a.1 ++ b.1
occurrences_step (Term-F.Mul a b) = a.1 ++ b.1
occurrences_step (Term-F.Div a b) = Div a.0 b.0 ∷ []
occurrences_step (Term-F.Mod a b) = Mod a.0 b.0 ∷ []
occurrences_step (Term-F.Read a i) = Read a.0 i.0 ∷ []
occurrences_step (Term-F.Put _ _ _) = []
occurrences_step (Term-F.Fun f args) = Fun f (map (λ a. a.0) args) ∷ []

-- the same of every term
abbrev pub occurrences : Term → List Term
occurrences = para-Term (List Term) occurrences_step

-- those of an equation or inequality
abbrev pub atoms_layer : Formula-F Formula → List Term
atoms_layer (Formula-F.Eq s t) = occurrences s ++ occurrences t
atoms_layer (Formula-F.Less s t) = occurrences s ++ occurrences t
atoms_layer (Formula-F.AtMost s t) = occurrences s ++ occurrences t
atoms_layer _ = []

-- the atoms of a formula that can give a polynomial
abbrev pub atoms_in : Formula → List Term
atoms_in f = atoms_layer (out-Formula f)

-- an equation
abbrev pub is_equation_layer : Formula-F Formula → Bool
is_equation_layer (Formula-F.Eq s t) = true
is_equation_layer _ = false

-- whether what it gives is 0, and not just at least 0
abbrev pub is_equation : Formula → Bool
is_equation f = is_equation_layer (out-Formula f)

-- the number of the formula at a place: lines name formulas by numbers of 32 bits
abbrev pub number_at : ℕ → Option ℕ
number_at at = cond (nat_lt at 4294967295) (Some (at + 1)) None

-- a hypothesis is used where it has a polynomial each of whose products has at most one factor
abbrev pub used_if : Ref → Formula → Expansion → List Hypothesis
used_if of f (Polynomial p) = cond (is_linear p) (record { of = of; is_equation = is_equation f; summands = p; atoms = atoms_in f } ∷ []) []
used_if of f Unfit = []
used_if of f Wide = []

-- the same where it can be named
abbrev pub used_by : (ℕ → Ref) → Option ℕ → Formula → Expansion → List Hypothesis
used_by side None f e = []
used_by side (Some n) f e = used_if (side n) f e

-- the left formulas from a place on that are used
abbrev pub used_left : ℕ → List Formula → List Hypothesis
used_left at [] = []
used_left at (f ∷ fs) = used_by Left (number_at at) f (given_by_left f) ++ used_left (at + 1) fs

-- the right ones
abbrev pub used_right : ℕ → List Formula → List Hypothesis
used_right at [] = []
used_right at (f ∷ fs) = used_by Right (number_at at) f (given_by_right f) ++ used_right (at + 1) fs

-- the left ones come first
abbrev pub used : List Formula → List Formula → List Hypothesis
used left right = used_left 0 left ++ used_right 0 right
