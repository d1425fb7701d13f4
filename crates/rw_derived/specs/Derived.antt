-- The formulas, frames and scopes that the basic laws derive from a specification.
use Rattle.std.specs.Prelude.{ℕ, not, List, [], ◌∷◌, ◌++◌, map, filter, Option, Some, None}
use Rattle.rw_terms.specs.declared.term.Sort.{Sort}
use Rattle.rw_terms.specs.declared.term.Sort.TheVariants.{Int}
use Rattle.rw_terms.specs.declared.term.Term.{Term}
use Rattle.rw_terms.specs.declared.term.Term.TheVariants as term
use Rattle.rw_terms.specs.declared.term.Formula.{Formula}
use Rattle.rw_terms.specs.declared.term.Formula.TheVariants as formula
use Rattle.rw_terms.specs.declared.scope.Entry.{Entry}
use Rattle.rw_terms.specs.declared.scope.Kind.TheVariants as kind
use Rattle.rw_terms.specs.Sorts.{variable_sort}
use Rattle.rw_terms.specs.Rules.{sort_in}
use Rattle.rw_faults.specs.Initial.{is_listed}
use Rattle.rw_subst.specs.declared.slot.Slot.TheVariants as slot
use Rattle.rw_subst.specs.declared.slot.Change.{Change}
use Rattle.rw_subst.specs.Replaced.{replaced_formula, to_initial, from_initial}
use Rattle.rw_subst.specs.Conj.{conj}
use Rattle.rw_subst.specs.Definedness.{definedness_of}
use Rattle.rw_programs.specs.declared.prog.Pin.{Pin}
use Rattle.rw_programs.specs.declared.prog.Spec.{Spec}

-- the postcondition where nothing has changed: the frame's initial variables are its variables
abbrev pub unchanged_post : Spec → Formula
unchanged_post w = replaced_formula (map from_initial w.frame) w.post

-- the precondition, said of the state before: the frame's variables are its initial variables
abbrev pub initial_pre : Spec → Formula
initial_pre w = replaced_formula (map to_initial w.frame) w.pre

-- each variable is changed to the term in its place
abbrev pub set_to : List (List ℕ) → List Term → List Change
set_to [] terms = []
set_to (x ∷ names) [] = []
set_to (x ∷ names) (t ∷ terms) = record { slot = slot.Var x; term = t } ∷ set_to names terms

-- the postcondition after an assignment, where nothing else has changed
abbrev pub assigned_post : Spec → List (List ℕ) → List Term → Formula
assigned_post w names terms = replaced_formula (set_to names terms ++ map from_initial w.frame) w.post

-- what is to hold before an assignment so that the postcondition holds after it: the assignment is defined, too
abbrev pub followed_post : List Entry → Spec → List (List ℕ) → List Term → Formula
followed_post scope w names terms = formula.And (replaced_formula (set_to names terms) w.post) (definedness_of scope terms)

-- each initial variable is changed to the constant in its place
abbrev pub pinned_to : List (List ℕ) → List (List ℕ) → List Change
pinned_to [] names = []
pinned_to (x ∷ frame) [] = []
pinned_to (x ∷ frame) (c ∷ names) = record { slot = slot.Init x; term = term.Const c } ∷ pinned_to frame names

-- the formula with constants for the frame's initial variables
abbrev pub pinned : List (List ℕ) → List (List ℕ) → Formula → Formula
pinned frame names f = replaced_formula (pinned_to frame names) f

-- a constant for each variable, with its value
abbrev pub pins_for : List (List ℕ) → List (List ℕ) → List Pin
pins_for [] names = []
pins_for (x ∷ frame) [] = []
pins_for (x ∷ frame) (c ∷ names) = record { name = c; term = term.Var x } ∷ pins_for frame names

-- a sort that is known, or else that of integers
abbrev pub sort_or_int : Option Sort → Sort
sort_or_int None = Int
sort_or_int (Some sort) = sort

abbrev pub constant : List ℕ → Option Sort → Entry
constant x sort = record { name = x; sort = sort_or_int sort; kind = kind.Constant }

-- the constants for variables, with their sorts
abbrev pub constants_for : List Entry → List (List ℕ) → List (List ℕ) → List Entry
constants_for scope [] names = []
constants_for scope (x ∷ frame) [] = []
constants_for scope (x ∷ frame) (c ∷ names) = constant c (variable_sort scope x) ∷ constants_for scope frame names

-- the scope with constants for variables
abbrev pub with_constants : List Entry → List (List ℕ) → List (List ℕ) → List Entry
with_constants scope frame names = scope ++ constants_for scope frame names

-- the scope with a constant that has the value of a term
abbrev pub with_constant : List Entry → List ℕ → Term → List Entry
with_constant scope x t = scope ++ constant x (sort_in scope [] t) ∷ []

-- the precondition, and that the constant has the value of the term
abbrev pub pinned_pre : Spec → List ℕ → Term → Formula
pinned_pre w x t = formula.And w.pre (formula.Eq (term.Const x) t)

-- the frame without some names
abbrev pub without : List (List ℕ) → List (List ℕ) → List (List ℕ)
without names frame = filter (λ x. not (is_listed names x)) frame

-- the postcondition where these names have not changed
abbrev pub contracted_post : Spec → List (List ℕ) → Formula
contracted_post w names = replaced_formula (map from_initial names) w.post

-- a variable has its first value
abbrev pub keeps_value : List ℕ → Formula
keeps_value x = formula.Eq (term.Var x) (term.Init x)

-- the postcondition, and that each of these names has its first value
abbrev pub expanded_post : Spec → List (List ℕ) → Formula
expanded_post w names = conj (w.post ∷ map keeps_value names)
