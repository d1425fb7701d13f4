-- What a library is to be like for its definitions and lemmas to be used.
use Rattle.std.specs.Prelude.{◌≡◌, ℕ, List, [], ◌∷◌, ◌++◌, take, Option, None, Some, IsTrue}
use Rattle.rw_terms.specs.declared.sequent.Sequent.{Sequent}
use Rattle.rw_terms.specs.Truth as truth
use Rattle.rw_terms.specs.Validity.{Each, Valid}
use Rattle.rw_goals.specs.declared.library.Lemma.{Lemma}
use Rattle.rw_goals.specs.declared.library.Item.{Item}
use Rattle.rw_goals.specs.declared.library.Item.TheVariants as item
use Rattle.rw_goals.specs.declared.library.Library.{Library}
use Rattle.rw_goals.specs.Library.{definitions_of, parameters_of}
use Rattle.rw_goals.specs.Sorting.{keeps_rules}
use Rattle.rw_citations.specs.Cited.{lemma_of}
use Rattle.rw_citations.specs.Goal.{goal_of}

-- of all entries
module _ (all : List Item) where
  -- A definition is of a new predicate, and its body keeps the rules of sorts over its parameters by the entries before it.
  -- So do a lemma's formulas, by all entries.
  abbrev pub IsMade : List Item → Item → Type 0
  IsMade before (item.Definition d) = (parameters_of before d.name ≡ None) × IsTrue (keeps_rules d.params before d.body [])
  IsMade before (item.Lemma l) =
      Each (λ f. IsTrue (keeps_rules l.params all f [])) l.sequent.left × Each (λ f. IsTrue (keeps_rules l.params all f [])) l.sequent.right

  -- so are they all, behind those before them
  abbrev pub AreMade : List Item → List Item → Type 0
  AreMade before [] = Unit {0}
  AreMade before (e ∷ es) = IsMade before e × AreMade (before ++ e ∷ []) es

abbrev pub WellMade : Library → Type 0
WellMade library = AreMade library.entries [] library.entries

-- a lemma's statement over all of its parameters
abbrev pub over_parameters : Lemma → Sequent
over_parameters l = record { names = l.params; left = l.sequent.left; right = l.sequent.right }

-- if the lemma is there, its goal is valid
abbrev pub IsValid : List truth.Definition → Option Lemma → Type 0
IsValid ds None = Unit {0}
IsValid ds (Some l) = Valid ds (goal_of l)

-- so is the lemma of this name, if it stands before a table place
abbrev pub NamedValid : Library → ℕ → List ℕ → Type 0
NamedValid library before n = IsValid (definitions_of library) (lemma_of (take before library.entries) n)
