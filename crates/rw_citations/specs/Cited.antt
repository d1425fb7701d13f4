-- The rules that cite a definition or a lemma of the library.
use Rattle.std.specs.Prelude.{ℕ, List, [], ◌∷◌, ◌++◌, map, take, Option, Some, None, bytes_eq}
use Rattle.rw_terms.specs.declared.term.Term.{Term}
use Rattle.rw_terms.specs.declared.term.Formula.{Formula}
use Rattle.rw_terms.specs.declared.term.Formula.TheOpen.{Formula-F}
use Rattle.rw_terms.specs.declared.term.Formula.TheViews.{out-Formula}
use Rattle.rw_terms.specs.declared.sequent.Sequent.{Sequent}
use Rattle.rw_terms.specs.Named.{Named}
use Rattle.rw_terms.specs.Rules.{are_of}
use Rattle.rw_subst.specs.declared.slot.Slot.TheVariants.{Var, Init, Const}
use Rattle.rw_subst.specs.declared.slot.Change.{Change}
use Rattle.rw_subst.specs.Replaced.{replaced_formula}
use Rattle.rw_goals.specs.Causes as causes
use Rattle.rw_goals.specs.declared.added.Parts.{Parts}
use Rattle.rw_goals.specs.declared.added.Parts.TheVariants.{Fails}
use Rattle.rw_goals.specs.declared.library.Definition.{Definition}
use Rattle.rw_goals.specs.declared.library.Lemma.{Lemma}
use Rattle.rw_goals.specs.declared.library.Item.{Item}
use Rattle.rw_goals.specs.declared.library.Item.TheVariants as item
use Rattle.rw_goals.specs.declared.library.Library.{Library}
use Rattle.rw_goals.specs.Library.{if_so, or_else}
use Rattle.rw_goals.specs.Premises.{Effect, effect, at_left, at_right}
use Rattle.rw_goals.specs.Cut.{is_large}
use Rattle.rw_goals.specs.Sorting.{sort_of}
use Rattle.rw_quantifiers.specs.Quantified.{if_small, typed_left, typed_right}
use Rattle.rw_citations.specs.Conj.{statement}

-- what an entry defines, if it is the definition of the predicate
abbrev pub definition_in : Item → List ℕ → Option Definition
definition_in (item.Definition d) p = if_so (bytes_eq d.name p) d
definition_in (item.Lemma l) p = None

-- the definition of a predicate
abbrev pub definition_of : List Item → List ℕ → Option Definition
definition_of [] p = None
definition_of (e ∷ es) p = or_else (definition_in e p) (definition_of es p)

-- the lemma that an entry is, if it has the name
abbrev pub lemma_in : Item → List ℕ → Option Lemma
lemma_in (item.Definition d) n = None
lemma_in (item.Lemma l) n = if_so (bytes_eq l.name n) l

-- the lemma of a name
abbrev pub lemma_of : List Item → List ℕ → Option Lemma
lemma_of [] n = None
lemma_of (e ∷ es) n = or_else (lemma_in e n) (lemma_of es n)

-- a name, in each form in which it may stand, is changed to a term
abbrev pub changes_of : List ℕ → Term → List Change
changes_of x t = record { slot = Var x; term = t } ∷ record { slot = Init x; term = t } ∷ record { slot = Const x; term = t } ∷ []

-- each parameter is changed to its term
abbrev pub changes_for : List Named → List Term → List Change
changes_for [] ts = []
changes_for (p ∷ ps) [] = []
changes_for (p ∷ ps) (t ∷ ts) = changes_of p.0 t ++ changes_for ps ts

-- a formula over parameters for these terms
abbrev pub for_terms : List Named → List Term → Formula → Formula
for_terms params ts f = replaced_formula (changes_for params ts) f

-- the same, unless it is past a limit
abbrev pub cited : List Named → List Term → Formula → Option Formula
cited params ts f = if_small (is_large (for_terms params ts f)) (for_terms params ts f)

-- by a goal's names
module _ (names : List Named) where
  -- a formula over parameters for terms of their sorts
  abbrev pub said_left : List Named → List Term → Formula → Parts
  said_left params ts f = typed_left (are_of (map (λ p. p.1) params) (map (sort_of names []) ts)) (cited params ts f)

  abbrev pub said_right : List Named → List Term → Formula → Parts
  said_right params ts f = typed_right (are_of (map (λ p. p.1) params) (map (sort_of names []) ts)) (cited params ts f)

  -- a definition's body for terms of its parameters' sorts
  abbrev pub unfolded_left : Option Definition → List Term → Parts
  unfolded_left None ts = Fails causes.sort
  unfolded_left (Some d) ts = said_left d.params ts d.body

  abbrev pub unfolded_right : Option Definition → List Term → Parts
  unfolded_right None ts = Fails causes.sort
  unfolded_right (Some d) ts = said_right d.params ts d.body

  -- the body in place of the predicate on terms
  abbrev pub unfold_left : List Item → Formula-F Formula → Parts
  unfold_left entries (Formula-F.App p ts) = unfolded_left (definition_of entries p) ts
  unfold_left entries _ = Fails causes.shape

  abbrev pub unfold_right : List Item → Formula-F Formula → Parts
  unfold_right entries (Formula-F.App p ts) = unfolded_right (definition_of entries p) ts
  unfold_right entries _ = Fails causes.shape

  -- what a lemma says of terms of its parameters' sorts
  abbrev pub lemma_left : Lemma → List Term → Parts
  lemma_left l ts = said_left l.params ts (statement l.sequent)

  -- of the lemmas before a table place and all of them: a later one may not be cited
  abbrev pub cited_left : Option Lemma → Option Lemma → List Term → Parts
  cited_left (Some l) o ts = lemma_left l ts
  cited_left None (Some l) ts = Fails causes.order
  cited_left None None ts = Fails causes.sort

-- the left predicate of this number, and the right one
abbrev pub unfold_at_left : Library → Sequent → ℕ → Effect
unfold_at_left library q i = at_left q i (λ f. unfold_left q.names library.entries (out-Formula f))

-- the same on the right
abbrev pub unfold_at_right : Library → Sequent → ℕ → Effect
unfold_at_right library q j = at_right q j (λ f. unfold_right q.names library.entries (out-Formula f))

-- the lemma of this name for these terms on the left, if it stands before the table place
abbrev pub cite : Library → ℕ → Sequent → List ℕ → List Term → Effect
cite library before q name ts = effect (cited_left q.names (lemma_of (take before library.entries) name) (lemma_of library.entries name) ts) q
