-- Which certificates a change of the table affects: those that read what differs, or are new.
use Rattle.std.specs.Prelude.{◌≡◌, ℕ, ◌+◌, ◌≤◌, Bool, List, [], ◌∷◌, take, Option, Some, None, is_some, slice_get, IsTrue, ◌⊎◌}
use Rattle.std.specs.List.{list_any}
use Rattle.std.specs.Option.{option_map}
use Rattle.rw_terms.specs.declared.term.Formula.{Formula}
use Rattle.rw_terms.specs.declared.sequent.Sequent.{Sequent}
use Rattle.rw_terms.specs.Validity.{Each}
use Rattle.rw_goals.specs.declared.library.Lemma.{Lemma}
use Rattle.rw_goals.specs.declared.library.Item.{Item}
use Rattle.rw_goals.specs.declared.library.Item.TheVariants as item
use Rattle.rw_goals.specs.declared.library.Library.{Library}
use Rattle.rw_goals.specs.Library.{parameters_of}
use Rattle.rw_citations.specs.Cited.{definition_of, lemma_of}
use Rattle.rw_citations.specs.Goal.{goal_of}
use Rattle.rw_sequents.specs.declared.line.CertLine.{CertLine}
use Rattle.rw_sequents.specs.declared.line.CertLine.TheVariants as line
use Rattle.rw_sequents.specs.declared.line.Cert.{Cert}
use Rattle.rw_sequents.specs.After.{checked}
use Rattle.rw_library.specs.Entries.{place_of, sorts_of}
use Rattle.rw_lemmas.specs.Citing.{predicates, is_unfolding}
use Rattle.rw_lemmas.specs.States.{proof_at}
use Rattle.rw_lemmas.specs.Table.{Table}

-- each predicate of a formula, of a sequent, of a lemma's statement
module _ (P : List ℕ → Type 0) where
  abbrev pub InFormula : Formula → Type 0
  InFormula f = Each P (predicates f)

  abbrev pub InSequent : Sequent → Type 0
  InSequent q = Each InFormula q.left × Each InFormula q.right

  abbrev pub InLemma : Option Lemma → Type 0
  InLemma None = Unit {0}
  InLemma (Some l) = InSequent l.sequent

-- a set of names that has with a definition the predicates of its body
abbrev pub IsClosed : List Item → (List ℕ → Bool) → Type 0
IsClosed [] has = Unit {0}
IsClosed (item.Definition d ∷ es) has = (IsTrue (has d.name) → InFormula (λ p. IsTrue (has p)) d.body) × IsClosed es has
IsClosed (item.Lemma l ∷ es) has = IsClosed es has

-- a predicate is reached from another through bodies of definitions: it is in each such set that has the other
abbrev pub Reaches : List Item → List ℕ → List ℕ → Type 0
Reaches es p q = (has : List ℕ → Bool) → IsClosed es has → IsTrue (has p) → IsTrue (has q)

-- from the entries of one table to those of another
module _ (es es' : List Item) where
  -- the lemma of a name has the same statement
  abbrev pub SameLemma : List ℕ → Type 0
  SameLemma n = lemma_of es n ≡ lemma_of es' n

  -- a predicate is defined in both with the same sorts, or in neither
  abbrev pub SameSorts : List ℕ → Type 0
  SameSorts p = option_map sorts_of (parameters_of es p) ≡ option_map sorts_of (parameters_of es' p)

  abbrev pub SameDefinition : List ℕ → Type 0
  SameDefinition p = definition_of es p ≡ definition_of es' p

  -- each definition is the same that is reached from a predicate
  abbrev pub ReadsSame : List ℕ → Type 0
  ReadsSame p = (q : List ℕ) → Reaches es p q → SameDefinition q

  -- a lemma may be cited before one place of the one table and before another of the other, or before neither
  abbrev pub SameOrder : ℕ → ℕ → List ℕ → Type 0
  SameOrder before before' n = is_some (lemma_of (take before es) n) ≡ is_some (lemma_of (take before' es') n)

  module _ (before before' : ℕ) where
    -- the lemma that a line cites is the same, and the sorts of the predicates in it
    abbrev pub LineStays : CertLine → Type 0
    LineStays (line.Cut f) = InFormula SameSorts f
    LineStays (line.Lemma n ts) = SameLemma n × SameOrder before before' n
    LineStays _ = Unit {0}

    -- the definitions are the same that are reached from a line
    abbrev pub LineReadsSame : CertLine → Type 0
    LineReadsSame (line.Cut f) = InFormula ReadsSame f
    LineReadsSame (line.Lemma n ts) = InLemma ReadsSame (lemma_of (take before es) n)
    LineReadsSame _ = Unit {0}

    -- nothing differs that a certificate of a lemma reads
    pub record ReadsNoChange (l : Lemma) (cert : Cert) : Type 0 where
      pub lines : Each LineStays cert.lines
      pub definitions : IsTrue (list_any is_unfolding cert.lines) → InSequent ReadsSame l.sequent × Each LineReadsSame cert.lines

-- the goal of an entry that is a lemma
abbrev pub goal_there : Option Item → Option Sequent
goal_there None = None
goal_there (Some (item.Definition d)) = None
goal_there (Some (item.Lemma l)) = Some (goal_of l)

-- from a table to one with another library
module _ (t : Table) (library : Library) where
  -- the lemma in a place is new, or its goal, its certificate or something differs that this reads
  abbrev pub IsAffected : ℕ → Lemma → Cert → Type 0
  IsAffected k l cert =
      goal_there (slice_get t.library.entries (place_of t.library.entries l.name)) ≡ Some (goal_of l) →
      proof_at t.proofs (place_of t.library.entries l.name) ≡ Some cert →
      ReadsNoChange t.library.entries library.entries (place_of t.library.entries l.name) k l cert → ⊥

  -- from one count of steps to another: none more, or the lines of a certificate that is affected
  abbrev pub Costs : ℕ → Item → Option Cert → ℕ → ℕ → Type 0
  Costs k (item.Definition d) o a b = b ≡ a
  Costs k (item.Lemma l) None a b = b ≡ a
  Costs k (item.Lemma l) (Some cert) a b = (b ≡ a) ⊎ (IsAffected k l cert × (b ≡ a + checked library k (goal_of l) cert))

  -- no more than that
  abbrev pub CostsAtMost : ℕ → Item → Option Cert → ℕ → ℕ → Type 0
  CostsAtMost k e o a b = (m : ℕ) × Costs k e o a m × (b ≤ m)

  -- what a list of entries from a place on costs, one after the other
  abbrev pub CostsFrom : List (Option Cert) → ℕ → List Item → ℕ → ℕ → Type 0
  CostsFrom proofs k [] a b = b ≡ a
  CostsFrom proofs k (e ∷ es) a b = (m : ℕ) × Costs k e (proof_at proofs k) a m × CostsFrom proofs (k + 1) es m b

-- from one table to another the steps are those of checking certificates that are affected, each at most once
abbrev pub OnlyAffected : Table → Table → ℕ → ℕ → Type 0
OnlyAffected t t' a b = CostsFrom t t'.library t'.proofs 0 t'.library.entries a b

-- no more than that
abbrev pub AtMostAffected : Table → Table → ℕ → ℕ → Type 0
AtMostAffected t t' a b = (m : ℕ) × OnlyAffected t t' a m × (b ≤ m)
