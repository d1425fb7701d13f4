-- What the statuses of the table show, and that its definitions are in order.
use Rattle.std.specs.Prelude.{◌≡◌, ℕ, Bool, List, Some, slice_get, IsTrue}
use Rattle.rw_terms.specs.Validity.{Valid}
use Rattle.rw_goals.specs.declared.library.Definition.{Definition}
use Rattle.rw_goals.specs.declared.library.Lemma.{Lemma}
use Rattle.rw_goals.specs.declared.library.Item.TheVariants as item
use Rattle.rw_goals.specs.declared.library.Library.{Library}
use Rattle.rw_goals.specs.Library.{definitions_of}
use Rattle.rw_citations.specs.Goal.{goal_of}
use Rattle.rw_citations.specs.WellMade.{WellMade}
use Rattle.rw_sequents.specs.declared.line.Cert.{Cert}
use Rattle.rw_sequents.specs.Cited.{AllCited}
use Rattle.rw_sequents.specs.Table.{LemmaAt, CertAt}
use Rattle.rw_lemmas.specs.declared.status.LemmaStatus.TheVariants as status
use Rattle.rw_lemmas.specs.Table.{Table, anew}
use Rattle.rw_lemmas.specs.Affected.{InFormula, Reaches}

-- the lemma in a place is good
abbrev pub IsGood : Table → ℕ → Type 0
IsGood t p = slice_get (anew t) p ≡ Some status.Good

-- In a table that is well made the lemmas are valid that are good and cite such lemmas alone.
abbrev pub GoodIsValid : Type 0
GoodIsValid =
    (t : Table) (used : List ℕ → Bool) → WellMade t.library →
    ((p : ℕ) (l : Lemma) (cert : Cert) → LemmaAt t.library p l → CertAt t.library t.proofs p cert → IsTrue (used l.name) → AllCited (λ n. IsTrue (used n)) cert) →
    ((p : ℕ) (l : Lemma) → LemmaAt t.library p l → IsTrue (used l.name) → IsGood t p) →
    (p : ℕ) (l : Lemma) → LemmaAt t.library p l → IsTrue (used l.name) → Valid (definitions_of t.library) (goal_of l)

-- In a library that is well made no definition is reached from the predicates of its own body.
abbrev pub NoneReachesItself : Type 0
NoneReachesItself =
    (library : Library) (k : ℕ) (d : Definition) → WellMade library → slice_get library.entries k ≡ Some (item.Definition d) →
    InFormula (λ p. Reaches library.entries p d.name → ⊥) d.body
