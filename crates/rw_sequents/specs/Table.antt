-- Lemmas that are good by their certificates, and so down the table.
use Rattle.std.specs.Prelude.{◌≡◌, ℕ, suc, ◌+◌, ◌<◌, ◌≤◌, Bool, List, length, Option, Some, slice_get, IsTrue}
use Rattle.rw_terms.specs.Validity.{Valid}
use Rattle.rw_goals.specs.declared.library.Lemma.{Lemma}
use Rattle.rw_goals.specs.declared.library.Item.TheVariants as item
use Rattle.rw_goals.specs.declared.library.Library.{Library}
use Rattle.rw_goals.specs.Library.{definitions_of}
use Rattle.rw_citations.specs.Goal.{goal_of}
use Rattle.rw_citations.specs.WellMade.{WellMade}
use Rattle.rw_sequents.specs.declared.line.Cert.{Cert}
use Rattle.rw_sequents.specs.declared.line.Verdict.TheVariants.{Good}
use Rattle.rw_sequents.specs.After.{verdict}
use Rattle.rw_sequents.specs.Cited.{AllCited}

-- the lemma stands at this place of the table, counted from 0
abbrev pub LemmaAt : Library → ℕ → Lemma → Type 0
LemmaAt library p l = slice_get library.entries p ≡ Some (item.Lemma l)

-- a certificate, or none, stands beside each entry
module _ (library : Library) (proofs : List (Option Cert)) where
  abbrev pub CertAt : ℕ → Cert → Type 0
  CertAt p cert = slice_get proofs p ≡ Some (Some cert)

  -- the certificate beside a lemma is good, where it may cite the lemmas before that place
  abbrev pub GoodAt : ℕ → Lemma → Type 0
  GoodAt p l = (cert : Cert) × CertAt p cert × (verdict library p (goal_of l) cert ≡ Good)

  -- names in rounds, the first of number 0
  module _ (used : ℕ → List ℕ → Type 0) where
    -- what the lemmas of a round cite is in the next one
    abbrev pub CitedNext : Type 0
    CitedNext =
        (r p : ℕ) (l : Lemma) (cert : Cert) → LemmaAt library p l → CertAt p cert → r + p < length library.entries →
        used r l.name → AllCited (used (suc r)) cert

    -- the lemmas of each round are good
    abbrev pub UsedGood : Type 0
    UsedGood = (r p : ℕ) (l : Lemma) → LemmaAt library p l → r ≤ length library.entries → used r l.name → GoodAt p l

    -- the lemmas of the first round are valid
    abbrev pub UsedValid : Type 0
    UsedValid = (p : ℕ) (l : Lemma) → LemmaAt library p l → used 0 l.name → Valid (definitions_of library) (goal_of l)

-- In a library that is well made the lemmas of the first round are valid, if those of each round are good and cite lemmas of the next one alone.
abbrev pub RoundsAreValid : Type 0
RoundsAreValid =
    (library : Library) (proofs : List (Option Cert)) (used : ℕ → List ℕ → Bool) → WellMade library →
    CitedNext library proofs (λ r n. IsTrue (used r n)) → UsedGood library proofs (λ r n. IsTrue (used r n)) → UsedValid library proofs (λ r n. IsTrue (used r n))

-- Lemmas that are good and cite such lemmas alone are valid.
abbrev pub GoodAreValid : Type 0
GoodAreValid =
    (library : Library) (proofs : List (Option Cert)) (used : List ℕ → Bool) → WellMade library →
    ((p : ℕ) (l : Lemma) (cert : Cert) → LemmaAt library p l → CertAt library proofs p cert → IsTrue (used l.name) → AllCited (λ n. IsTrue (used n)) cert) →
    ((p : ℕ) (l : Lemma) → LemmaAt library p l → IsTrue (used l.name) → GoodAt library proofs p l) →
    (p : ℕ) (l : Lemma) → LemmaAt library p l → IsTrue (used l.name) → Valid (definitions_of library) (goal_of l)
