-- The statuses of lemmas: those of checking each certificate anew.
use Rattle.std.specs.Prelude.{◌≡◌, ℕ, ◌+◌, ◌&&◌, if◌then◌else◌, List, [], ◌∷◌, Option, Some, None, slice_get}
use Rattle.std.specs.Option.{option_and_then}
use Rattle.rw_goals.specs.declared.library.Item.{Item}
use Rattle.rw_goals.specs.declared.library.Item.TheVariants as item
use Rattle.rw_goals.specs.declared.library.Library.{Library}
use Rattle.rw_citations.specs.Goal.{goal_of}
use Rattle.rw_sequents.specs.declared.line.Cert.{Cert}
use Rattle.rw_sequents.specs.declared.line.Verdict.{Verdict}
use Rattle.rw_sequents.specs.declared.line.Verdict.TheVariants as told
use Rattle.rw_sequents.specs.After.{verdict, IsCounted}
use Rattle.rw_library.specs.Entries.{is_entry, is_lemma}
use Rattle.rw_lemmas.specs.declared.status.LemmaStatus.{LemmaStatus}
use Rattle.rw_lemmas.specs.declared.status.LemmaStatus.TheVariants as status

abbrev pub by_verdict : Verdict → LemmaStatus
by_verdict told.Good = status.Good
by_verdict (told.Bad line sub cause) = status.Bad line sub cause

-- the certificate in a place, counted from 0
abbrev pub proof_at : List (Option Cert) → ℕ → Option Cert
proof_at proofs k = option_and_then (λ o. o) (slice_get proofs k)

-- a certificate has fewer lines than a number of 32 bits can count
abbrev pub AreCounted : List (Option Cert) → Type 0
AreCounted proofs = (k : ℕ) (cert : Cert) → proof_at proofs k ≡ Some cert → IsCounted cert

module _ (library : Library) where
  -- the status of an entry in a place, of which the lemmas before it may be cited; a definition has no certificate
  abbrev pub status_at : ℕ → Item → Option Cert → LemmaStatus
  status_at k (item.Definition d) o = status.Missing
  status_at k (item.Lemma l) None = status.Missing
  status_at k (item.Lemma l) (Some cert) = by_verdict (verdict library k (goal_of l) cert)

  module _ (proofs : List (Option Cert)) where
    -- those of entries from a place on
    abbrev pub statuses_from : ℕ → List Item → List LemmaStatus
    statuses_from k [] = []
    statuses_from k (e ∷ es) = status_at k e (proof_at proofs k) ∷ statuses_from (k + 1) es

-- the status of a lemma among the entries from a place on, by the statuses of all
abbrev pub status_from : List LemmaStatus → ℕ → List Item → List ℕ → Option LemmaStatus
status_from statuses k [] x = None
status_from statuses k (e ∷ es) x = if is_lemma e && is_entry x e then slice_get statuses k else status_from statuses (k + 1) es x

-- its certificate, by those of all
abbrev pub proof_from : List (Option Cert) → ℕ → List Item → List ℕ → Option Cert
proof_from proofs k [] x = None
proof_from proofs k (e ∷ es) x = if is_lemma e && is_entry x e then proof_at proofs k else proof_from proofs (k + 1) es x
