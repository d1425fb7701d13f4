-- The obligations of a good node are valid, where the lemmas that its certificates cite are.
use Rattle.std.proofs.Common.{◌≡◌, ℕ, ◌+◌, List, [], ◌∷◌, length, Option, Some, None, refl}
use Rattle.rw_terms.specs.declared.sequent.Sequent.{Sequent}
use Rattle.rw_terms.specs.Validity.{Each, Valid}
use Rattle.rw_goals.specs.declared.library.Library.{Library}
use Rattle.rw_goals.specs.Library.{definitions_of}
use Rattle.rw_citations.specs.WellMade.{WellMade}
use Rattle.rw_sequents.specs.declared.line.Cert.{Cert}
use Rattle.rw_sequents.specs.declared.line.Verdict.{Verdict}
use Rattle.rw_sequents.specs.declared.line.Verdict.TheVariants as verdicts
use Rattle.rw_sequents.specs.After.{verdict}
use Rattle.rw_sequents.specs.Cited.{CitedValid}
use Rattle.rw_sequents.proofs.Runs.{good_valid}
use Rattle.rw_anew.specs.declared.status.NeedState.{NeedState}
use Rattle.rw_anew.specs.declared.status.NeedState.TheVariants as need
use Rattle.rw_anew.specs.declared.status.Status.{Status}
use Rattle.rw_anew.specs.declared.status.Status.TheVariants as status
use Rattle.rw_anew.specs.Anew.{state_by, state_of, needs_from, held_up, pending_from}

-- a verdict that makes an obligation good is good
good_verdict : (v : Verdict) → state_by v ≡ need.Good → v ≡ verdicts.Good
good_verdict verdicts.Good e = refl
good_verdict (verdicts.Bad line sub cause) e = absurd (cc)

-- what is good has a certificate that is good
pub certified_good : (library : Library) (before : ℕ) (q : Sequent) (cert : Option Cert) → state_of library before q cert ≡ need.Good → (c : Cert) × (cert ≡ Some c) × (verdict library before q c ≡ verdicts.Good)
certified_good library before q None e = absurd (cc)
certified_good library before q (Some c) e = (c, refl, good_verdict (verdict library before q c) e)

-- what does not hold up is good, and so is what comes behind it
good_here : (k : ℕ) (state : NeedState) (later : Status) → held_up k state later ≡ status.Good → (state ≡ need.Good) × (later ≡ status.Good)
good_here k need.Good later e = (refl, e)
good_here k need.Missing later e = absurd (cc)
good_here k (need.Bad line sub cause) later e = absurd (cc)

module _ (library : Library) (made : WellMade library) where
  -- each lemma that a certificate of the obligations cites is valid
  abbrev pub Backed : (ℕ → Option Cert) → Type 0
  Backed certs = (k : ℕ) (c : Cert) → certs k ≡ Some c → CitedValid library (length library.entries) c

  good_need : (q : Sequent) (cert : Option Cert) → ((c : Cert) → cert ≡ Some c → CitedValid library (length library.entries) c) → state_of library (length library.entries) q cert ≡ need.Good → Valid (definitions_of library) q
  good_need q cert backed e =
      let c = certified_good library (length library.entries) q cert e in
      good_valid library (length library.entries) q c.0 (verdict library (length library.entries) q c.0) refl made (backed c.0 c.1) c.2

  pub all_valid : (k : ℕ) (qs : List Sequent) (certs : ℕ → Option Cert) → Backed certs → pending_from k (needs_from library k qs certs) ≡ status.Good → Each (Valid (definitions_of library)) qs
  all_valid k [] certs backed e = tt
  all_valid k (q ∷ qs) certs backed e =
      let here = good_here k (state_of library (length library.entries) q (certs k)) (pending_from (k + 1) (needs_from library (k + 1) qs certs)) e in
      (good_need q (certs k) (backed k) here.0, all_valid (k + 1) qs certs backed here.1)
