-- Lemmas that are good, and cite such lemmas alone, are valid.
use Rattle.std.proofs.Common.{◌≡◌, ℕ, zero, suc, ◌+◌, List, [], ◌∷◌, Option, Some, None, refl, sym, ap, ◌∙◌, arith}
use Rattle.std.specs.Prelude.{slice_get}
use Rattle.std.specs.Option.{option_and_then}
use Rattle.rw_goals.specs.declared.library.Lemma.{Lemma}
use Rattle.rw_goals.specs.declared.library.Item.{Item}
use Rattle.rw_goals.specs.declared.library.Item.TheVariants as item
use Rattle.rw_goals.specs.declared.library.Library.{Library}
use Rattle.rw_citations.specs.Goal.{goal_of}
use Rattle.rw_sequents.specs.declared.line.Cert.{Cert}
use Rattle.rw_sequents.specs.declared.line.Verdict.{Verdict}
use Rattle.rw_sequents.specs.declared.line.Verdict.TheVariants as told
use Rattle.rw_sequents.specs.After.{verdict}
use Rattle.rw_sequents.specs.Table.{GoodAt}
use Rattle.rw_sequents.proofs.Table.{good_are_valid}
use Rattle.rw_lemmas.specs.declared.status.LemmaStatus.TheVariants as status
use Rattle.rw_lemmas.specs.States.{by_verdict, proof_at, status_at, statuses_from}
use Rattle.rw_lemmas.specs.Sound.{GoodIsValid}

-- the status of an entry in a place
pub in_its_place : (library : Library) (ps : List (Option Cert)) (k : ℕ) (es : List Item) (i : ℕ) (e : Item) → slice_get es i ≡ Some e →
    slice_get (statuses_from library ps k es) i ≡ Some (status_at library (k + i) e (proof_at ps (k + i)))
in_its_place library ps k [] i e h = absurd (cc)
in_its_place library ps k (d ∷ es) zero e h =
    let same : d ≡ e = cc in
    let here : k ≡ k + 0 = omega arith in λ j. Some (status_at library (here j) (same j) (proof_at ps (here j)))
in_its_place library ps k (d ∷ es) (suc i) e h =
    let one : k + 1 + i ≡ k + suc i = omega arith in
    in_its_place library ps (k + 1) es i e h ∙ ap (λ n. Some (status_at library n e (proof_at ps n))) one

good_told : (v : Verdict) → by_verdict v ≡ status.Good → v ≡ told.Good
good_told told.Good e = refl
good_told (told.Bad line sub cause) e = absurd (cc)

there_is : (o : Option (Option Cert)) (cert : Cert) → option_and_then (λ p. p) o ≡ Some cert → o ≡ Some (Some cert)
there_is None cert e = absurd (cc)
there_is (Some None) cert e = absurd (cc)
there_is (Some (Some c)) cert e = ap Some e

good_at : (library : Library) (ps : List (Option Cert)) (p : ℕ) (l : Lemma) (o : Option Cert) → proof_at ps p ≡ o → status_at library p (item.Lemma l) o ≡ status.Good → GoodAt library ps p l
good_at library ps p l None is e = absurd (cc)
good_at library ps p l (Some cert) is e = (cert, there_is (slice_get ps p) cert is, good_told (verdict library p (goal_of l) cert) e)

pub some_inside : {X : Type 0} {x y : X} → Some x ≡ Some y → x ≡ y
some_inside e = cc

pub good_is_valid : GoodIsValid
good_is_valid t used made cites good = good_are_valid t.library t.proofs used made cites
    (λ p l there u.
    let z : p ≡ 0 + p = omega arith in
    let e = sym (ap (λ n. Some (status_at t.library n (item.Lemma l) (proof_at t.proofs n))) z) in
    let g = sym (in_its_place t.library t.proofs 0 t.library.entries p (item.Lemma l) there ∙ e) ∙ good p l there u in
    good_at t.library t.proofs p l (proof_at t.proofs p) refl (some_inside g))
