-- Lemmas that are good, and cite such lemmas alone, are valid.
use Rattle.std.proofs.Common.{◌≡◌, ℕ, zero, suc, ◌+◌, ◌<◌, ◌≤◌, Bool, true, false, List, [], ◌∷◌, length, take, Option, Some, None, refl, sym, subst, arith, bytes_eq}
use Rattle.std.specs.Prelude.{slice_get}
use Rattle.std.proofs.lemmas.Option.{slice_get_within}
use Rattle.std.proofs.lemmas.Slice.Eq.{bytes_eq-Decides}
use Rattle.rw_terms.specs.Validity.{Each, Valid}
use Rattle.rw_goals.specs.declared.library.Lemma.{Lemma}
use Rattle.rw_goals.specs.declared.library.Item.{Item}
use Rattle.rw_goals.specs.declared.library.Item.TheVariants as item
use Rattle.rw_goals.specs.declared.library.Library.{Library}
use Rattle.rw_goals.specs.Library.{definitions_of, if_so, or_else}
use Rattle.rw_citations.specs.Cited.{lemma_of}
use Rattle.rw_citations.specs.Goal.{goal_of}
use Rattle.rw_citations.specs.WellMade.{WellMade, IsValid, NamedValid}
use Rattle.rw_sequents.specs.declared.line.CertLine.{CertLine}
use Rattle.rw_sequents.specs.declared.line.CertLine.TheVariants as line
use Rattle.rw_sequents.specs.declared.line.Cert.{Cert}
use Rattle.rw_sequents.specs.Cited.{OfCited, AllCited}
use Rattle.rw_sequents.specs.Table.{LemmaAt, CitedNext, UsedGood, UsedValid, RoundsAreValid, GoodAreValid}
use Rattle.rw_sequents.proofs.Runs.{good_valid}

-- where a lemma that is found among the first entries stands
pub record Stands (es : List Item) (k : ℕ) (n : List ℕ) (l : Lemma) : Type 0 where
  pub place : ℕ
  pub before : place < k
  pub there : slice_get es place ≡ Some (item.Lemma l)
  pub named : l.name ≡ n

behind : (e : Item) (es : List Item) (k : ℕ) (n : List ℕ) (l : Lemma) → Stands es k n l → Stands (e ∷ es) (suc k) n l
behind e es k n l s = record { place = suc s.place; before = let b = s.before in omega arith; there = s.there; named = s.named }

pub stands : (es : List Item) (k : ℕ) (n : List ℕ) (l : Lemma) → lemma_of (take k es) n ≡ Some l → Stands es k n l
stands es zero n l e = absurd (cc)
stands [] (suc k) n l e = absurd (cc)
stands (item.Definition d ∷ es) (suc k) n l e = behind (item.Definition d) es k n l (stands es k n l e)
stands (item.Lemma m ∷ es) (suc k) n l e = first (bytes_eq m.name n) refl e (stands es k n l)
  where
    first : (b : Bool) → bytes_eq m.name n ≡ b → or_else (if_so b m) (lemma_of (take k es) n) ≡ Some l → ((lemma_of (take k es) n ≡ Some l) → Stands es k n l) → Stands (item.Lemma m ∷ es) (suc k) n l
    first true is e ih =
        let same : m ≡ l = cc in
        subst (λ x. Stands (item.Lemma m ∷ es) (suc k) n x) same (record { place = zero; before = omega arith; there = refl; named = (bytes_eq-Decides m.name n).0 is })
    first false is e ih = behind (item.Lemma m) es k n l (ih e)

of_cited : (P Q : List ℕ → Type 0) → ((n : List ℕ) → P n → Q n) → (l : CertLine) → OfCited P l → OfCited Q l
of_cited P Q k (line.Lemma n ts) h = k n h
of_cited P Q k _ h = tt

all_of : (P Q : List ℕ → Type 0) → ((n : List ℕ) → P n → Q n) → (ls : List CertLine) → Each (OfCited P) ls → Each (OfCited Q) ls
all_of P Q k [] h = tt
all_of P Q k (l ∷ ls) h = (of_cited P Q k l h.0, all_of P Q k ls h.1)

-- what holds of the names that are cited
pub all_cited : (P Q : List ℕ → Type 0) → ((n : List ℕ) → P n → Q n) → (cert : Cert) → AllCited P cert → AllCited Q cert
all_cited P Q k cert h = all_of P Q k cert.lines h

module _ (library : Library) (proofs : List (Option Cert)) (used : ℕ → List ℕ → Type 0) (made : WellMade library) (next : CitedNext library proofs used) (good : UsedGood library proofs used) where
  abbrev IsGood : Lemma → Type 0
  IsGood l = Valid (definitions_of library) (goal_of l)

  -- the lemmas of a round before a place
  abbrev Below : ℕ → Type 0
  Below k = (p r : ℕ) (l : Lemma) → p < k → r + p < length library.entries → LemmaAt library p l → used r l.name → IsGood l

  named_valid : (p r : ℕ) → Below p → suc r + p ≤ length library.entries → (n : List ℕ) → used (suc r) n → NamedValid library p n
  named_valid p r below within n u = found (lemma_of (take p library.entries) n) refl
    where
      found : (o : Option Lemma) → lemma_of (take p library.entries) n ≡ o → IsValid (definitions_of library) o
      found None e = tt
      found (Some l) e =
          let s = stands library.entries p n l e in
          below s.place (suc r) l s.before (let b = s.before in omega arith) s.there (subst (used (suc r)) (sym s.named) u)

  at_place : (p r : ℕ) (l : Lemma) → Below p → r + p < length library.entries → LemmaAt library p l → used r l.name → IsGood l
  at_place p r l below within there u =
      let g = good r p l there (omega arith) u in
      let cited = next r p l g.0 there g.1 within u in
      good_valid library p (goal_of l) g.0 _ refl made (all_cited (used (suc r)) (NamedValid library p) (named_valid p r below (omega arith)) g.0 cited) g.2

  below_all : (k : ℕ) → Below k
  below_all zero p r l h within there u = absurd (omega (arith, h))
  below_all (suc k) p r l h within there u =
      at_place p r l (λ q t m i. below_all k q t m (omega arith)) within there u

  pub rounds_valid : UsedValid library proofs used
  rounds_valid p l there u = below_all (suc p) p 0 l (omega arith) (let w = slice_get_within library.entries p (item.Lemma l) there in omega arith) there u

pub rounds_are_valid : RoundsAreValid
rounds_are_valid library proofs used made next good = rounds_valid library proofs (λ r n. used r n ≡ true) made next good

pub good_are_valid : GoodAreValid
good_are_valid library proofs used made next good = rounds_valid library proofs (λ r n. used n ≡ true) made (λ r p l c there cert within u. next p l c there cert u) (λ r p l there within u. good p l there u)
