-- The law of definedness: the conditions of a term hold exactly where it is defined.
use Rattle.std.proofs.Common.{Option, ◌≡◌, ◌≢◌, ◌↔◌, ℕ, ◌<◌, ℤ, pos, negsuc, ◌<ℤ◌, ◌≤ℤ◌, List, [], ◌∷◌, ◌++◌, length, reverse, Some, None, refl, sym, ap, ◌∙◌, subst, arith}
use Rattle.std.proofs.lemmas.Int.{ints}
use Rattle.rw_terms.specs.declared.scope.Entry.{Entry}
use Rattle.rw_terms.specs.declared.term.Sort.{Sort}
use Rattle.rw_terms.specs.declared.term.Sort.TheVariants.{Int, Array}
use Rattle.rw_terms.specs.declared.term.Term.{Term}
use Rattle.rw_terms.specs.declared.term.Term.TheVariants as v
use Rattle.rw_terms.specs.declared.term.Term.TheOpen.{Term-F}
use Rattle.rw_terms.specs.declared.term.Term.TheViews.{roll-Term}
use Rattle.rw_terms.specs.declared.term.Term.TheFolds.{map-Term, ind-Term, fold-roll-Term}
use Rattle.rw_terms.specs.declared.term.Formula.{Formula}
use Rattle.rw_terms.specs.declared.term.Formula.TheVariants as formula
use Rattle.rw_terms.specs.declared.term.Formula.TheOpen.{Formula-F}
use Rattle.rw_terms.specs.declared.term.Formula.TheViews.{roll-Formula}
use Rattle.rw_terms.specs.State.{Value, Whole, Cells, whole, cells, State, value_in, HasSort, Fits}
use Rattle.rw_terms.specs.Value.{value_step, value}
use Rattle.rw_terms.specs.Truth.{Definition, predicates_of, holds}
use Rattle.rw_terms.specs.Sorts.{sort_report}
use Rattle.rw_terms.specs.Rules.{of_ints, sort_step, sort_in}
use Rattle.rw_terms.specs.Defined.{IsIndex, PartDefined, Defined}
use Rattle.rw_terms.specs.Validity.{Each}
use Rattle.rw_terms.proofs.Truths.{to_layer, from_layer, layer_truth}
use Rattle.rw_terms.proofs.Agree.{not_iff, and_iff, along_both}
use Rattle.rw_terms.proofs.Typed.{values_have_sort}
use Rattle.rw_subst.specs.Conj.{conj_with, conj}
use Rattle.rw_subst.specs.Definedness.{array_length, nonzero, not_negative, below, in_range, conditions_step, conditions}
use Rattle.rw_subst.specs.Guards.{DefinednessOfTerms}
use Rattle.rw_subst.proofs.Asking.{paired, asks_layer}
use Rattle.rw_subst.proofs.Every.{OfParts, every_term}
use Rattle.rw_subst.proofs.WellSorted.{int_part, int_parts, read_parts, put_parts, reported}

pub then : {A B C : Type 0} → A ↔ B → B ↔ C → A ↔ C
then e f = (λ a. f.0 (e.0 a), λ c. e.1 (f.1 c))

pub back : {A B : Type 0} → A ↔ B → B ↔ A
back e = (e.1, e.0)

pub same : {A : Type 0} → A ↔ A
same = (λ a. a, λ a. a)

-- a fact that always holds can stand before another
pub before : {A : Type 0} → A ↔ (Unit {0} × A)
before = (λ a. (tt, a), λ p. p.1)

pub each_append : {X : Type 0} (P : X → Type 0) (xs ys : List X) → Each P (xs ++ ys) ↔ (Each P xs × Each P ys)
each_append P [] ys = before
each_append P (x ∷ xs) ys = let more = each_append P xs ys in (λ h. let rest = more.0 h.1 in ((h.0, rest.0), rest.1), λ h. (h.0.0, more.1 (h.0.1, h.1)))

index_iff : (z : ℤ) (n : ℕ) (l : List ℤ) → length l ≡ n → ((pos 0 ≤ℤ z) × (z <ℤ pos n)) ↔ IsIndex z l
index_iff (pos i) n l e =
    let to : (pos 0 ≤ℤ pos i) × (pos i <ℤ pos n) → i < length l = λ h. omega (arith, ints, h.1, e) in
    let from : i < length l → (pos 0 ≤ℤ pos i) × (pos i <ℤ pos n) = λ h. (omega (arith, ints), omega (arith, ints, h, e)) in
    (to, from)
index_iff (negsuc i) n l e =
    let to : (pos 0 ≤ℤ negsuc i) × (negsuc i <ℤ pos n) → ⊥ = λ h. absurd (omega (arith, ints, h.0)) in
    (to, λ h. absurd h)

-- an integer is 0 as a value where it is 0
zero_iff : (w : Value) → HasSort w Int → (w ≡ Whole (pos 0)) ↔ (whole w ≡ pos 0)
zero_iff (Whole z) h = (λ e. ap whole e, λ e. ap Whole e)
zero_iff (Cells l) h = absurd h

cells_length : (w : Value) (n : ℕ) → HasSort w (Array n) → length (cells w) ≡ n
cells_length (Whole z) n h = absurd h
cells_length (Cells l) n h = h

module _ (scope : List Entry) (library : List Definition) (s0 s : State) (fits0 : Fits scope s0) (fits : Fits scope s) where
  abbrev pub IsTrueHere : Formula → Type 0
  IsTrueHere f = holds library f s0 s []

  abbrev pub AllHold : List Formula → Type 0
  AllHold = Each IsTrueHere

  abbrev val : Term → Value
  val = value s0 s []

  -- what a formula says by its layer
  layer_is : (x : Formula-F Formula) (f : Formula) → roll-Formula x ≡ f → IsTrueHere f ↔ layer_truth (predicates_of (reverse library)) (value_in s) (value_in s0) (value_in s) x []
  layer_is x f e = (
    λ h. to_layer (predicates_of (reverse library)) (value_in s) (value_in s0) (value_in s) x [] (subst IsTrueHere (sym e) h),
    λ h. subst IsTrueHere e (from_layer (predicates_of (reverse library)) (value_in s) (value_in s0) (value_in s) x [] h),
  )

  pub conj_with_holds : (f : Formula) (fs : List Formula) → IsTrueHere (conj_with f fs) ↔ (IsTrueHere f × AllHold fs)
  conj_with_holds f [] = (λ h. (h, tt), λ h. h.0)
  conj_with_holds f (g ∷ gs) =
      let both = layer_is (Formula-F.And f g) (formula.And f g) (formula.rolls-And f g) in
      let more = conj_with_holds (formula.And f g) gs in (
        λ h. let split = more.0 h in let two = both.0 split.0 in (two.0, (two.1, split.1)),
        λ h. more.1 (both.1 (h.0, h.1.0), h.1.1),
      )

  pub conj_holds : (fs : List Formula) → IsTrueHere (conj fs) ↔ AllHold fs
  conj_holds [] = layer_is Formula-F.True formula.True formula.rolls-True
  conj_holds (f ∷ fs) = conj_with_holds f fs

  number : (z : ℤ) → val (v.Lit z) ≡ Whole z
  number z = ap val (sym (v.rolls-Lit z)) ∙ fold-roll-Term Value (value_step (value_in s) (value_in s0) (value_in s) []) (Term-F.Lit z)

  nonzero_holds : (b : Term) → HasSort (val b) Int → AllHold (nonzero b ∷ []) ↔ (whole (val b) ≢ pos 0)
  nonzero_holds b h =
      let equation = then (layer_is (Formula-F.Eq b (v.Lit (pos 0))) (formula.Eq b (v.Lit (pos 0))) (formula.rolls-Eq b (v.Lit (pos 0))))
      (then (along_both (λ p q. p ≡ q) {x = val b} {y = val b} refl (number (pos 0))) (zero_iff (val b) h)) in
      let negation = then (layer_is (Formula-F.Not (formula.Eq b (v.Lit (pos 0)))) (nonzero b) (formula.rolls-Not (formula.Eq b (v.Lit (pos 0))))) (not_iff equation) in
      (λ h. negation.0 h.0, λ h. (negation.1 h, tt))

  in_range_holds : (a i : Term) (n : ℕ) → (sort_report scope [] a).sort ≡ Some (Array n) → HasSort (val a) (Array n) → AllHold (in_range scope a i) ↔ IsIndex (whole (val i)) (cells (val a))
  in_range_holds a i n e h =
      let low = then (layer_is (Formula-F.AtMost (v.Lit (pos 0)) i) (not_negative i) (formula.rolls-AtMost (v.Lit (pos 0)) i))
      (along_both (λ p q. whole p ≤ℤ whole q) {z = val i} {w = val i} (number (pos 0)) refl) in
      let m = array_length (sort_report scope [] a).sort in
      let high = then (layer_is (Formula-F.Less i (v.Lit (pos m))) (below i m) (formula.rolls-Less i (v.Lit (pos m))))
      (along_both (λ p q. whole p <ℤ whole q) {x = val i} {y = val i} refl (number (pos m))) in
      let both = and_iff low high in
      then (λ k. (k.0, k.1.0), λ k. (k.0, (k.1, tt)))
      (then both (index_iff (whole (val i)) m (cells (val a)) (cells_length (val a) n h ∙ sym (ap array_length e))))

  abbrev IsSorted : Term → Sort → Type 0
  IsSorted t sort = sort_in scope [] t ≡ Some sort

  abbrev Claim : Term → Type 0
  Claim t = (sort : Sort) → IsSorted t sort → AllHold (conditions scope t) ↔ Defined s0 s t

  abbrev Layer : Type 0
  Layer = Term-F ((t : Term) × Claim t)

  abbrev under : Layer → Term-F Term
  under = map-Term ((t : Term) × Claim t) Term (λ e. e.0)

  -- two parts that ask nothing more
  two : (a b : (t : Term) × Claim t) (q r : Sort) → IsSorted a.0 q → IsSorted b.0 r → AllHold (conditions scope a.0 ++ conditions scope b.0) ↔ (Defined s0 s a.0 × Defined s0 s b.0)
  two a b q r e f = then (each_append IsTrueHere (conditions scope a.0) (conditions scope b.0)) (and_iff (a.1 q e) (b.1 r f))

  plain : (a b : (t : Term) × Claim t) (sort : Sort) → of_ints (sort_in scope [] a.0) (sort_in scope [] b.0) ≡ Some sort →
      AllHold (conditions scope a.0 ++ conditions scope b.0) ↔ (Unit {0} × (Defined s0 s a.0 × Defined s0 s b.0))
  plain a b sort h = let parts = int_parts _ _ sort h in then (two a b Int Int parts.0 parts.1) before

  swap : {A B : Type 0} → (A × B) ↔ (B × A)
  swap = (λ h. (h.1, h.0), λ h. (h.1, h.0))

  quotient : (a b : (t : Term) × Claim t) (sort : Sort) → of_ints (sort_in scope [] a.0) (sort_in scope [] b.0) ≡ Some sort →
      AllHold ((conditions scope a.0 ++ conditions scope b.0) ++ nonzero b.0 ∷ []) ↔ ((whole (val b.0) ≢ pos 0) × (Defined s0 s a.0 × Defined s0 s b.0))
  quotient a b sort h =
      let parts = int_parts _ _ sort h in
      then (each_append IsTrueHere (conditions scope a.0 ++ conditions scope b.0) (nonzero b.0 ∷ []))
      (then (and_iff (two a b Int Int parts.0 parts.1) (nonzero_holds b.0 (values_have_sort scope b.0 Int parts.1 s0 s fits0 fits))) swap)

  range : (a i : Term) (n : ℕ) → IsSorted a (Array n) → AllHold (in_range scope a i) ↔ IsIndex (whole (val i)) (cells (val a))
  range a i n e = in_range_holds a i n (reported scope a (Array n) e) (values_have_sort scope a (Array n) e s0 s fits0 fits)

  claim_layer : (y : Layer) (sort : Sort) → sort_step scope [] (map-Term Term (Option Sort) (sort_in scope []) (under y)) ≡ Some sort →
      AllHold (conditions_step scope (map-Term Term (Term × List Formula) (paired scope) (under y))) ↔ (PartDefined s0 s (under y) × OfParts (Defined s0 s) (under y))
  claim_layer (Term-F.Lit n) sort h = before
  claim_layer (Term-F.Var x) sort h = before
  claim_layer (Term-F.Init x) sort h = before
  claim_layer (Term-F.Const x) sort h = before
  claim_layer (Term-F.Bound k) sort h = before
  claim_layer (Term-F.Neg a) sort h = then (a.1 Int (int_part _ sort h)) before
  claim_layer (Term-F.Add a b) sort h = plain a b sort h
  claim_layer (Term-F.Sub a b) sort h = plain a b sort h
  claim_layer (Term-F.Mul a b) sort h = plain a b sort h
  claim_layer (Term-F.Div a b) sort h = quotient a b sort h
  claim_layer (Term-F.Mod a b) sort h = quotient a b sort h
  claim_layer (Term-F.Read a i) sort h =
      let parts = read_parts _ _ sort h in
      then (each_append IsTrueHere (conditions scope a.0 ++ conditions scope i.0) (in_range scope a.0 i.0))
      (then (and_iff (two a i (Array parts.length) Int parts.array parts.index) (range a.0 i.0 parts.length parts.array)) swap)
  claim_layer (Term-F.Put a i e) sort h =
      let parts = put_parts _ _ _ sort h in
      let three = then (each_append IsTrueHere (conditions scope a.0 ++ conditions scope i.0) (conditions scope e.0)) (and_iff (two a i (Array parts.length) Int parts.array parts.index) (e.1 Int parts.item)) in
      let flat = then three (λ k. (k.0.0, k.0.1, k.1), λ k. ((k.0, k.1), k.2)) in
      then (each_append IsTrueHere ((conditions scope a.0 ++ conditions scope i.0) ++ conditions scope e.0) (in_range scope a.0 i.0))
      (then (and_iff flat (range a.0 i.0 parts.length parts.array)) swap)
  claim_layer (Term-F.Fun f args) sort h = absurd (cc)

  claim_at : (y : Layer) → Claim (roll-Term (under y))
  claim_at y sort h =
      let layer = claim_layer y sort (sym (fold-roll-Term (Option Sort) (sort_step scope []) (under y)) ∙ h) in
      let asked = asks_layer scope (under y) in
      then (λ k. subst AllHold asked k, λ k. subst AllHold (sym asked) k) (then layer (back (every_term (PartDefined s0 s) (under y))))

  pub term_claim : (t : Term) → Claim t
  term_claim = ind-Term Claim (λ x y is. subst (λ z. Claim (roll-Term z)) is (claim_at y))

pub definedness_of_terms : DefinednessOfTerms
definedness_of_terms scope t sort formed library s0 s fits0 fits =
    then (conj_holds scope library s0 s fits0 fits (conditions scope t)) (term_claim scope library s0 s fits0 fits t sort formed.1)
