-- Lines that refute: no two states make all left formulas true and all right ones false.
use Rattle.std.proofs.Common.{◌≡◌, ℕ, zero, suc, ◌+◌, Bool, true, false, cond, not, ◌&&◌, ℤ, pos, negsuc, ◌+ℤ◌, ◌*ℤ◌, ◌≤◌, ◌≤ℤ◌, List, [], ◌∷◌, ◌++◌, drop, length, Option, Some, None, Result, Ok, Err, IfOk, refl, sym, ◌∙◌, ap, subst, true≢false, arith}
use Rattle.std.proofs.lemmas.Bool.{and_parts}
use Rattle.std.specs.List.{list_all, slice_get}
use Rattle.std.proofs.lemmas.Int.{ints}
use Rattle.std.proofs.lemmas.List.{drop_all}
use Rattle.std.proofs.Math.IntN.{zero-*ℤ, *ℤ_comm}
use Rattle.rw_terms.specs.declared.term.Term.{Term}
use Rattle.rw_terms.specs.declared.term.Formula.{Formula}
use Rattle.rw_terms.specs.declared.term.Formula.TheOpen.{Formula-F}
use Rattle.rw_terms.specs.declared.term.Formula.TheViews.{out-Formula}
use Rattle.rw_terms.specs.State.{State}
use Rattle.rw_terms.specs.Truth.{Definition, holds}
use Rattle.rw_terms.specs.Validity.{Each}
use Rattle.rw_arith.specs.declared.line.Ref.{Ref}
use Rattle.rw_arith.specs.declared.line.Ref.TheVariants.{Left, Right, Line}
use Rattle.rw_arith.specs.declared.line.Part.{Part}
use Rattle.rw_arith.specs.declared.line.LinLine.{LinLine}
use Rattle.rw_arith.specs.declared.line.LinLine.TheVariants.{Sum, Divide}
use Rattle.rw_arith.specs.declared.error.LinError.{LinError}
use Rattle.rw_arith.specs.declared.error.LinError.TheVariants as fault
use Rattle.rw_arith.specs.declared.poly.Summand.{Summand}
use Rattle.rw_arith.specs.declared.poly.Expansion.{Expansion}
use Rattle.rw_arith.specs.declared.poly.Expansion.TheVariants.{Polynomial, Unfit, Wide}
use Rattle.rw_arith.specs.Polynomials.{has_atoms, is_product, and_then, with_multiples}
use Rattle.rw_arith.specs.Given.{is_non_negative, left_allows_layer, left_allows, right_allows_layer, right_allows, given_by_left, given_by_right}
use Rattle.rw_arith.specs.Lines.{numbered, passes, expansion_by, ref_allows, is_allowed, named, with_part, with_parts, sum_of, divided, line_expansion, made_by, if_made, all_made, is_negative, is_contradiction, refutes, fault_of, lines_fault, Refuted}
use Rattle.rw_arith.specs.Values.{polynomial_value, IfPolynomial, integer}
use Rattle.rw_arith.specs.Laws.{LeftSays}
use Rattle.rw_arith.proofs.Values.{weaker, multiples_value}
use Rattle.rw_arith.proofs.ExpansionLaws.{times_one}
use Rattle.rw_arith.proofs.GivenLaws.{left_law, right_law}
use Rattle.rw_arith.proofs.Dividing.{divided_at_least}

abbrev IfThere : {X : Type 0} → (X → Type 0) → Option X → Type 0
IfThere P None = Unit {0}
IfThere P (Some x) = P x

each_at : {X : Type 0} (P : X → Type 0) (xs : List X) → Each P xs → (n : ℕ) → IfThere P (slice_get xs n)
each_at P [] h n = tt
each_at P (x ∷ xs) h zero = h.0
each_at P (x ∷ xs) h (suc n) = each_at P xs h.1 n

each_numbered : {X : Type 0} (P : X → Type 0) (xs : List X) → Each P xs → (n : ℕ) → IfThere P (numbered xs n)
each_numbered P xs h zero = tt
each_numbered P xs h (suc n) = each_at P xs h n

each_pushed : {X : Type 0} (P : X → Type 0) (xs : List X) (x : X) → Each P xs → P x → Each P (xs ++ x ∷ [])
each_pushed P [] x h k = (k, tt)
each_pushed P (y ∷ xs) x h k = (h.0, each_pushed P xs x h.1 k)

product_at_least : (m z : ℤ) → is_non_negative m ≡ true → pos 0 ≤ℤ z → pos 0 ≤ℤ (m *ℤ z)
product_at_least (pos a) (pos b) e h = omega (arith, ints)
product_at_least (pos a) (negsuc b) e h = absurd (omega (arith, ints))
product_at_least (negsuc a) z e h = absurd (true≢false (sym e))

of_nothing : (m z : ℤ) → z ≡ pos 0 → pos 0 ≤ℤ (m *ℤ z)
of_nothing m z e = subst (λ y. pos 0 ≤ℤ y) (sym (ap (λ y. m *ℤ y) e ∙ *ℤ_comm m (pos 0) ∙ zero-*ℤ m)) (omega (arith, ints))

left_multiple : (m z : ℤ) (x : Formula-F Formula) → left_allows_layer m x ≡ true → LeftSays x z → pos 0 ≤ℤ (m *ℤ z)
left_multiple m z (Formula-F.Eq s t) e h = of_nothing m z h
left_multiple m z (Formula-F.Less s t) e h = product_at_least m z (and_parts (is_non_negative m) _ e).0 h
left_multiple m z (Formula-F.AtMost s t) e h = product_at_least m z (and_parts (is_non_negative m) _ e).0 h
left_multiple m z Formula-F.True e h = absurd (true≢false (sym e))
left_multiple m z Formula-F.False e h = absurd (true≢false (sym e))
left_multiple m z (Formula-F.Not f) e h = absurd (true≢false (sym e))
left_multiple m z (Formula-F.And f g) e h = absurd (true≢false (sym e))
left_multiple m z (Formula-F.Or f g) e h = absurd (true≢false (sym e))
left_multiple m z (Formula-F.Imp f g) e h = absurd (true≢false (sym e))
left_multiple m z (Formula-F.All _ f) e h = absurd (true≢false (sym e))
left_multiple m z (Formula-F.Any _ f) e h = absurd (true≢false (sym e))
left_multiple m z (Formula-F.App _ args) e h = absurd (true≢false (sym e))

right_sign : (m : ℤ) (x : Formula-F Formula) → right_allows_layer m x ≡ true → is_non_negative m ≡ true
right_sign m (Formula-F.Less s t) e = (and_parts (is_non_negative m) _ e).0
right_sign m (Formula-F.AtMost s t) e = (and_parts (is_non_negative m) _ e).0
right_sign m (Formula-F.Eq s t) e = absurd (true≢false (sym e))
right_sign m Formula-F.True e = absurd (true≢false (sym e))
right_sign m Formula-F.False e = absurd (true≢false (sym e))
right_sign m (Formula-F.Not f) e = absurd (true≢false (sym e))
right_sign m (Formula-F.And f g) e = absurd (true≢false (sym e))
right_sign m (Formula-F.Or f g) e = absurd (true≢false (sym e))
right_sign m (Formula-F.Imp f g) e = absurd (true≢false (sym e))
right_sign m (Formula-F.All _ f) e = absurd (true≢false (sym e))
right_sign m (Formula-F.Any _ f) e = absurd (true≢false (sym e))
right_sign m (Formula-F.App _ args) e = absurd (true≢false (sym e))

module _ (library : List Definition) (s0 s : State) (left right : List Formula)
    (true_left : Each (λ f. holds library f s0 s []) left) (false_right : Each (λ f. ¬ (holds library f s0 s [])) right) where
  abbrev of_atom : Term → ℤ
  of_atom = integer s0 s []

  abbrev val : List Summand → ℤ
  val = polynomial_value of_atom

  abbrev AtLeast : List Summand → Type 0
  AtLeast p = pos 0 ≤ℤ val p

  abbrev Multiple : ℤ → Expansion → Type 0
  Multiple m e = IfPolynomial e (λ p. pos 0 ≤ℤ (m *ℤ val p))

  left_part : (m : ℤ) (o : Option Formula) → IfThere (λ f. holds library f s0 s []) o → passes (left_allows m) o ≡ true → Multiple m (expansion_by given_by_left o)
  left_part m None h e = tt
  left_part m (Some f) h e = weaker _ _ (given_by_left f) (λ p k. left_multiple m (val p) (out-Formula f) e k) (left_law library s0 s [] f h)

  right_part : (m : ℤ) (o : Option Formula) → IfThere (λ f. ¬ (holds library f s0 s [])) o → passes (right_allows m) o ≡ true → Multiple m (expansion_by given_by_right o)
  right_part m None h e = tt
  right_part m (Some f) h e = weaker _ _ (given_by_right f) (λ p k. product_at_least m (val p) (right_sign m (out-Formula f) e) k) (right_law library s0 s [] f h)

  line_part : (m : ℤ) (o : Option (List Summand)) → IfThere AtLeast o → passes (λ p. is_non_negative m) o ≡ true → Multiple m (expansion_by Polynomial o)
  line_part m None h e = tt
  line_part m (Some p) h e = product_at_least m (val p) e h

  module _ (made : List (List Summand)) (made_holds : Each AtLeast made) where
    part_holds : (m : ℤ) (of : Ref) → ref_allows left right made m of ≡ true → Multiple m (named left right made of)
    part_holds m (Left n) e = left_part m (numbered left n) (each_numbered _ left true_left n) e
    part_holds m (Right n) e = right_part m (numbered right n) (each_numbered _ right false_right n) e
    part_holds m (Line n) e = line_part m (numbered made n) (each_numbered AtLeast made made_holds n) e

    both_at_least : (x y z : ℤ) → z ≡ x +ℤ y → pos 0 ≤ℤ x → pos 0 ≤ℤ y → pos 0 ≤ℤ z
    both_at_least x y z e h k = omega (arith, ints)

    added_holds : (m : ℤ) (sum : List Summand) (e : Expansion) → AtLeast sum → Multiple m e → IfPolynomial (and_then e (λ p. with_multiples m p (Polynomial sum))) AtLeast
    added_holds m sum (Polynomial p) h k =
        weaker _ _ (with_multiples m p (Polynomial sum)) (λ r e. both_at_least (val sum) (m *ℤ val p) (val r) e h k) (multiples_value of_atom m p (Polynomial sum) (val sum) refl)
    added_holds m sum Unfit h k = tt
    added_holds m sum Wide h k = tt

    next_holds : (part : Part) → is_allowed left right made part ≡ true → (e : Expansion) → IfPolynomial e AtLeast → IfPolynomial (and_then e (λ sum. with_part left right made sum part)) AtLeast
    next_holds part a (Polynomial sum) h = added_holds part.times sum (named left right made part.of) h (part_holds part.times part.of a)
    next_holds part a Unfit h = tt
    next_holds part a Wide h = tt

    parts_hold : (parts : List Part) → list_all (is_allowed left right made) parts ≡ true → (e : Expansion) → IfPolynomial e AtLeast → IfPolynomial (with_parts left right made parts e) AtLeast
    parts_hold [] a e h = h
    parts_hold (part ∷ parts) a e h =
        parts_hold parts (and_parts (is_allowed left right made part) _ a).1 (and_then e (λ sum. with_part left right made sum part))
        (next_holds part (and_parts (is_allowed left right made part) _ a).0 e h)

    sum_case : (b : Bool) (parts : List Part) → list_all (is_allowed left right made) parts ≡ b → IfPolynomial (cond b (with_parts left right made parts (Polynomial [])) Unfit) AtLeast
    sum_case true parts e = parts_hold parts e (Polynomial []) (omega (arith, ints))
    sum_case false parts e = tt

    quotient_holds : (d : ℤ) (o : Option (List Summand)) → IfThere AtLeast o → IfPolynomial (expansion_by (divided d) o) AtLeast
    quotient_holds d None h = tt
    quotient_holds d (Some p) h = divided_at_least of_atom d p h

    line_holds : (line : LinLine) → IfPolynomial (line_expansion left right made line) AtLeast
    line_holds (Sum parts) = sum_case (list_all (is_allowed left right made) parts) parts refl
    line_holds (Divide k d) = quotient_holds d (numbered made k) (each_numbered AtLeast made made_holds k)

    made_by_holds : (k : ℕ) (e : Expansion) → IfPolynomial e AtLeast → IfOk (made_by k made e) (Each AtLeast)
    made_by_holds k (Polynomial p) h = each_pushed AtLeast made p made_holds h
    made_by_holds k Unfit h = tt
    made_by_holds k Wide h = tt

  then_holds : (r : Result (List (List Summand)) LinError) (next : List (List Summand) → Result (List (List Summand)) LinError) → IfOk r (Each AtLeast) →
      ((made : List (List Summand)) → Each AtLeast made → IfOk (next made) (Each AtLeast)) → IfOk (if_made r next) (Each AtLeast)
  then_holds (Ok made) next h k = k made h
  then_holds (Err e) next h k = tt

  all_hold : (lines : List LinLine) (n : ℕ) (made : List (List Summand)) → Each AtLeast made → IfOk (all_made left right n lines made) (Each AtLeast)
  all_hold [] n made h = h
  all_hold (line ∷ lines) n made h =
      then_holds (made_by (n + 1) made (line_expansion left right made line)) (all_made left right (n + 1) lines)
      (made_by_holds made h (n + 1) (line_expansion left right made line) (line_holds made h line)) (all_hold lines (n + 1))

  below_zero : (z : ℤ) → is_negative z ≡ true → pos 0 ≤ℤ ((z *ℤ pos 1) +ℤ pos 0) → ⊥
  below_zero (pos n) e h = true≢false (sym e)
  below_zero (negsuc n) e h = let k : pos 0 ≤ℤ (negsuc n +ℤ pos 0) = subst (λ z. pos 0 ≤ℤ (z +ℤ pos 0)) (times_one (negsuc n)) h in omega (arith, ints)

  negative_constant : (z : ℤ) (ts : List Term) → (not (has_atoms ts) && is_negative z) ≡ true → AtLeast (record { times = z; atoms = ts } ∷ []) → ⊥
  negative_constant z [] e h = below_zero z e h
  negative_constant z (t ∷ ts) e h = true≢false (sym e)

  contradicts : (p : List Summand) → is_contradiction p ≡ true → AtLeast p → ⊥
  contradicts [] e h = true≢false (sym e)
  contradicts (t ∷ []) e h = negative_constant t.times t.atoms e h
  contradicts (t ∷ u ∷ p) e h = true≢false (sym e)

  last_contradicts : (o : Option (List Summand)) → IfThere AtLeast o → passes is_contradiction o ≡ true → ⊥
  last_contradicts None h e = true≢false (sym e)
  last_contradicts (Some p) h e = contradicts p e h

  no_fault : (b : Bool) (e : LinError) → cond b None (Some e) ≡ None → b ≡ true
  no_fault true e h = refl
  no_fault false e h = cc

  impossible : (n : ℕ) (r : Result (List (List Summand)) LinError) → IfOk r (Each AtLeast) → fault_of n r ≡ None → ⊥
  impossible n (Err e) h k = cc
  impossible n (Ok made) h k = last_contradicts (numbered made (length made)) (each_numbered AtLeast made h (length made)) (no_fault (refutes made) _ k)

pub refuted : (left right : List Formula) (lines : List LinLine) → lines_fault left right lines ≡ None → Refuted left right
refuted left right lines e library s0 s h k = impossible library s0 s left right h k (length lines) (all_made left right 0 lines []) (all_hold library s0 s left right h k lines 0 [] tt) e

-- where the lines behind the last are looked at and the last one refutes, there is no fault
pub none_left : (left right : List Formula) (lines : List LinLine) (made seen : List (List Summand)) (n i : ℕ) → length lines ≤ i →
    all_made left right n (drop i lines) made ≡ all_made left right 0 lines [] → seen ≡ made → true ≡ refutes seen → lines_fault left right lines ≡ None
none_left left right lines made seen n i past e is r =
    ap (fault_of (length lines)) (sym e ∙ ap (λ ls. all_made left right n ls made) (drop_all i lines past))
    ∙ ap (λ b. cond b None (Some (fault.NotContradiction (length lines)))) (sym (r ∙ ap refutes is))
