-- The axioms hold wherever the names have values of their sorts.
use Rattle.std.proofs.Common.{◌≡◌, ℕ, zero, suc, Bool, true, false, ◌&&◌, ℤ, pos, negsuc, List, [], ◌∷◌, length, reverse, slice_get, slice_set, Option, Some, None, refl, sym, ◌∙◌, ap, subst, ◌<◌, ◌<ℤ◌, ◌≤ℤ◌, arith, true≢false}
use Rattle.std.proofs.lemmas.Bool.{and_parts}
use Rattle.std.specs.Prelude.{◌+ℤ◌, ◌*ℤ◌, is_some}
use Rattle.std.specs.Option.{option_map}
use Rattle.std.proofs.lemmas.Int.{ints}
use Rattle.std.proofs.lemmas.Bool.Decides.{Decides-eqb}
use Rattle.rw_terms.specs.declared.term.Sort.{Sort}
use Rattle.rw_terms.specs.declared.term.Sort.TheVariants.{Int, Array}
use Rattle.rw_terms.specs.declared.term.Term.{Term}
use Rattle.rw_terms.specs.declared.term.Term.TheVariants as v
use Rattle.rw_terms.specs.declared.term.Term.TheOpen.{Term-F}
use Rattle.rw_terms.specs.declared.term.Term.TheFolds.{fold-roll-Term}
use Rattle.rw_terms.specs.declared.term.Formula.{Formula}
use Rattle.rw_terms.specs.declared.term.Formula.TheVariants as formula
use Rattle.rw_terms.specs.declared.term.Formula.TheOpen.{Formula-F}
use Rattle.rw_terms.specs.declared.term.Formula.TheViews.{roll-Formula}
use Rattle.rw_terms.specs.Named.{Named}
use Rattle.rw_terms.specs.Rules.{is_of}
use Rattle.rw_terms.specs.State.{Value, Whole, Cells, whole, cells, State, given, value_in, HasSort}
use Rattle.rw_terms.specs.Value.{value, value_step, cell_of, read_at, put_at, div_floor, mod_floor}
use Rattle.rw_terms.specs.Truth.{Definition, predicates_of, holds}
use Rattle.rw_terms.specs.Validity.{FitsNames, Valid}
use Rattle.rw_terms.proofs.Truths.{to_layer, from_layer, layer_truth}
use Rattle.rw_terms.proofs.Dividing.{quotient_law, rest_of_positive, rest_of_negative}
use Rattle.rw_terms.specs.declared.sequent.Sequent.{Sequent}
use Rattle.rw_terms.specs.InScope.{only_if}
use Rattle.rw_goals.specs.Premises.{effect}
use Rattle.rw_goals.specs.Sorting.{sort_of}
use Rattle.rw_goals.proofs.Sound.{Holds, AllValid, one_refuted}
use Rattle.rw_goals.proofs.Sorted.{has_sort, no_binder}
use Rattle.rw_axioms.specs.Axioms as axioms
use Rattle.rw_axioms.specs.Axioms.{array_length, small_axiom, axiom_parts, same_length, put_same, put_other, extension, division, is_int, put_same_axiom, put_other_axiom, extension_axiom, division_axiom}

is_whole : (x : Value) → HasSort x Int → Whole (whole x) ≡ x
is_whole (Whole z) h = refl
is_whole (Cells l) h = absurd h

pub same_whole : (x y : Value) → HasSort x Int → HasSort y Int → whole x ≡ whole y → x ≡ y
same_whole x y p q e = sym (is_whole x p) ∙ ap Whole e ∙ is_whole y q

read_back : (l : List ℤ) (k : ℕ) (z : ℤ) → k < length l → cell_of (slice_get (slice_set l k z) k) ≡ z
read_back [] k z h = absurd (omega arith)
read_back (x ∷ xs) zero z h = refl
read_back (x ∷ xs) (suc k) z h = read_back xs k z (omega arith)

read_put : (x : Value) (i z : ℤ) (n : ℕ) → HasSort x (Array n) → pos 0 ≤ℤ i → i <ℤ pos n → read_at (put_at (cells x) i z) i ≡ z
read_put (Whole w) i z n h low high = absurd h
read_put (Cells l) (pos k) z n h low high = read_back l k z (omega (arith, ints, h))
read_put (Cells l) (negsuc k) z n h low high = absurd (omega (arith, ints))

get_other : (l : List ℤ) (i j : ℕ) (z : ℤ) → ¬ (i ≡ j) → slice_get (slice_set l i z) j ≡ slice_get l j
get_other [] i j z n = refl
get_other (x ∷ xs) zero zero z n = absurd (n refl)
get_other (x ∷ xs) zero (suc j) z n = refl
get_other (x ∷ xs) (suc i) zero z n = refl
get_other (x ∷ xs) (suc i) (suc j) z n = get_other xs i j z (λ e. n (ap suc e))

read_other : (l : List ℤ) (i j z : ℤ) → ¬ (i ≡ j) → read_at (put_at l i z) j ≡ read_at l j
read_other l (pos i) (pos j) z n = ap cell_of (get_other l i j z (λ e. n (ap pos e)))
read_other l (pos i) (negsuc j) z n = refl
read_other l (negsuc i) j z n = refl

-- lists of one length with equal cells are equal
same_cells : (l m : List ℤ) → length l ≡ length m → ((k : ℕ) → cell_of (slice_get l k) ≡ cell_of (slice_get m k)) → l ≡ m
same_cells [] [] e h = refl
same_cells [] (y ∷ ys) e h = absurd (cc)
same_cells (x ∷ xs) [] e h = absurd (cc)
same_cells (x ∷ xs) (y ∷ ys) e h =
    let head : x ≡ y = h 0 in
    let rest : xs ≡ ys = same_cells xs ys (omega (arith, e)) (λ k. h (suc k)) in
    λ i. head i ∷ rest i

same_arrays : (x y : Value) (n : ℕ) → HasSort x (Array n) → HasSort y (Array n) → ((z : ℤ) → read_at (cells x) z ≡ read_at (cells y) z) → x ≡ y
same_arrays (Whole z) y n p q h = absurd p
same_arrays (Cells l) (Whole z) n p q h = absurd q
same_arrays (Cells l) (Cells m) n p q h = ap Cells (same_cells l m (p ∙ sym q) (λ k. h (pos k)))

module _ (library : List Definition) (s0 s : State) where
  abbrev Layered : Formula-F Formula → List Value → Type 0
  Layered x b = layer_truth (predicates_of (reverse library)) (value_in s) (value_in s0) (value_in s) x b

  pub made : (x : Formula-F Formula) (f : Formula) (b : List Value) → roll-Formula x ≡ f → Layered x b → holds library f s0 s b
  made x f b e h = subst (λ g. holds library g s0 s b) e (from_layer (predicates_of (reverse library)) _ _ _ x b h)

  pub seen : (x : Formula-F Formula) (f : Formula) (b : List Value) → roll-Formula x ≡ f → holds library f s0 s b → Layered x b
  seen x f b e h = to_layer (predicates_of (reverse library)) _ _ _ x b (subst (λ g. holds library g s0 s b) (sym e) h)

  module _ (b : List Value) where
    abbrev val : Term → Value
    val = value s0 s b

    abbrev step : Term-F Value → Value
    step = value_step (value_in s) (value_in s0) (value_in s) b

    lit_value : (n : ℤ) → val (v.Lit n) ≡ Whole n
    lit_value n = ap val (sym (v.rolls-Lit n)) ∙ fold-roll-Term Value step (Term-F.Lit n)

    bound_value : (k : ℕ) → val (v.Bound k) ≡ given (slice_get b k)
    bound_value k = ap val (sym (v.rolls-Bound k)) ∙ fold-roll-Term Value step (Term-F.Bound k)

    put_value : (a i e : Term) → val (v.Put a i e) ≡ Cells (put_at (cells (val a)) (whole (val i)) (whole (val e)))
    put_value a i e = ap val (sym (v.rolls-Put a i e)) ∙ fold-roll-Term Value step (Term-F.Put a i e)

    read_value : (a i : Term) → val (v.Read a i) ≡ Whole (read_at (cells (val a)) (whole (val i)))
    read_value a i = ap val (sym (v.rolls-Read a i)) ∙ fold-roll-Term Value step (Term-F.Read a i)

    mod_value : (t u : Term) → val (v.Mod t u) ≡ Whole (mod_floor (whole (val t)) (whole (val u)))
    mod_value t u = ap val (sym (v.rolls-Mod t u)) ∙ fold-roll-Term Value step (Term-F.Mod t u)

    div_value : (t u : Term) → val (v.Div t u) ≡ Whole (div_floor (whole (val t)) (whole (val u)))
    div_value t u = ap val (sym (v.rolls-Div t u)) ∙ fold-roll-Term Value step (Term-F.Div t u)

    mul_value : (t u : Term) → val (v.Mul t u) ≡ Whole (whole (val t) *ℤ whole (val u))
    mul_value t u = ap val (sym (v.rolls-Mul t u)) ∙ fold-roll-Term Value step (Term-F.Mul t u)

    add_value : (t u : Term) → val (v.Add t u) ≡ Whole (whole (val t) +ℤ whole (val u))
    add_value t u = ap val (sym (v.rolls-Add t u)) ∙ fold-roll-Term Value step (Term-F.Add t u)

  abbrev top : Term → Value
  top = value s0 s []

  read_put_value : (a i e j : Term) → top (v.Read (v.Put a i e) j) ≡ Whole (read_at (put_at (cells (top a)) (whole (top i)) (whole (top e))) (whole (top j)))
  read_put_value a i e j = read_value [] (v.Put a i e) j ∙ ap (λ x. Whole (read_at (cells x) (whole (top j)))) (put_value [] a i e)

  put_same_holds : (a i e : Term) (n : ℕ) → HasSort (top a) (Array n) → HasSort (top e) Int → holds library (put_same a i e n) s0 s []
  put_same_holds a i e n array int =
      made (Formula-F.Imp (formula.And (formula.AtMost (v.Lit (pos 0)) i) (formula.Less i (v.Lit (pos n)))) (formula.Eq (v.Read (v.Put a i e) i) e)) _ [] (formula.rolls-Imp _ _) (λ both.
      let pair = seen (Formula-F.And (formula.AtMost (v.Lit (pos 0)) i) (formula.Less i (v.Lit (pos n)))) _ [] (formula.rolls-And _ _) both in
      let low = seen (Formula-F.AtMost (v.Lit (pos 0)) i) _ [] (formula.rolls-AtMost _ _) pair.0 in
      let high = seen (Formula-F.Less i (v.Lit (pos n))) _ [] (formula.rolls-Less _ _) pair.1 in
      let low' = subst (λ x. whole x ≤ℤ whole (top i)) (lit_value [] (pos 0)) low in
      let high' = subst (λ x. whole (top i) <ℤ whole x) (lit_value [] (pos n)) high in
      made (Formula-F.Eq (v.Read (v.Put a i e) i) e) _ [] (formula.rolls-Eq _ _)
      (read_put_value a i e i ∙ ap Whole (read_put (top a) (whole (top i)) (whole (top e)) n array low' high') ∙ is_whole (top e) int))

  put_other_holds : (a i e j : Term) → HasSort (top i) Int → HasSort (top j) Int → holds library (put_other a i e j) s0 s []
  put_other_holds a i e j int_i int_j =
      made (Formula-F.Imp (formula.Not (formula.Eq i j)) (formula.Eq (v.Read (v.Put a i e) j) (v.Read a j))) _ [] (formula.rolls-Imp _ _) (λ other.
      let deny = seen (Formula-F.Not (formula.Eq i j)) _ [] (formula.rolls-Not _) other in
      let apart : ¬ (whole (top i) ≡ whole (top j)) = λ e. deny (made (Formula-F.Eq i j) _ [] (formula.rolls-Eq _ _) (same_whole (top i) (top j) int_i int_j e)) in
      made (Formula-F.Eq (v.Read (v.Put a i e) j) (v.Read a j)) _ [] (formula.rolls-Eq _ _)
      (read_put_value a i e j ∙ ap Whole (read_other (cells (top a)) (whole (top i)) (whole (top j)) (whole (top e)) apart) ∙ sym (read_value [] a j)))

  extension_holds : (a b : Term) (n : ℕ) → ((w : Value) → value s0 s (w ∷ []) a ≡ top a) → ((w : Value) → value s0 s (w ∷ []) b ≡ top b) →
      HasSort (top a) (Array n) → HasSort (top b) (Array n) → holds library (extension a b) s0 s []
  extension_holds a b n free_a free_b array_a array_b =
      made (Formula-F.Imp (formula.All Int (formula.Eq (v.Read a (v.Bound 0)) (v.Read b (v.Bound 0)))) (formula.Eq a b)) _ [] (formula.rolls-Imp _ _) (λ everywhere.
      let all = seen (Formula-F.All Int (formula.Eq (v.Read a (v.Bound 0)) (v.Read b (v.Bound 0)))) _ [] (formula.rolls-All _ _) everywhere in
      made (Formula-F.Eq a b) _ [] (formula.rolls-Eq _ _) (same_arrays (top a) (top b) n array_a array_b (λ z. cell z (seen (Formula-F.Eq (v.Read a (v.Bound 0)) (v.Read b (v.Bound 0))) _ (Whole z ∷ []) (formula.rolls-Eq _ _) (all (Whole z) tt)))))
    where
      one : (z : ℤ) (t : Term) → value s0 s (Whole z ∷ []) t ≡ top t → value s0 s (Whole z ∷ []) (v.Read t (v.Bound 0)) ≡ Whole (read_at (cells (top t)) z)
      one z t e =
          read_value (Whole z ∷ []) t (v.Bound 0)
          ∙ ap (λ x. Whole (read_at (cells x) (whole (value s0 s (Whole z ∷ []) (v.Bound 0))))) e
          ∙ ap (λ x. Whole (read_at (cells (top t)) (whole x))) (bound_value (Whole z ∷ []) 0)

      cell : (z : ℤ) → value s0 s (Whole z ∷ []) (v.Read a (v.Bound 0)) ≡ value s0 s (Whole z ∷ []) (v.Read b (v.Bound 0)) → read_at (cells (top a)) z ≡ read_at (cells (top b)) z
      cell z e = ap whole (sym (one z a (free_a (Whole z))) ∙ e ∙ one z b (free_b (Whole z)))

  sum_value : (t u : Term) → top (v.Add (v.Mul u (v.Div t u)) (v.Mod t u)) ≡ Whole ((whole (top u) *ℤ div_floor (whole (top t)) (whole (top u))) +ℤ mod_floor (whole (top t)) (whole (top u)))
  sum_value t u =
      add_value [] (v.Mul u (v.Div t u)) (v.Mod t u)
      ∙ ap (λ x. Whole (whole x +ℤ whole (top (v.Mod t u)))) (mul_value [] u (v.Div t u) ∙ ap (λ x. Whole (whole (top u) *ℤ whole x)) (div_value [] t u))
      ∙ ap (λ x. Whole ((whole (top u) *ℤ div_floor (whole (top t)) (whole (top u))) +ℤ whole x)) (mod_value [] t u)

  quotient_holds : (t u : Term) → HasSort (top t) Int → HasSort (top u) Int → holds library (axioms.quotient_law t u) s0 s []
  quotient_holds t u int_t int_u =
      made (Formula-F.Imp (formula.Not (formula.Eq u (v.Lit (pos 0)))) (formula.Eq t (v.Add (v.Mul u (v.Div t u)) (v.Mod t u)))) _ [] (formula.rolls-Imp _ _) (λ h.
      let deny = seen (Formula-F.Not (formula.Eq u (v.Lit (pos 0)))) _ [] (formula.rolls-Not _) h in
      let apart : ¬ (whole (top u) ≡ pos 0) = λ e. deny (made (Formula-F.Eq u (v.Lit (pos 0))) _ [] (formula.rolls-Eq _ _) (sym (is_whole (top u) int_u) ∙ ap Whole e ∙ sym (lit_value [] (pos 0)))) in
      made (Formula-F.Eq t (v.Add (v.Mul u (v.Div t u)) (v.Mod t u))) _ [] (formula.rolls-Eq _ _)
      (sym (is_whole (top t) int_t) ∙ ap Whole (quotient_law (whole (top t)) (whole (top u)) apart) ∙ sym (sum_value t u)))

  positive_holds : (t u : Term) → holds library (axioms.positive_law t u) s0 s []
  positive_holds t u =
      made (Formula-F.Imp (formula.Less (v.Lit (pos 0)) u) (formula.And (formula.AtMost (v.Lit (pos 0)) (v.Mod t u)) (formula.Less (v.Mod t u) u))) _ [] (formula.rolls-Imp _ _) (λ h.
      let above = subst (λ x. whole x <ℤ whole (top u)) (lit_value [] (pos 0)) (seen (Formula-F.Less (v.Lit (pos 0)) u) _ [] (formula.rolls-Less _ _) h) in
      let r = rest_of_positive (whole (top t)) (whole (top u)) above in
      made (Formula-F.And (formula.AtMost (v.Lit (pos 0)) (v.Mod t u)) (formula.Less (v.Mod t u) u)) _ [] (formula.rolls-And _ _) (
        made (Formula-F.AtMost (v.Lit (pos 0)) (v.Mod t u)) _ [] (formula.rolls-AtMost _ _) (subst (λ x. whole x ≤ℤ whole (top (v.Mod t u))) (sym (lit_value [] (pos 0))) (subst (λ x. pos 0 ≤ℤ whole x) (sym (mod_value [] t u)) r.0)),
        made (Formula-F.Less (v.Mod t u) u) _ [] (formula.rolls-Less _ _) (subst (λ x. whole x <ℤ whole (top u)) (sym (mod_value [] t u)) r.1),
      ))

  negative_holds : (t u : Term) → holds library (axioms.negative_law t u) s0 s []
  negative_holds t u =
      made (Formula-F.Imp (formula.Less u (v.Lit (pos 0))) (formula.And (formula.Less u (v.Mod t u)) (formula.AtMost (v.Mod t u) (v.Lit (pos 0))))) _ [] (formula.rolls-Imp _ _) (λ h.
      let below = subst (λ x. whole (top u) <ℤ whole x) (lit_value [] (pos 0)) (seen (Formula-F.Less u (v.Lit (pos 0))) _ [] (formula.rolls-Less _ _) h) in
      let r = rest_of_negative (whole (top t)) (whole (top u)) below in
      made (Formula-F.And (formula.Less u (v.Mod t u)) (formula.AtMost (v.Mod t u) (v.Lit (pos 0)))) _ [] (formula.rolls-And _ _) (
        made (Formula-F.Less u (v.Mod t u)) _ [] (formula.rolls-Less _ _) (subst (λ x. whole (top u) <ℤ whole x) (sym (mod_value [] t u)) r.0),
        made (Formula-F.AtMost (v.Mod t u) (v.Lit (pos 0))) _ [] (formula.rolls-AtMost _ _) (subst (λ x. whole (top (v.Mod t u)) ≤ℤ whole x) (sym (lit_value [] (pos 0))) (subst (λ x. whole x ≤ℤ pos 0) (sym (mod_value [] t u)) r.1)),
      ))

  division_holds : (t u : Term) → HasSort (top t) Int → HasSort (top u) Int → holds library (division t u) s0 s []
  division_holds t u int_t int_u =
      made (Formula-F.And (formula.And (axioms.quotient_law t u) (axioms.positive_law t u)) (axioms.negative_law t u)) _ [] (formula.rolls-And _ _) (
        made (Formula-F.And (axioms.quotient_law t u) (axioms.positive_law t u)) _ [] (formula.rolls-And _ _) (quotient_holds t u int_t int_u, positive_holds t u),
        negative_holds t u,
      )

-- what an axiom's test says of the sorts

there : {X : Type 0} (b : Bool) (o : Option X) (x : X) → only_if b o ≡ Some x → (b ≡ true) × (o ≡ Some x)
there true o x e = (refl, e)
there false o x e = absurd (cc)

pub of_int : (o : Option Sort) → is_of Int o ≡ true → o ≡ Some Int
of_int None e = absurd (true≢false (sym e))
of_int (Some Int) e = refl
of_int (Some (Array n)) e = absurd (true≢false (sym e))

of_array : (o : Option Sort) (n : ℕ) → array_length o ≡ Some n → o ≡ Some (Array n)
of_array None n e = absurd (cc)
of_array (Some Int) n e = absurd (cc)
of_array (Some (Array m)) n e = cc

made_of : {X Y : Type 0} (f : X → Y) (o : Option X) (y : Y) → option_map f o ≡ Some y → (x : X) × (o ≡ Some x) × (f x ≡ y)
made_of f None y e = absurd (cc)
made_of f (Some x) y e = (x, refl, cc)

as_long : (names : List Named) (o p : Option ℕ) → same_length names o p ≡ true → (n : ℕ) × (o ≡ Some n) × (p ≡ Some n)
as_long names None p e = absurd (true≢false (sym e))
as_long names (Some m) None e = absurd (true≢false (sym e))
as_long names (Some m) (Some n) e = (m, refl, ap Some (sym ((Decides-eqb m n).0 e)))

known : (o : Option Sort) (sort : Sort) → o ≡ Some sort → is_some o ≡ true
known None sort e = absurd (cc)
known (Some s) sort e = refl

module _ (library : List Definition) (names : List Named) (s0 s : State) (fits0 : FitsNames names s0) (fits : FitsNames names s) where
  pub put_same_true : (a i e : Term) (f : Formula) → put_same_axiom names a i e ≡ Some f → holds library f s0 s []
  put_same_true a i e f is =
      let t = there (is_int names i && is_int names e) _ f is in
      let ints = and_parts (is_int names i) _ t.0 in
      let n = made_of _ (array_length (sort_of names [] a)) f t.1 in
      subst (λ g. holds library g s0 s []) n.2
      (put_same_holds library s0 s a i e n.0 (has_sort names s0 s fits0 fits a _ (of_array _ n.0 n.1)) (has_sort names s0 s fits0 fits e _ (of_int _ ints.1)))

  pub put_other_true : (a i e j : Term) (f : Formula) → put_other_axiom names a i e j ≡ Some f → holds library f s0 s []
  put_other_true a i e j f is =
      let t = there (is_int names i && is_int names e && is_int names j) _ f is in
      let ints = and_parts (is_int names i && is_int names e) _ t.0 in
      let first = and_parts (is_int names i) _ ints.0 in
      let n = made_of _ (array_length (sort_of names [] a)) f t.1 in
      subst (λ g. holds library g s0 s []) n.2
      (put_other_holds library s0 s a i e j (has_sort names s0 s fits0 fits i _ (of_int _ first.0)) (has_sort names s0 s fits0 fits j _ (of_int _ ints.1)))

  pub extension_true : (a b : Term) (f : Formula) → extension_axiom names a b ≡ Some f → holds library f s0 s []
  extension_true a b f is =
      let t = there (same_length names (array_length (sort_of names [] a)) (array_length (sort_of names [] b))) _ f is in
      let n = as_long names _ _ t.0 in
      let sort_a = of_array _ n.0 n.1 in
      let sort_b = of_array _ n.0 n.2 in
      let g : extension a b ≡ f = cc t.1 in
      subst (λ g. holds library g s0 s []) g
      (extension_holds library s0 s a b n.0 (λ w. no_binder names s0 s (w ∷ []) a (known _ _ sort_a)) (λ w. no_binder names s0 s (w ∷ []) b (known _ _ sort_b))
      (has_sort names s0 s fits0 fits a _ sort_a) (has_sort names s0 s fits0 fits b _ sort_b))

  pub division_true : (t u : Term) (f : Formula) → division_axiom names t u ≡ Some f → holds library f s0 s []
  division_true t u f is =
      let r = there (is_int names t && is_int names u) _ f is in
      let ints = and_parts (is_int names t) _ r.0 in
      let g : division t u ≡ f = cc r.1 in
      subst (λ g. holds library g s0 s []) g
      (division_holds library s0 s t u (has_sort names s0 s fits0 fits t _ (of_int _ ints.0)) (has_sort names s0 s fits0 fits u _ (of_int _ ints.1)))

module _ (library : List Definition) where
  -- an axiom that holds wherever the names have values of their sorts
  small_sound : (q : Sequent) (large : Bool) (f : Formula) → ((s0 s1 : State) → FitsNames q.names s0 → FitsNames q.names s1 → Holds library s0 s1 f) →
      AllValid library (effect (small_axiom large f) q) → Valid library q
  small_sound q true f holds v = absurd v
  small_sound q false f holds v = λ s0 s1 i j left right. one_refuted library q (f ∷ []) [] v s0 s1 i j left right (holds s0 s1 i j, tt) tt

  pub axiom_sound : (q : Sequent) (o : Option Formula) → ((s0 s1 : State) → FitsNames q.names s0 → FitsNames q.names s1 → (f : Formula) → o ≡ Some f → Holds library s0 s1 f) →
      AllValid library (effect (axiom_parts o) q) → Valid library q
  axiom_sound q None holds v = absurd v
  axiom_sound q (Some f) holds v = small_sound q _ f (λ s0 s1 i j. holds s0 s1 i j f refl) v
