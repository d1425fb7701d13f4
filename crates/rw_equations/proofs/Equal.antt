-- The rules of equality are sound.
use Rattle.std.proofs.Common.{◌≡◌, ◌↔◌, ℕ, ◌-◌, Bool, true, false, ◌&&◌, nat_eq, ℤ, List, [], ◌∷◌, reverse, Option, Some, None, refl, sym, ◌∙◌, subst, ◌≤ℤ◌, arith}
use Rattle.std.proofs.lemmas.Bool.{and_parts}
use Rattle.std.specs.Prelude.{is_some}
use Rattle.std.proofs.lemmas.Int.{ints}
use Rattle.rw_terms.specs.declared.term.Sort.TheVariants.{Int}
use Rattle.rw_terms.specs.declared.term.Term.{Term}
use Rattle.rw_terms.specs.declared.term.Formula.{Formula}
use Rattle.rw_terms.specs.declared.term.Formula.TheVariants.{Eq, AtMost}
use Rattle.rw_terms.specs.declared.term.Formula.TheVariants as formula
use Rattle.rw_terms.specs.declared.term.Formula.TheOpen.{Formula-F}
use Rattle.rw_terms.specs.declared.term.Formula.TheViews.{out-Formula}
use Rattle.rw_terms.specs.declared.sequent.Sequent.{Sequent}
use Rattle.rw_terms.specs.Named.{Named}
use Rattle.rw_terms.specs.State.{Value, whole, State, value_in}
use Rattle.rw_terms.specs.Value.{value}
use Rattle.rw_terms.specs.Truth.{Definition, predicates_of, holds}
use Rattle.rw_terms.specs.Validity.{Each, FitsNames, Valid}
use Rattle.rw_goals.specs.declared.added.Parts.TheVariants as parts
use Rattle.rw_goals.specs.Premises.{nothing, on_right, effect}
use Rattle.rw_goals.specs.Sorting.{sort_of}
use Rattle.rw_goals.proofs.Sorted.{has_sort, no_binder}
use Rattle.rw_goals.proofs.Sound.{Holds, Denies, HoldsAt, opened, closed, AllValid, two_valid, refuted, one_refuted}
use Rattle.rw_goals.proofs.Places.{at_number, with_place, without_right, right_sound, beside_left_sound}
use Rattle.rw_equations.specs.declared.equality.Rewritten.{Rewritten}
use Rattle.rw_equations.specs.declared.equality.Rewritten.TheVariants as rewritten
use Rattle.rw_axioms.specs.Axioms.{is_int}
use Rattle.rw_equations.specs.Rewritten.{rewritten_formula}
use Rattle.rw_equations.specs.Equality.{two_orders, equal_right, equation_right, flipped, flip, sides_if, sides, if_small, rewritten_by, rewriting, unless_itself, placed, left_with, right_with, rewrite_left, rewrite_right}
use Rattle.rw_equations.proofs.Rewrites.{truth_kept}
use Rattle.rw_axioms.proofs.True.{made, seen, same_whole, of_int}

between : (a b : ℤ) → a ≤ℤ b → b ≤ℤ a → a ≡ b
between a b h k = omega (arith, ints)

module _ (library : List Definition) where
  equal_values : (q : Sequent) (s t : Term) (s0 s1 : State) → FitsNames q.names s0 → FitsNames q.names s1 → is_int q.names s ≡ true → is_int q.names t ≡ true →
      whole (value s0 s1 [] s) ≤ℤ whole (value s0 s1 [] t) → whole (value s0 s1 [] t) ≤ℤ whole (value s0 s1 [] s) → value s0 s1 [] s ≡ value s0 s1 [] t
  equal_values q s t s0 s1 i j p r low high =
      same_whole (value s0 s1 [] s) (value s0 s1 [] t) (has_sort q.names s0 s1 i j s Int (of_int _ p)) (has_sort q.names s0 s1 i j t Int (of_int _ r)) (between _ _ low high)

  orders_sound : (q rest : Sequent) → rest.names ≡ q.names → (b : Bool) (s t : Term) → (b ≡ true → (is_int q.names s ≡ true) × (is_int q.names t ≡ true)) → AllValid library (effect (two_orders b s t) rest) →
      (s0 s1 : State) → FitsNames q.names s0 → FitsNames q.names s1 → ¬ (value s0 s1 [] s ≡ value s0 s1 [] t) → Each (Holds library s0 s1) rest.left → ¬ (Each (Denies library s0 s1) rest.right)
  orders_sound q rest is false s t ok v s0 s1 i j deny left right = absurd v
  orders_sound q rest is true s t ok v s0 s1 i j deny left right =
      let p = two_valid library rest (on_right (AtMost s t ∷ [])) (on_right (AtMost t s ∷ [])) v in
      let k = ok refl in
      let i' = subst (λ n. FitsNames n s0) (sym is) i in
      let j' = subst (λ n. FitsNames n s1) (sym is) j in
      refuted library rest [] (AtMost s t ∷ []) p.0 s0 s1 i' j' left right tt (
        λ h.
            refuted library rest [] (AtMost t s ∷ []) p.1 s0 s1 i' j' left right tt (
              λ g.
                  deny (equal_values q s t s0 s1 i j k.0 k.1
                  (seen library s0 s1 (Formula-F.AtMost s t) _ [] (formula.rolls-AtMost _ _) h)
                  (seen library s0 s1 (Formula-F.AtMost t s) _ [] (formula.rolls-AtMost _ _) g)),
              tt,
            ),
        tt,
      )

  equal_layer : (q rest : Sequent) → rest.names ≡ q.names → (x : Formula-F Formula) → AllValid library (effect (equal_right q.names x) rest) → (s0 s1 : State) →
      FitsNames q.names s0 → FitsNames q.names s1 → ¬ (HoldsAt library s0 s1 x) → Each (Holds library s0 s1) rest.left → ¬ (Each (Denies library s0 s1) rest.right)
  equal_layer q rest is (Formula-F.Eq s t) v s0 s1 i j deny left right =
      orders_sound q rest is (is_int q.names s && is_int q.names t) s t (and_parts (is_int q.names s) _) v s0 s1 i j (λ e. deny e) left right
  equal_layer q rest is _ v s0 s1 i j deny left right = absurd v

  pub equation_right_sound : (q : Sequent) (n : ℕ) → AllValid library (equation_right q n) → Valid library q
  equation_right_sound q n = right_sound library q (λ f. equal_right q.names (out-Formula f)) n
      (λ f e v s0 s1 i j deny. equal_layer q (without_right library q n) refl (out-Formula f) v s0 s1 i j (λ h. deny (closed library s0 s1 f h)))

  flipped_layer : (q : Sequent) (x : Formula-F Formula) → AllValid library (effect (flipped x) q) → (s0 s1 : State) →
      FitsNames q.names s0 → FitsNames q.names s1 → HoldsAt library s0 s1 x → Each (Holds library s0 s1) q.left → ¬ (Each (Denies library s0 s1) q.right)
  flipped_layer q (Formula-F.Eq s t) v s0 s1 i j h left right =
      one_refuted library q (Eq t s ∷ []) [] v s0 s1 i j left right (made library s0 s1 (Formula-F.Eq t s) _ [] (formula.rolls-Eq _ _) (sym h), tt) tt
  flipped_layer q _ v s0 s1 i j h left right = absurd v

  pub flip_sound : (q : Sequent) (n : ℕ) → AllValid library (flip q n) → Valid library q
  flip_sound q n = beside_left_sound library q (λ f. flipped (out-Formula f)) n
      (λ f v s0 s1 i j h. flipped_layer q (out-Formula f) v s0 s1 i j (opened library s0 s1 f h))

-- what a rewritten formula is made of
abbrev IsRewritten : List Named → Formula → Formula → Formula → Type 0
IsRewritten names e f g =
    (s : Term) × (t : Term) × (out-Formula e ≡ Formula-F.Eq s t) × (is_some (sort_of names [] s) ≡ true) × (is_some (sort_of names [] t) ≡ true) × (rewritten_formula s t f ≡ g)

small_told : (b : Bool) (f g : Formula) → if_small b f ≡ rewritten.To g → f ≡ g
small_told true f g e = absurd (cc)
small_told false f g e = cc

sides_told : (names : List Named) (b : Bool) (s t : Term) (f g : Formula) (e : Formula) → out-Formula e ≡ Formula-F.Eq s t → (b ≡ true → (is_some (sort_of names [] s) ≡ true) × (is_some (sort_of names [] t) ≡ true)) →
    rewritten_by (sides_if b s t) f ≡ rewritten.To g → IsRewritten names e f g
sides_told names false s t f g e is ok h = absurd (cc)
sides_told names true s t f g e is ok h = let k = ok refl in (s, t, is, k.0, k.1, small_told _ _ g h)

by_told : (names : List Named) (x : Formula-F Formula) (e f g : Formula) → out-Formula e ≡ x → rewritten_by (sides names x) f ≡ rewritten.To g → IsRewritten names e f g
by_told names (Formula-F.Eq s t) e f g is h = sides_told names (is_some (sort_of names [] s) && is_some (sort_of names [] t)) s t f g e is (and_parts (is_some (sort_of names [] s)) _) h
by_told names _ e f g is h = absurd (cc)

rewriting_told : (names : List Named) (o p : Option Formula) (g : Formula) → rewriting names o p ≡ rewritten.To g →
    (e : Formula) × (f : Formula) × (o ≡ Some e) × (p ≡ Some f) × IsRewritten names e f g
rewriting_told names None p g h = absurd (cc)
rewriting_told names (Some e) None g h = absurd (cc)
rewriting_told names (Some e) (Some f) g h = (e, f, refl, refl, by_told names (out-Formula e) e f g refl h)

not_itself : (b : Bool) (o : Option Formula) (r : Rewritten) (g : Formula) → unless_itself b o r ≡ rewritten.To g → r ≡ rewritten.To g
not_itself true None r g e = absurd (cc)
not_itself true (Some f) r g e = absurd (cc)
not_itself false o r g e = e

module _ (library : List Definition) where
  placed_told : (r : Rewritten) (put : Formula → Sequent) → AllValid library (placed r put) → (g : Formula) × (r ≡ rewritten.To g) × AllValid library (effect (parts.One nothing) (put g))
  placed_told (rewritten.Fails cause) put v = absurd v
  placed_told (rewritten.To g) put v = (g, refl, v)

  -- where the equation holds, the rewritten formula holds where the old one does
  same_truth : (names : List Named) (e f g : Formula) → IsRewritten names e f g → (s0 s1 : State) → Holds library s0 s1 e → Holds library s0 s1 g ↔ Holds library s0 s1 f
  same_truth names e f g r s0 s1 h =
      let s = r.0 in
      let t = r.1 in
      let equal : value s0 s1 [] s ≡ value s0 s1 [] t = subst (HoldsAt library s0 s1) r.2 (opened library s0 s1 e h) in
      let same = λ (b : List Value). no_binder names s0 s1 b s r.3 ∙ equal ∙ sym (no_binder names s0 s1 b t r.4) in
      let both = truth_kept s t (predicates_of (reverse library)) (value_in s1) (value_in s0) (value_in s1) same f [] in
      subst (λ x. Holds library s0 s1 x ↔ Holds library s0 s1 f) r.5 both

  pub rewrite_left_sound : (q : Sequent) (i m : ℕ) → AllValid library (rewrite_left q i m) → Valid library q
  rewrite_left_sound q i m v = λ s0 s1 fits0 fits left right.
      let p = placed_told _ (left_with q m) v in
      let r = rewriting_told q.names _ _ p.0 (not_itself (nat_eq i m) _ _ p.0 p.1) in
      let e = at_number (Holds library s0 s1) q.left i r.0 r.2 left in
      let f = at_number (Holds library s0 s1) q.left m r.1 r.3 left in
      let g = (same_truth q.names r.0 r.1 p.0 r.4 s0 s1 e).1 f in
      one_refuted library (left_with q m p.0) [] [] p.2 s0 s1 fits0 fits (with_place (Holds library s0 s1) q.left (m - 1) p.0 g left) right tt tt

  pub rewrite_right_sound : (q : Sequent) (i j : ℕ) → AllValid library (rewrite_right q i j) → Valid library q
  rewrite_right_sound q i j v = λ s0 s1 fits0 fits left right.
      let p = placed_told _ (right_with q j) v in
      let r = rewriting_told q.names _ _ p.0 p.1 in
      let e = at_number (Holds library s0 s1) q.left i r.0 r.2 left in
      let f = at_number (Denies library s0 s1) q.right j r.1 r.3 right in
      let g : Denies library s0 s1 p.0 = λ h. f ((same_truth q.names r.0 r.1 p.0 r.4 s0 s1 e).0 h) in
      one_refuted library (right_with q j p.0) [] [] p.2 s0 s1 fits0 fits left (with_place (Denies library s0 s1) q.right (j - 1) p.0 g right) tt tt
