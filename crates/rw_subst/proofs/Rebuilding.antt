-- The value of what is built again, by induction: that of the old one, where each leaf has the value of what is put for it.
use Rattle.std.proofs.Common.{◌≡◌, ◌↔◌, ℕ, suc, Bool, true, ◌||◌, List, [], ◌∷◌, map, slice_get, refl, sym, ap, ◌∙◌, subst, ◌<ℤ◌, ◌≤ℤ◌, bytes_eq}
use Rattle.std.proofs.lemmas.Bool.{or_left, or_right}
use Rattle.std.proofs.lemmas.Slice.Eq.{bytes_eq-Decides}
use Rattle.rw_terms.specs.declared.term.Term.{Term}
use Rattle.rw_terms.specs.declared.term.Term.TheVariants as v
use Rattle.rw_terms.specs.declared.term.Term.TheOpen.{Term-F}
use Rattle.rw_terms.specs.declared.term.Term.TheViews.{roll-Term}
use Rattle.rw_terms.specs.declared.term.Term.TheFolds.{map-Term, ind-Term, fold-roll-Term}
use Rattle.rw_terms.specs.declared.term.Formula.{Formula}
use Rattle.rw_terms.specs.declared.term.Formula.TheVariants as formula
use Rattle.rw_terms.specs.declared.term.Formula.TheOpen.{Formula-F}
use Rattle.rw_terms.specs.declared.term.Formula.TheViews.{roll-Formula}
use Rattle.rw_terms.specs.declared.term.Formula.TheFolds.{map-Formula, ind-Formula, fold-roll-Formula}
use Rattle.rw_terms.specs.State.{Value, whole, given}
use Rattle.rw_terms.specs.Value.{value_step}
use Rattle.rw_terms.specs.Truth.{Definition, predicates_of}
use Rattle.rw_terms.proofs.Truths.{to_layer, from_layer, layer_truth}
use Rattle.rw_terms.proofs.Agree.{not_iff, and_iff, imp_iff, all_iff, along, along_both}
use Rattle.rw_subst.specs.declared.slot.Form.{Form}
use Rattle.rw_subst.specs.declared.slot.Form.TheVariants as form
use Rattle.rw_subst.specs.Leaves.{Leaves, rebuilt_step, rebuilt_term, rebuilt_formula_step, rebuilt_formula}
use Rattle.rw_subst.specs.Looks.{Looks, value_of, holds_of}
use Rattle.rw_subst.specs.Stands.{stands_step, stands_in_term, stands_in_terms, formula_stands_step, stands_in}

-- a test of names in their forms
abbrev pub Test : Type 0
Test = Form → List ℕ → Bool

-- each name that passes the one passes the other
abbrev pub Within : Test → Test → Type 0
Within p q = (g : Form) (x : List ℕ) → p g x ≡ true → q g x ≡ true

module _ (leaves : Leaves) (looks looks' : Looks) (test : Test) (R : ℕ → List Value → List Value → Type 0) where
  -- what is put for a name that passes the test has the name's value
  abbrev pub NamesFit : Type 0
  NamesFit = (k : ℕ) (b b' : List Value) → R k b b' → (g : Form) (x : List ℕ) → test g x ≡ true → value_of looks b (leaves.name k g x) ≡ looks' g x

  -- what is put for a binder has the binder's value
  abbrev pub BindersFit : Type 0
  BindersFit = (k : ℕ) (b b' : List Value) → R k b b' → (j : ℕ) → value_of looks b (leaves.binder k j) ≡ given (slice_get b' j)

  -- so it is inside a quantifier
  abbrev pub GoesInside : Type 0
  GoesInside = (k : ℕ) (b b' : List Value) (w : Value) → R k b b' → R (suc k) (w ∷ b) (w ∷ b')

  module _ (names : NamesFit) (binders : BindersFit) where
    left : (p q : Test) → Within (λ g x. p g x || q g x) test → Within p test
    left p q w g x h = w g x (or_left (p g x) (q g x) h)

    right : (p q : Test) → Within (λ g x. p g x || q g x) test → Within q test
    right p q w g x h = w g x (or_right (p g x) (q g x) h)

    itself : (x : List ℕ) → bytes_eq x x ≡ true
    itself x = (bytes_eq-Decides x x).1 refl

    abbrev of_term : Term → Test
    of_term t = λ g x. stands_in_term g x t

    module _ (k : ℕ) (b b' : List Value) (r : R k b b') where
      abbrev here : Term-F Value → Value
      here = value_step (looks form.Variable) (looks form.Initial) (looks form.Constant) b

      abbrev there : Term-F Value → Value
      there = value_step (looks' form.Variable) (looks' form.Initial) (looks' form.Constant) b'

      abbrev re : Term → Term
      re = rebuilt_term leaves k

      abbrev new_value : Term → Value
      new_value t = value_of looks b (re t)

      abbrev old_value : Term → Value
      old_value t = value_of looks' b' t

      abbrev KeptTerm : Term → Type 0
      KeptTerm t = Within (of_term t) test → new_value t ≡ old_value t

      abbrev TermLayer : Type 0
      TermLayer = Term-F ((t : Term) × KeptTerm t)

      abbrev under : TermLayer → Term-F Term
      under = map-Term ((t : Term) × KeptTerm t) Term (λ e. e.0)

      abbrev of_part : (t : Term) × KeptTerm t → Test
      of_part e = of_term e.0

      -- where the layer is built again
      again : (x : Term-F Term) → rebuilt_step leaves k (map-Term Term Term re x) ≡ roll-Term (map-Term Term Term re x) →
          here (map-Term Term Value (value_of looks b) (map-Term Term Term re x)) ≡ there (map-Term Term Value old_value x) → new_value (roll-Term x) ≡ old_value (roll-Term x)
      again x same e =
          ap (value_of looks b) (fold-roll-Term Term (rebuilt_step leaves k) x ∙ same)
          ∙ fold-roll-Term Value here (map-Term Term Term re x)
          ∙ e
          ∙ sym (fold-roll-Term Value there x)

      -- where something is put for it
      put : (x : Term-F Term) → value_of looks b (rebuilt_step leaves k (map-Term Term Term re x)) ≡ there (map-Term Term Value old_value x) → new_value (roll-Term x) ≡ old_value (roll-Term x)
      put x e = ap (value_of looks b) (fold-roll-Term Term (rebuilt_step leaves k) x) ∙ e ∙ sym (fold-roll-Term Value there x)

      kept_layer : (y : TermLayer) → Within (λ g x. stands_step g x (map-Term Term Bool (stands_in_term g x) (under y))) test → new_value (roll-Term (under y)) ≡ old_value (roll-Term (under y))
      kept_layer (Term-F.Lit n) w = again (Term-F.Lit n) (sym (v.rolls-Lit n)) refl
      kept_layer (Term-F.Var x) w = put (Term-F.Var x) (names k b b' r form.Variable x (w form.Variable x (itself x)))
      kept_layer (Term-F.Init x) w = put (Term-F.Init x) (names k b b' r form.Initial x (w form.Initial x (itself x)))
      kept_layer (Term-F.Const x) w = put (Term-F.Const x) (names k b b' r form.Constant x (w form.Constant x (itself x)))
      kept_layer (Term-F.Bound j) w = put (Term-F.Bound j) (binders k b b' r j)
      kept_layer (Term-F.Neg a) w = again (Term-F.Neg a.0) (sym (v.rolls-Neg (re a.0))) (λ i. here (Term-F.Neg (a.1 w i)))
      kept_layer (Term-F.Add a c) w =
          again (Term-F.Add a.0 c.0) (sym (v.rolls-Add (re a.0) (re c.0))) (λ i. here (Term-F.Add (a.1 (left (of_part a) (of_part c) w) i) (c.1 (right (of_part a) (of_part c) w) i)))
      kept_layer (Term-F.Sub a c) w =
          again (Term-F.Sub a.0 c.0) (sym (v.rolls-Sub (re a.0) (re c.0))) (λ i. here (Term-F.Sub (a.1 (left (of_part a) (of_part c) w) i) (c.1 (right (of_part a) (of_part c) w) i)))
      kept_layer (Term-F.Mul a c) w =
          again (Term-F.Mul a.0 c.0) (sym (v.rolls-Mul (re a.0) (re c.0))) (λ i. here (Term-F.Mul (a.1 (left (of_part a) (of_part c) w) i) (c.1 (right (of_part a) (of_part c) w) i)))
      kept_layer (Term-F.Div a c) w =
          again (Term-F.Div a.0 c.0) (sym (v.rolls-Div (re a.0) (re c.0))) (λ i. here (Term-F.Div (a.1 (left (of_part a) (of_part c) w) i) (c.1 (right (of_part a) (of_part c) w) i)))
      kept_layer (Term-F.Mod a c) w =
          again (Term-F.Mod a.0 c.0) (sym (v.rolls-Mod (re a.0) (re c.0))) (λ i. here (Term-F.Mod (a.1 (left (of_part a) (of_part c) w) i) (c.1 (right (of_part a) (of_part c) w) i)))
      kept_layer (Term-F.Read a c) w =
          again (Term-F.Read a.0 c.0) (sym (v.rolls-Read (re a.0) (re c.0))) (λ i. here (Term-F.Read (a.1 (left (of_part a) (of_part c) w) i) (c.1 (right (of_part a) (of_part c) w) i)))
      kept_layer (Term-F.Put a c d) w =
          let more = right (of_part a) (λ g x. of_part c g x || of_part d g x) w in
          again (Term-F.Put a.0 c.0 d.0) (sym (v.rolls-Put (re a.0) (re c.0) (re d.0)))
          (λ i. here (Term-F.Put (a.1 (left (of_part a) (λ g x. of_part c g x || of_part d g x) w) i) (c.1 (left (of_part c) (of_part d) more) i) (d.1 (right (of_part c) (of_part d) more) i)))
      kept_layer (Term-F.Fun f args) w = again (Term-F.Fun f (map (λ e. e.0) args)) (sym (v.rolls-Fun f (map re (map (λ e. e.0) args)))) refl

      kept_at : (y : TermLayer) → KeptTerm (roll-Term (under y))
      kept_at y w = kept_layer y (λ g x h. w g x (fold-roll-Term Bool (stands_step g x) (under y) ∙ h))

      pub kept_term : (t : Term) → KeptTerm t
      kept_term = ind-Term KeptTerm (λ x y is. subst (λ z. KeptTerm (roll-Term z)) is (kept_at y))

      kept_terms : (ts : List Term) → Within (λ g x. stands_in_terms g x ts) test → map (value_of looks b) (map re ts) ≡ map old_value ts
      kept_terms [] w = refl
      kept_terms (t ∷ ts) w =
          let p = kept_term t (left (of_term t) (λ g x. stands_in_terms g x ts) w) in
          let q = kept_terms ts (right (of_term t) (λ g x. stands_in_terms g x ts) w) in
          λ i. p i ∷ q i

      two_terms : (t u : Term) → Within (λ g x. of_term t g x || of_term u g x) test → (new_value t ≡ old_value t) × (new_value u ≡ old_value u)
      two_terms t u w = (kept_term t (left (of_term t) (of_term u) w), kept_term u (right (of_term t) (of_term u) w))

    module _ (inside : GoesInside) (definitions : List Definition) where
      abbrev new_truth : Formula → List Value → Type 0
      new_truth = holds_of definitions looks

      abbrev old_truth : Formula → List Value → Type 0
      old_truth = holds_of definitions looks'

      abbrev new_layer : Formula-F Formula → List Value → Type 0
      new_layer = layer_truth (predicates_of definitions) (looks form.Variable) (looks form.Initial) (looks form.Constant)

      abbrev old_layer : Formula-F Formula → List Value → Type 0
      old_layer = layer_truth (predicates_of definitions) (looks' form.Variable) (looks' form.Initial) (looks' form.Constant)

      abbrev of_formula : Formula → Test
      of_formula f = λ g x. stands_in g x f

      abbrev Kept : Formula → Type 0
      Kept f = Within (of_formula f) test → (k : ℕ) (b b' : List Value) → R k b b' → new_truth (rebuilt_formula leaves f k) b ↔ old_truth f b'

      abbrev Layer : Type 0
      Layer = Formula-F ((f : Formula) × Kept f)

      abbrev parts : Layer → Formula-F Formula
      parts = map-Formula ((f : Formula) × Kept f) Formula (λ e. e.0)

      abbrev of_kept : (f : Formula) × Kept f → Test
      of_kept e = of_formula e.0

      -- the layer of the result under k binders
      abbrev made : Layer → ℕ → Formula-F Formula
      made Formula-F.True k = Formula-F.True
      made Formula-F.False k = Formula-F.False
      made (Formula-F.Eq t u) k = Formula-F.Eq (rebuilt_term leaves k t) (rebuilt_term leaves k u)
      made (Formula-F.Less t u) k = Formula-F.Less (rebuilt_term leaves k t) (rebuilt_term leaves k u)
      made (Formula-F.AtMost t u) k = Formula-F.AtMost (rebuilt_term leaves k t) (rebuilt_term leaves k u)
      made (Formula-F.Not f) k = Formula-F.Not (rebuilt_formula leaves f.0 k)
      made (Formula-F.And f g) k = Formula-F.And (rebuilt_formula leaves f.0 k) (rebuilt_formula leaves g.0 k)
      made (Formula-F.Or f g) k = Formula-F.Or (rebuilt_formula leaves f.0 k) (rebuilt_formula leaves g.0 k)
      made (Formula-F.Imp f g) k = Formula-F.Imp (rebuilt_formula leaves f.0 k) (rebuilt_formula leaves g.0 k)
      made (Formula-F.All s f) k = Formula-F.All s (rebuilt_formula leaves f.0 (suc k))
      made (Formula-F.Any s f) k = Formula-F.Any s (rebuilt_formula leaves f.0 (suc k))
      made (Formula-F.App p args) k = Formula-F.App p (map (rebuilt_term leaves k) args)

      is_made : (y : Layer) (k : ℕ) → rebuilt_formula_step leaves (map-Formula Formula (ℕ → Formula) (rebuilt_formula leaves) (parts y)) k ≡ roll-Formula (made y k)
      is_made Formula-F.True k = sym formula.rolls-True
      is_made Formula-F.False k = sym formula.rolls-False
      is_made (Formula-F.Eq t u) k = sym (formula.rolls-Eq _ _)
      is_made (Formula-F.Less t u) k = sym (formula.rolls-Less _ _)
      is_made (Formula-F.AtMost t u) k = sym (formula.rolls-AtMost _ _)
      is_made (Formula-F.Not f) k = sym (formula.rolls-Not _)
      is_made (Formula-F.And f g) k = sym (formula.rolls-And _ _)
      is_made (Formula-F.Or f g) k = sym (formula.rolls-Or _ _)
      is_made (Formula-F.Imp f g) k = sym (formula.rolls-Imp _ _)
      is_made (Formula-F.All s f) k = sym (formula.rolls-All _ _)
      is_made (Formula-F.Any s f) k = sym (formula.rolls-Any _ _)
      is_made (Formula-F.App p args) k = sym (formula.rolls-App _ _)

      kept_formula_layer : (y : Layer) → Within (λ g x. formula_stands_step g x (map-Formula Formula Bool (stands_in g x) (parts y))) test → (k : ℕ) (b b' : List Value) → R k b b' →
          new_layer (made y k) b ↔ old_layer (parts y) b'
      kept_formula_layer Formula-F.True w k b b' r = (λ h. h, λ h. h)
      kept_formula_layer Formula-F.False w k b b' r = (λ h. h, λ h. h)
      kept_formula_layer (Formula-F.Eq t u) w k b b' r = let e = two_terms k b b' r t u w in along_both (λ p q. p ≡ q) e.0 e.1
      kept_formula_layer (Formula-F.Less t u) w k b b' r = let e = two_terms k b b' r t u w in along_both (λ p q. whole p <ℤ whole q) e.0 e.1
      kept_formula_layer (Formula-F.AtMost t u) w k b b' r = let e = two_terms k b b' r t u w in along_both (λ p q. whole p ≤ℤ whole q) e.0 e.1
      kept_formula_layer (Formula-F.Not f) w k b b' r = not_iff (f.1 w k b b' r)
      kept_formula_layer (Formula-F.And f g) w k b b' r = and_iff (f.1 (left (of_kept f) (of_kept g) w) k b b' r) (g.1 (right (of_kept f) (of_kept g) w) k b b' r)
      kept_formula_layer (Formula-F.Or f g) w k b b' r =
          not_iff (and_iff (not_iff (f.1 (left (of_kept f) (of_kept g) w) k b b' r)) (not_iff (g.1 (right (of_kept f) (of_kept g) w) k b b' r)))
      kept_formula_layer (Formula-F.Imp f g) w k b b' r = imp_iff (f.1 (left (of_kept f) (of_kept g) w) k b b' r) (g.1 (right (of_kept f) (of_kept g) w) k b b' r)
      kept_formula_layer (Formula-F.All s f) w k b b' r = all_iff _ _ s (λ u. f.1 w (suc k) (u ∷ b) (u ∷ b') (inside k b b' u r))
      kept_formula_layer (Formula-F.Any s f) w k b b' r = not_iff (all_iff _ _ s (λ u. not_iff (f.1 w (suc k) (u ∷ b) (u ∷ b') (inside k b b' u r))))
      kept_formula_layer (Formula-F.App p args) w k b b' r = along (predicates_of definitions p) (kept_terms k b b' r args w)

      kept_formula_at : (y : Layer) → Kept (roll-Formula (parts y))
      kept_formula_at y w k b b' r =
          let same = (λ i. fold-roll-Formula (ℕ → Formula) (rebuilt_formula_step leaves) (parts y) i k) ∙ is_made y k in
          let both = kept_formula_layer y (λ g x h. w g x (fold-roll-Formula Bool (formula_stands_step g x) (parts y) ∙ h)) k b b' r in (
            λ h. from_layer (predicates_of definitions) _ _ _ (parts y) b' (both.0 (to_layer (predicates_of definitions) _ _ _ (made y k) b (subst (λ f. new_truth f b) same h))),
            λ h. subst (λ f. new_truth f b) (sym same) (from_layer (predicates_of definitions) _ _ _ (made y k) b (both.1 (to_layer (predicates_of definitions) _ _ _ (parts y) b' h))),
          )

      pub kept_formula : (f : Formula) → Kept f
      kept_formula = ind-Formula Kept (λ x y is. subst (λ z. Kept (roll-Formula z)) is (kept_formula_at y))
