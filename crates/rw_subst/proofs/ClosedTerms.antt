-- The binders do not matter to a term that has none.
use Rattle.std.proofs.Common.{◌≡◌, ℕ, Bool, true, false, List, [], slice_get, refl, sym, ap, ◌∙◌, subst, true≢false}
use Rattle.std.proofs.lemmas.Bool.{and_parts}
use Rattle.rw_terms.specs.declared.term.Term.{Term}
use Rattle.rw_terms.specs.declared.term.Term.TheVariants as v
use Rattle.rw_terms.specs.declared.term.Term.TheOpen.{Term-F}
use Rattle.rw_terms.specs.declared.term.Term.TheViews.{roll-Term}
use Rattle.rw_terms.specs.declared.term.Term.TheFolds.{map-Term, ind-Term, fold-roll-Term}
use Rattle.rw_terms.specs.State.{Value, given}
use Rattle.rw_terms.specs.Value.{value_step}
use Rattle.rw_subst.specs.declared.slot.Form.{Form}
use Rattle.rw_subst.specs.declared.slot.Form.TheVariants as form
use Rattle.rw_subst.specs.Closed.{closed_step, is_closed}
use Rattle.rw_subst.specs.Looks.{Looks, value_of}
use Rattle.rw_subst.specs.Slots.{plain}

module _ (looks : Looks) (b : List Value) where
  abbrev here : Term-F Value → Value
  here = value_step (looks form.Variable) (looks form.Initial) (looks form.Constant) b

  abbrev bare : Term-F Value → Value
  bare = value_step (looks form.Variable) (looks form.Initial) (looks form.Constant) []

  abbrev Same : Term → Type 0
  Same t = is_closed t ≡ true → value_of looks b t ≡ value_of looks [] t

  abbrev Layer : Type 0
  Layer = Term-F ((t : Term) × Same t)

  abbrev under : Layer → Term-F Term
  under = map-Term ((t : Term) × Same t) Term (λ e. e.0)

  same_layer : (y : Layer) → closed_step (map-Term Term Bool is_closed (under y)) ≡ true →
      here (map-Term Term Value (value_of looks b) (under y)) ≡ bare (map-Term Term Value (value_of looks []) (under y))
  same_layer (Term-F.Lit n) e = refl
  same_layer (Term-F.Var x) e = refl
  same_layer (Term-F.Init x) e = refl
  same_layer (Term-F.Const x) e = refl
  same_layer (Term-F.Bound k) e = absurd (true≢false (sym e))
  same_layer (Term-F.Neg a) e = λ i. here (Term-F.Neg (a.1 e i))
  same_layer (Term-F.Add a c) e = λ i. here (Term-F.Add (a.1 (and_parts _ _ e).0 i) (c.1 (and_parts (is_closed a.0) _ e).1 i))
  same_layer (Term-F.Sub a c) e = λ i. here (Term-F.Sub (a.1 (and_parts _ _ e).0 i) (c.1 (and_parts (is_closed a.0) _ e).1 i))
  same_layer (Term-F.Mul a c) e = λ i. here (Term-F.Mul (a.1 (and_parts _ _ e).0 i) (c.1 (and_parts (is_closed a.0) _ e).1 i))
  same_layer (Term-F.Div a c) e = λ i. here (Term-F.Div (a.1 (and_parts _ _ e).0 i) (c.1 (and_parts (is_closed a.0) _ e).1 i))
  same_layer (Term-F.Mod a c) e = λ i. here (Term-F.Mod (a.1 (and_parts _ _ e).0 i) (c.1 (and_parts (is_closed a.0) _ e).1 i))
  same_layer (Term-F.Read a c) e = λ i. here (Term-F.Read (a.1 (and_parts _ _ e).0 i) (c.1 (and_parts (is_closed a.0) _ e).1 i))
  same_layer (Term-F.Put a c d) e =
      let rest = (and_parts (is_closed a.0) _ e).1 in
      λ i. here (Term-F.Put (a.1 (and_parts _ _ e).0 i) (c.1 (and_parts _ _ rest).0 i) (d.1 (and_parts (is_closed c.0) _ rest).1 i))
  same_layer (Term-F.Fun f args) e = refl

  same_at : (y : Layer) → Same (roll-Term (under y))
  same_at y e =
      fold-roll-Term Value here (under y)
      ∙ same_layer y (sym (fold-roll-Term Bool closed_step (under y)) ∙ e)
      ∙ sym (fold-roll-Term Value bare (under y))

  pub closed_value : (t : Term) → is_closed t ≡ true → value_of looks b t ≡ value_of looks [] t
  closed_value = ind-Term Same (λ x y is. subst (λ z. Same (roll-Term z)) is (same_at y))

  -- the value of a name, and of a binder
  pub plain_value : (f : Form) (x : List ℕ) → value_of looks b (plain f x) ≡ looks f x
  plain_value form.Variable x = ap (value_of looks b) (sym (v.rolls-Var x)) ∙ fold-roll-Term Value here (Term-F.Var x)
  plain_value form.Initial x = ap (value_of looks b) (sym (v.rolls-Init x)) ∙ fold-roll-Term Value here (Term-F.Init x)
  plain_value form.Constant x = ap (value_of looks b) (sym (v.rolls-Const x)) ∙ fold-roll-Term Value here (Term-F.Const x)

  pub binder_value : (j : ℕ) → value_of looks b (v.Bound j) ≡ given (slice_get b j)
  binder_value j = ap (value_of looks b) (sym (v.rolls-Bound j)) ∙ fold-roll-Term Value here (Term-F.Bound j)
