-- Where the state is the initial one, initial variables are variables.
use Rattle.std.proofs.Common.{◌≡◌, ℕ, Bool, true, false, if◌then◌else◌, List, [], ◌∷◌, map, refl, sym, ap, ◌∙◌, subst, reverse}
use Rattle.std.specs.Prelude.{◌↔◌, bytes_eq}
use Rattle.std.proofs.lemmas.Slice.Eq.{bytes_eq-Decides}
use Rattle.rw_terms.specs.State.{Value, State, value_in}
use Rattle.rw_subst.specs.declared.slot.Form.{Form}
use Rattle.rw_subst.specs.declared.slot.Form.TheVariants as form
use Rattle.rw_subst.specs.Replaced.{replaced_formula, from_initial}
use Rattle.rw_subst.specs.Looks.{Looks, changed_looks, in_states, holds_of}
use Rattle.rw_subst.specs.Laws.{CurrentForInitial}
use Rattle.rw_subst.proofs.ClosedTerms.{plain_value}
use Rattle.rw_subst.proofs.Replacing.{replacement_keeps_truth, initial_changes_are_closed}

-- one name is read as its variable
one_current : (s : State) (x y : List ℕ) (v w : Value) (b : Bool) → bytes_eq x y ≡ b → v ≡ value_in s y → w ≡ value_in s x → (if b then v else w) ≡ value_in s x
one_current s x y v w true e h k = h ∙ ap (value_in s) (sym ((bytes_eq-Decides x y).0 e))
one_current s x y v w false e h k = k

current : (frame : List (List ℕ)) (s : State) (g : Form) (x : List ℕ) → changed_looks (map from_initial frame) (in_states s s) g x ≡ in_states s s g x
current [] s g x = refl
current (y ∷ frame) s form.Variable x = current frame s form.Variable x
current (y ∷ frame) s form.Constant x = current frame s form.Constant x
current (y ∷ frame) s form.Initial x =
    one_current s x y _ _ (bytes_eq x y) refl (plain_value (in_states s s) [] form.Variable y) (current frame s form.Initial x)

pub current_for_initial : CurrentForInitial
current_for_initial frame f library s b =
    subst (λ (looks : Looks). holds_of (reverse library) (in_states s s) (replaced_formula (map from_initial frame) f) b ↔ holds_of (reverse library) looks f b) (λ i g x. current frame s g x i)
    (replacement_keeps_truth (map from_initial frame) f ((initial_changes_are_closed frame).1) (reverse library) (in_states s s) b)
