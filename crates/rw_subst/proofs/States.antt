-- Look-ups with other values of some slots are those of states with these values, where no name stands both as variable and as
-- constant.
use Rattle.std.proofs.Common.{◌≡◌, ℕ, Bool, true, false, ◌||◌, if◌then◌else◌, List, [], ◌∷◌, map, Option, Some, refl, sym, true≢false}
use Rattle.rw_terms.specs.State.{Value, given, State}
use Rattle.rw_terms.specs.Value.{value}
use Rattle.rw_subst.specs.declared.slot.Form.{Form}
use Rattle.rw_subst.specs.declared.slot.Form.TheVariants as form
use Rattle.rw_subst.specs.declared.slot.Slot.{Slot}
use Rattle.rw_subst.specs.declared.slot.Change.{Change}
use Rattle.rw_subst.specs.Slots.{is_slot}
use Rattle.rw_subst.specs.Stands.{has_slot, AreApart}
use Rattle.rw_subst.specs.Looks.{Looks, looks_with, changed_looks, in_states, state_with, initial_with, changed_state, changed_initial}

-- whether a slot has the name in the form that it must not have beside this one
abbrev pub clashes : Form → List ℕ → List Slot → Bool
clashes form.Variable x slots = has_slot form.Constant x slots
clashes form.Initial x slots = false
clashes form.Constant x slots = has_slot form.Variable x slots

none_left : (a b : Bool) → (a || b) ≡ false → a ≡ false
none_left true b e = absurd (true≢false e)
none_left false b e = refl

none_right : (a b : Bool) → (a || b) ≡ false → b ≡ false
none_right true b e = absurd (true≢false e)
none_right false b e = e

right_is_true : (a b : Bool) → b ≡ true → (a || b) ≡ true
right_is_true true b e = refl
right_is_true false b e = e

left_is_true : (a b : Bool) → a ≡ true → (a || b) ≡ true
left_is_true true b e = refl
left_is_true false b e = absurd (true≢false (sym e))

is_false : (b : Bool) → (b ≡ true → ⊥) → b ≡ false
is_false true n = absurd (n refl)
is_false false n = refl

pub no_clash : (test : Form → List ℕ → Bool) (slots : List Slot) → AreApart test slots → (g : Form) (x : List ℕ) → test g x ≡ true → clashes g x slots ≡ false
no_clash test slots apart form.Variable x h = is_false _ (λ e. apart x (left_is_true (test form.Variable x) _ h) (right_is_true (test form.Constant x) _ e))
no_clash test slots apart form.Initial x h = refl
no_clash test slots apart form.Constant x h = is_false _ (λ e. apart x (right_is_true (test form.Variable x) _ e) (left_is_true (test form.Constant x) _ h))

front_clash : (g : Form) (x : List ℕ) (s : Slot) (ss : List Slot) → clashes g x (s ∷ ss) ≡ false → clashes g x (s ∷ []) ≡ false
front_clash form.Variable x s ss e = none_front (is_slot form.Constant x s) (has_slot form.Constant x ss) e
  where
    none_front : (a b : Bool) → (a || b) ≡ false → (a || false) ≡ false
    none_front true b e = e
    none_front false b e = refl
front_clash form.Initial x s ss e = refl
front_clash form.Constant x s ss e = none_front (is_slot form.Variable x s) (has_slot form.Variable x ss) e
  where
    none_front : (a b : Bool) → (a || b) ≡ false → (a || false) ≡ false
    none_front true b e = e
    none_front false b e = refl

rest_clash : (g : Form) (x : List ℕ) (s : Slot) (ss : List Slot) → clashes g x (s ∷ ss) ≡ false → clashes g x ss ≡ false
rest_clash form.Variable x s ss e = none_right (is_slot form.Constant x s) _ e
rest_clash form.Initial x s ss e = refl
rest_clash form.Constant x s ss e = none_right (is_slot form.Variable x s) _ e

one : (b : Bool) (v w : Value) (o : Option Value) → w ≡ given o → (if b then v else w) ≡ given (if b then Some v else o)
one true v w o e = refl
one false v w o e = e

first : (b d : Bool) (v w : Value) (o : Option Value) → (d || false) ≡ false → w ≡ given o → (if b then v else w) ≡ given (if b || d then Some v else o)
first true d v w o n e = refl
first false true v w o n e = absurd (true≢false n)
first false false v w o n e = e

second : (d b : Bool) (v w : Value) (o : Option Value) → (d || false) ≡ false → w ≡ given o → (if b then v else w) ≡ given (if d || b then Some v else o)
second true b v w o n e = absurd (true≢false n)
second false true v w o n e = refl
second false false v w o n e = e

pub with_agrees : (slot : Slot) (v : Value) (looks : Looks) (s0 s : State) (g : Form) (x : List ℕ) → clashes g x (slot ∷ []) ≡ false → looks g x ≡ in_states s0 s g x →
    looks_with slot v looks g x ≡ in_states (initial_with slot v s0) (state_with slot v s) g x
with_agrees slot v looks s0 s form.Variable x n e = first (is_slot form.Variable x slot) (is_slot form.Constant x slot) v (looks form.Variable x) (s x) n e
with_agrees slot v looks s0 s form.Initial x n e = one (is_slot form.Initial x slot) v (looks form.Initial x) (s0 x) e
with_agrees slot v looks s0 s form.Constant x n e = second (is_slot form.Variable x slot) (is_slot form.Constant x slot) v (looks form.Constant x) (s x) n e

pub changes_agree : (cs : List Change) (s0 s : State) (g : Form) (x : List ℕ) → clashes g x (map (λ c. c.slot) cs) ≡ false →
    changed_looks cs (in_states s0 s) g x ≡ in_states (changed_initial cs s0 s) (changed_state cs s0 s) g x
changes_agree [] s0 s form.Variable x n = refl
changes_agree [] s0 s form.Initial x n = refl
changes_agree [] s0 s form.Constant x n = refl
changes_agree (c ∷ cs) s0 s g x n =
    with_agrees c.slot (value s0 s [] c.term) (changed_looks cs (in_states s0 s)) (changed_initial cs s0 s) (changed_state cs s0 s) g x
    (front_clash g x c.slot (map (λ c. c.slot) cs) n) (changes_agree cs s0 s g x (rest_clash g x c.slot (map (λ c. c.slot) cs) n))
