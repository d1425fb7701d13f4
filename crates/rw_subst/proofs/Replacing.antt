-- The laws of replacement, opening and closing.
use Rattle.std.proofs.Common.{◌≡◌, ℕ, zero, suc, Bool, true, false, if◌then◌else◌, List, [], ◌∷◌, map, drop, nat_eq, slice_get, refl, sym, ap, ◌∙◌, true≢false, reverse}
use Rattle.std.proofs.lemmas.Bool.{and_from, and_parts}
use Rattle.std.proofs.lemmas.Bool.Decides.{Decides-eqb}
use Rattle.rw_terms.specs.declared.term.Term.{Term}
use Rattle.rw_terms.specs.declared.term.Term.TheVariants as v
use Rattle.rw_terms.specs.declared.term.Term.TheOpen.{Term-F}
use Rattle.rw_terms.specs.declared.term.Term.TheFolds.{fold-roll-Term}
use Rattle.rw_terms.specs.State.{Value, given, State}
use Rattle.rw_subst.specs.declared.slot.Form.{Form}
use Rattle.rw_subst.specs.declared.slot.Slot.{Slot}
use Rattle.rw_subst.specs.declared.slot.Change.{Change}
use Rattle.rw_subst.specs.Slots.{is_slot, plain, changed}
use Rattle.rw_subst.specs.Closed.{closed_step, is_closed, are_closed}
use Rattle.rw_subst.specs.Replaced.{changed_leaves, opened_leaves, closed_leaves, to_initial, from_initial}
use Rattle.rw_subst.specs.Looks.{Looks, value_of, looks_with, changed_looks, in_states, state_with, initial_with, changed_state, changed_initial}
use Rattle.rw_subst.specs.Stands.{stands_in_term, stands_in, AreApart}
use Rattle.rw_subst.specs.Laws.{ReplacementKeepsValues, ReplacementKeepsTruth, ReplacementInStates, ReplacementHoldsInStates, InitialChangesAreClosed, OpeningKeepsTruth, OpeningHoldsInStates, ClosingKeepsTruth, ClosingHoldsInStates}
use Rattle.rw_subst.proofs.ClosedTerms.{closed_value, plain_value, binder_value}
use Rattle.rw_subst.proofs.Rebuilding.{Test, kept_term, kept_formula}
use Rattle.rw_subst.proofs.States.{no_clash, with_agrees, changes_agree}

-- every name
abbrev any : Test
any g x = true

if_value : (value : Term → Value) (b : Bool) (t u : Term) (w w' : Value) → value t ≡ w → value u ≡ w' → value (if b then t else u) ≡ (if b then w else w')
if_value value true t u w w' e e' = e
if_value value false t u w w' e e' = e'

-- what a name is changed to has the name's changed value
changed_value : (looks : Looks) (b : List Value) (cs : List Change) (g : Form) (x : List ℕ) → are_closed cs ≡ true → value_of looks b (changed cs g x) ≡ changed_looks cs looks g x
changed_value looks b [] g x e = plain_value looks b g x
changed_value looks b (c ∷ cs) g x e =
    if_value (value_of looks b) (is_slot g x c.slot) c.term (changed cs g x) (value_of looks [] c.term) (changed_looks cs looks g x)
    (closed_value looks b c.term (and_parts _ _ e).0) (changed_value looks b cs g x (and_parts (is_closed c.term) _ e).1)

-- the binders are the same ones
abbrev SameBinders : ℕ → List Value → List Value → Type 0
SameBinders k b b' = b ≡ b'

goes_inside : (k : ℕ) (b b' : List Value) (w : Value) → SameBinders k b b' → SameBinders (suc k) (w ∷ b) (w ∷ b')
goes_inside k b b' w r = ap (λ l. w ∷ l) r

pub replacement_keeps_values : ReplacementKeepsValues
replacement_keeps_values changes t closed looks b =
    kept_term (changed_leaves changes) looks (changed_looks changes looks) any SameBinders (λ k b b' r g x h. changed_value looks b changes g x closed)
    (λ k b b' r j. binder_value looks b j ∙ ap (λ l. given (slice_get l j)) r) 0 b b refl t (λ g x h. refl)

pub replacement_keeps_truth : ReplacementKeepsTruth
replacement_keeps_truth changes f closed definitions looks b =
    kept_formula (changed_leaves changes) looks (changed_looks changes looks) any SameBinders (λ k b b' r g x h. changed_value looks b changes g x closed)
    (λ k b b' r j. binder_value looks b j ∙ ap (λ l. given (slice_get l j)) r) goes_inside definitions f (λ g x h. refl) 0 b b refl

-- the same in states
changed_in_states : (test : Test) (changes : List Change) → are_closed changes ≡ true → AreApart test (map (λ c. c.slot) changes) → (s0 s : State) (b : List Value) (g : Form) (x : List ℕ) → test g x ≡ true →
    value_of (in_states s0 s) b (changed changes g x) ≡ in_states (changed_initial changes s0 s) (changed_state changes s0 s) g x
changed_in_states test changes closed apart s0 s b g x h =
    changed_value (in_states s0 s) b changes g x closed ∙ changes_agree changes s0 s g x (no_clash test (map (λ c. c.slot) changes) apart g x h)

pub replacement_in_states : ReplacementInStates
replacement_in_states changes t closed apart s0 s b =
    kept_term (changed_leaves changes) (in_states s0 s) (in_states (changed_initial changes s0 s) (changed_state changes s0 s)) (λ g x. stands_in_term g x t) SameBinders
    (λ k b b' r g x h. changed_in_states (λ g x. stands_in_term g x t) changes closed apart s0 s b g x h)
    (λ k b b' r j. binder_value (in_states s0 s) b j ∙ ap (λ l. given (slice_get l j)) r) 0 b b refl t (λ g x h. h)

pub replacement_holds_in_states : ReplacementHoldsInStates
replacement_holds_in_states changes f closed apart library s0 s b =
    kept_formula (changed_leaves changes) (in_states s0 s) (in_states (changed_initial changes s0 s) (changed_state changes s0 s)) (λ g x. stands_in g x f) SameBinders
    (λ k b b' r g x h. changed_in_states (λ g x. stands_in g x f) changes closed apart s0 s b g x h)
    (λ k b b' r j. binder_value (in_states s0 s) b j ∙ ap (λ l. given (slice_get l j)) r) goes_inside (reverse library) f (λ g x h. h) 0 b b refl

init_is_closed : (x : List ℕ) → is_closed (v.Init x) ≡ true
init_is_closed x = ap is_closed (sym (v.rolls-Init x)) ∙ fold-roll-Term Bool closed_step (Term-F.Init x)

var_is_closed : (x : List ℕ) → is_closed (v.Var x) ≡ true
var_is_closed x = ap is_closed (sym (v.rolls-Var x)) ∙ fold-roll-Term Bool closed_step (Term-F.Var x)

to_are_closed : (frame : List (List ℕ)) → are_closed (map to_initial frame) ≡ true
to_are_closed [] = refl
to_are_closed (x ∷ xs) = and_from (is_closed (v.Init x)) (are_closed (map to_initial xs)) (init_is_closed x) (to_are_closed xs)

from_are_closed : (frame : List (List ℕ)) → are_closed (map from_initial frame) ≡ true
from_are_closed [] = refl
from_are_closed (x ∷ xs) = and_from (is_closed (v.Var x)) (are_closed (map from_initial xs)) (var_is_closed x) (from_are_closed xs)

pub initial_changes_are_closed : InitialChangesAreClosed
initial_changes_are_closed frame = (to_are_closed frame, from_are_closed frame)

-- the value stands for the binder under k others, and the rest of the binders are the same ones
abbrev Opens : Value → ℕ → List Value → List Value → Type 0
Opens x k b b' = (given (slice_get b' k) ≡ x) × ((j : ℕ) → (j ≡ k → ⊥) → slice_get b j ≡ slice_get b' j)

opens_inside : (x : Value) (k : ℕ) (b b' : List Value) (w : Value) → Opens x k b b' → Opens x (suc k) (w ∷ b) (w ∷ b')
opens_inside x k b b' w r = (r.0, other)
  where
    other : (j : ℕ) → (j ≡ suc k → ⊥) → slice_get (w ∷ b) j ≡ slice_get (w ∷ b') j
    other zero n = refl
    other (suc j) n = r.1 j (λ e. n (ap suc e))

opens_first : (x : Value) (b : List Value) → Opens x 0 b (x ∷ drop 1 b)
opens_first x b = (refl, other b)
  where
    other : (b : List Value) (j : ℕ) → (j ≡ 0 → ⊥) → slice_get b j ≡ slice_get (x ∷ drop 1 b) j
    other b zero n = absurd (n refl)
    other [] (suc j) n = refl
    other (y ∷ ys) (suc j) n = refl

opened_binder : (looks : Looks) (term : Term) → is_closed term ≡ true → (k : ℕ) (b b' : List Value) → Opens (value_of looks [] term) k b b' → (j : ℕ) (c : Bool) → nat_eq j k ≡ c →
    value_of looks b (if c then term else v.Bound j) ≡ given (slice_get b' j)
opened_binder looks term closed k b b' r j true e = closed_value looks b term closed ∙ sym (ap (λ i. given (slice_get b' i)) ((Decides-eqb j k).0 e) ∙ r.0)
opened_binder looks term closed k b b' r j false e = binder_value looks b j ∙ ap given (r.1 j (λ h. true≢false (sym ((Decides-eqb j k).1 h) ∙ e)))

pub opening_keeps_truth : OpeningKeepsTruth
opening_keeps_truth term f closed definitions looks b =
    kept_formula (opened_leaves term) looks looks any (Opens (value_of looks [] term)) (λ k b b' r g x h. plain_value looks b g x)
    (λ k b b' r j. opened_binder looks term closed k b b' r j (nat_eq j k) refl) (opens_inside (value_of looks [] term)) definitions f (λ g x h. refl) 0 b
    (value_of looks [] term ∷ drop 1 b) (opens_first (value_of looks [] term) b)

pub opening_holds_in_states : OpeningHoldsInStates
opening_holds_in_states term f closed library s0 s b = opening_keeps_truth term f closed (reverse library) (in_states s0 s) b

-- the binders are the same ones, and the one under k others has the value
abbrev Closes : Value → ℕ → List Value → List Value → Type 0
Closes x k b b' = (b ≡ b') × (given (slice_get b k) ≡ x)

closes_inside : (x : Value) (k : ℕ) (b b' : List Value) (w : Value) → Closes x k b b' → Closes x (suc k) (w ∷ b) (w ∷ b')
closes_inside x k b b' w r = (ap (λ l. w ∷ l) r.0, r.1)

closed_name : (slot : Slot) (looks : Looks) (x : Value) (k : ℕ) (b b' : List Value) → Closes x k b b' → (g : Form) (n : List ℕ) →
    value_of looks b (if is_slot g n slot then v.Bound k else plain g n) ≡ looks_with slot x looks g n
closed_name slot looks x k b b' r g n =
    if_value (value_of looks b) (is_slot g n slot) (v.Bound k) (plain g n) x (looks g n) (binder_value looks b k ∙ r.1) (plain_value looks b g n)

pub closing_keeps_truth : ClosingKeepsTruth
closing_keeps_truth slot f definitions looks b =
    let x = given (slice_get b 0) in
    kept_formula (closed_leaves slot) looks (looks_with slot x looks) any (Closes x) (λ k b b' r g n h. closed_name slot looks x k b b' r g n)
    (λ k b b' r j. binder_value looks b j ∙ ap (λ l. given (slice_get l j)) r.0) (closes_inside x) definitions f (λ g n h. refl) 0 b b (refl, refl)

pub closing_holds_in_states : ClosingHoldsInStates
closing_holds_in_states slot f apart library s0 s b =
    let x = given (slice_get b 0) in
    kept_formula (closed_leaves slot) (in_states s0 s) (in_states (initial_with slot x s0) (state_with slot x s)) (λ g n. stands_in g n f) (Closes x)
    (λ k b b' r g n h. closed_name slot (in_states s0 s) x k b b' r g n
    ∙ with_agrees slot x (in_states s0 s) s0 s g n (no_clash (λ g n. stands_in g n f) (slot ∷ []) apart g n h) refl)
    (λ k b b' r j. binder_value (in_states s0 s) b j ∙ ap (λ l. given (slice_get l j)) r.0) (closes_inside x) (reverse library) f (λ g n h. h) 0 b b (refl, refl)
