-- What replacement, opening and closing do to values and truth.
use Rattle.std.specs.Prelude.{◌≡◌, ◌↔◌, ℕ, List, [], ◌∷◌, map, drop, slice_get, IsTrue}
use Rattle.rw_terms.specs.declared.term.Term.{Term}
use Rattle.rw_terms.specs.declared.term.Formula.{Formula}
use Rattle.rw_terms.specs.State.{Value, given, State}
use Rattle.rw_terms.specs.Value.{value}
use Rattle.rw_terms.specs.Truth.{Definition, holds}
use Rattle.rw_subst.specs.declared.slot.Slot.{Slot}
use Rattle.rw_subst.specs.declared.slot.Change.{Change}
use Rattle.rw_subst.specs.Closed.{is_closed, are_closed}
use Rattle.rw_subst.specs.Looks.{Looks, value_of, holds_of, looks_with, changed_looks, state_with, initial_with, changed_state, changed_initial}
use Rattle.rw_subst.specs.Replaced.{replaced_term, replaced_formula, to_initial, from_initial, opened, closed}
use Rattle.rw_subst.specs.Stands.{stands_in_term, stands_in, AreApart}

-- The value of the result is that of the old term where each slot has the value of its new term, whatever the binders are.
abbrev pub ReplacementKeepsValues : Type 0
ReplacementKeepsValues =
    (changes : List Change) (t : Term) → IsTrue (are_closed changes) → (looks : Looks) (b : List Value) →
    value_of looks b (replaced_term changes t) ≡ value_of (changed_looks changes looks) b t

abbrev pub ReplacementKeepsTruth : Type 0
ReplacementKeepsTruth =
    (changes : List Change) (f : Formula) → IsTrue (are_closed changes) → (definitions : List Definition) (looks : Looks) (b : List Value) →
    holds_of definitions looks (replaced_formula changes f) b ↔ holds_of definitions (changed_looks changes looks) f b

-- The same in an initial state and a state, where no name stands both as variable and as constant.
abbrev pub ReplacementInStates : Type 0
ReplacementInStates =
    (changes : List Change) (t : Term) → IsTrue (are_closed changes) → AreApart (λ form x. stands_in_term form x t) (map (λ c. c.slot) changes) →
    (s0 s : State) (b : List Value) → value s0 s b (replaced_term changes t) ≡ value (changed_initial changes s0 s) (changed_state changes s0 s) b t

abbrev pub ReplacementHoldsInStates : Type 0
ReplacementHoldsInStates =
    (changes : List Change) (f : Formula) → IsTrue (are_closed changes) → AreApart (λ form x. stands_in form x f) (map (λ c. c.slot) changes) →
    (library : List Definition) (s0 s : State) (b : List Value) →
    holds library (replaced_formula changes f) s0 s b ↔ holds library f (changed_initial changes s0 s) (changed_state changes s0 s) b

-- The changes between variables and initial variables put no loose binder.
abbrev pub InitialChangesAreClosed : Type 0
InitialChangesAreClosed = (frame : List (List ℕ)) → IsTrue (are_closed (map to_initial frame)) × IsTrue (are_closed (map from_initial frame))

-- Where the state is the initial one, a frame's initial variables may be read as its variables.
abbrev pub CurrentForInitial : Type 0
CurrentForInitial =
    (frame : List (List ℕ)) (f : Formula) (library : List Definition) (s : State) (b : List Value) →
    holds library (replaced_formula (map from_initial frame) f) s s b ↔ holds library f s s b

-- The opened body holds where the body does with the term's value for its first loose binder.
abbrev pub OpeningKeepsTruth : Type 0
OpeningKeepsTruth =
    (term : Term) (f : Formula) → IsTrue (is_closed term) → (definitions : List Definition) (looks : Looks) (b : List Value) →
    holds_of definitions looks (opened term f) b ↔ holds_of definitions looks f (value_of looks [] term ∷ drop 1 b)

abbrev pub OpeningHoldsInStates : Type 0
OpeningHoldsInStates =
    (term : Term) (f : Formula) → IsTrue (is_closed term) → (library : List Definition) (s0 s : State) (b : List Value) →
    holds library (opened term f) s0 s b ↔ holds library f s0 s (value s0 s [] term ∷ drop 1 b)

-- The closed formula holds where the formula does with the first loose binder's value for the slot.
abbrev pub ClosingKeepsTruth : Type 0
ClosingKeepsTruth =
    (slot : Slot) (f : Formula) (definitions : List Definition) (looks : Looks) (b : List Value) →
    holds_of definitions looks (closed slot f) b ↔ holds_of definitions (looks_with slot (given (slice_get b 0)) looks) f b

abbrev pub ClosingHoldsInStates : Type 0
ClosingHoldsInStates =
    (slot : Slot) (f : Formula) → AreApart (λ form x. stands_in form x f) (slot ∷ []) → (library : List Definition) (s0 s : State) (b : List Value) →
    holds library (closed slot f) s0 s b ↔ holds library f (initial_with slot (given (slice_get b 0)) s0) (state_with slot (given (slice_get b 0)) s) b
