-- Values where each name has one in each of its forms, and what changes make of them.
use Rattle.std.specs.Prelude.{ℕ, ◌||◌, if◌then◌else◌, List, [], ◌∷◌, Some}
use Rattle.rw_terms.specs.declared.term.Term.{Term}
use Rattle.rw_terms.specs.declared.term.Formula.{Formula}
use Rattle.rw_terms.specs.State.{Value, State, value_in}
use Rattle.rw_terms.specs.Value.{value_by, value}
use Rattle.rw_terms.specs.Truth.{Definition, predicates_of, holds_by}
use Rattle.rw_subst.specs.declared.slot.Form.{Form}
use Rattle.rw_subst.specs.declared.slot.Form.TheVariants as form
use Rattle.rw_subst.specs.declared.slot.Slot.{Slot}
use Rattle.rw_subst.specs.declared.slot.Change.{Change}
use Rattle.rw_subst.specs.Slots.{is_slot}

-- the value of each name in each of its forms
abbrev pub Looks : Type 0
Looks = Form → List ℕ → Value

abbrev pub value_of : Looks → List Value → Term → Value
value_of looks = value_by (looks form.Variable) (looks form.Initial) (looks form.Constant)

-- where a formula holds by definitions of which the last stands first
abbrev pub holds_of : List Definition → Looks → Formula → List Value → Type 0
holds_of definitions looks = holds_by (predicates_of definitions) (looks form.Variable) (looks form.Initial) (looks form.Constant)

-- another value of one slot
abbrev pub looks_with : Slot → Value → Looks → Looks
looks_with slot v looks form x = if is_slot form x slot then v else looks form x

-- each slot's value is that of its term
abbrev pub changed_looks : List Change → Looks → Looks
changed_looks [] looks = looks
changed_looks (c ∷ cs) looks = looks_with c.slot (value_of looks [] c.term) (changed_looks cs looks)

-- an initial state and a state give values to initial variables, and to variables and constants
abbrev pub in_states : State → State → Looks
in_states s0 s form.Variable x = value_in s x
in_states s0 s form.Initial x = value_in s0 x
in_states s0 s form.Constant x = value_in s x

-- the state with another value of one slot, if that is of a variable or a constant
abbrev pub state_with : Slot → Value → State → State
state_with slot v s x = if is_slot form.Variable x slot || is_slot form.Constant x slot then Some v else s x

-- the initial state with another value of one slot, if that is of an initial variable
abbrev pub initial_with : Slot → Value → State → State
initial_with slot v s0 x = if is_slot form.Initial x slot then Some v else s0 x

-- the state where each slot of a variable or a constant has the value of its term
abbrev pub changed_state : List Change → State → State → State
changed_state [] s0 s = s
changed_state (c ∷ cs) s0 s = state_with c.slot (value s0 s [] c.term) (changed_state cs s0 s)

-- the initial state where each slot of an initial variable has the value of its term
abbrev pub changed_initial : List Change → State → State → State
changed_initial [] s0 s = s0
changed_initial (c ∷ cs) s0 s = initial_with c.slot (value s0 s [] c.term) (changed_initial cs s0 s)
