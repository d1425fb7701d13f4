-- What replacement, opening and closing give.
use Rattle.std.specs.Prelude.{ℕ, if◌then◌else◌, nat_eq, List}
use Rattle.rw_terms.specs.declared.term.Term.{Term}
use Rattle.rw_terms.specs.declared.term.Term.TheVariants.{Var, Init, Bound}
use Rattle.rw_terms.specs.declared.term.Formula.{Formula}
use Rattle.rw_subst.specs.declared.slot.Slot.{Slot}
use Rattle.rw_subst.specs.declared.slot.Slot.TheVariants as slot
use Rattle.rw_subst.specs.declared.slot.Change.{Change}
use Rattle.rw_subst.specs.Slots.{is_slot, plain, changed}
use Rattle.rw_subst.specs.Leaves.{Leaves, rebuilt_term, rebuilt_formula}

-- each slot is changed to the term of its change, all at once
abbrev pub changed_leaves : List Change → Leaves
changed_leaves changes = record { name = λ k form x. changed changes form x; binder = λ k j. Bound j }

abbrev pub replaced_term : List Change → Term → Term
replaced_term changes = rebuilt_term (changed_leaves changes) 0

abbrev pub replaced_formula : List Change → Formula → Formula
replaced_formula changes f = rebuilt_formula (changed_leaves changes) f 0

-- the loose binder, which has the number of the binders around it, is changed to the term
abbrev pub opened_leaves : Term → Leaves
opened_leaves term = record { name = λ k form x. plain form x; binder = λ k j. if nat_eq j k then term else Bound j }

abbrev pub opened : Term → Formula → Formula
opened term f = rebuilt_formula (opened_leaves term) f 0

-- the slot is changed to a loose binder, which has the number of the binders around it
abbrev pub closed_leaves : Slot → Leaves
closed_leaves s = record { name = λ k form x. if is_slot form x s then Bound k else plain form x; binder = λ k j. Bound j }

abbrev pub closed : Slot → Formula → Formula
closed s f = rebuilt_formula (closed_leaves s) f 0

-- the change of a variable to its initial variable, and back
abbrev pub to_initial : List ℕ → Change
to_initial x = record { slot = slot.Var x; term = Init x }

abbrev pub from_initial : List ℕ → Change
from_initial x = record { slot = slot.Init x; term = Var x }
