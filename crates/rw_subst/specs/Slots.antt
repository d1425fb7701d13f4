-- Names in their forms, and what changes make of them.
use Rattle.std.specs.Prelude.{ℕ, Bool, false, if◌then◌else◌, List, [], ◌∷◌, bytes_eq}
use Rattle.rw_terms.specs.declared.term.Term.{Term}
use Rattle.rw_terms.specs.declared.term.Term.TheVariants.{Var, Init, Const}
use Rattle.rw_subst.specs.declared.slot.Form.{Form}
use Rattle.rw_subst.specs.declared.slot.Form.TheVariants as form
use Rattle.rw_subst.specs.declared.slot.Slot.{Slot}
use Rattle.rw_subst.specs.declared.slot.Slot.TheVariants as slot
use Rattle.rw_subst.specs.declared.slot.Change.{Change}

-- the slot of a name in one of its forms
abbrev pub is_slot : Form → List ℕ → Slot → Bool
is_slot form.Variable x (slot.Var y) = bytes_eq x y
is_slot form.Initial x (slot.Init y) = bytes_eq x y
is_slot form.Constant x (slot.Const y) = bytes_eq x y
is_slot _ x _ = false

-- the term that a name is in a form
abbrev pub plain : Form → List ℕ → Term
plain form.Variable x = Var x
plain form.Initial x = Init x
plain form.Constant x = Const x

-- the term that a name is changed to, which is the name itself where no change has its slot
abbrev pub changed : List Change → Form → List ℕ → Term
changed [] form x = plain form x
changed (c ∷ cs) form x = if is_slot form x c.slot then c.term else changed cs form x
