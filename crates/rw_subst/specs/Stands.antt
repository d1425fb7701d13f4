-- Whether a name stands in a term or a formula in a form.
use Rattle.std.specs.Prelude.{ℕ, Bool, false, ◌||◌, List, [], ◌∷◌, map, IsTrue}
use Rattle.rw_terms.specs.declared.term.Term.{Term}
use Rattle.rw_terms.specs.declared.term.Term.TheOpen.{Term-F}
use Rattle.rw_terms.specs.declared.term.Term.TheFolds.{fold-Term}
use Rattle.rw_terms.specs.declared.term.Formula.{Formula}
use Rattle.rw_terms.specs.declared.term.Formula.TheOpen.{Formula-F}
use Rattle.rw_terms.specs.declared.term.Formula.TheFolds.{fold-Formula}
use Rattle.rw_terms.specs.Mentions.{any_of}
use Rattle.rw_subst.specs.declared.slot.Form.{Form}
use Rattle.rw_subst.specs.declared.slot.Form.TheVariants as form
use Rattle.rw_subst.specs.declared.slot.Slot.{Slot}
use Rattle.rw_subst.specs.declared.slot.Slot.TheVariants as slot
use Rattle.rw_subst.specs.Slots.{is_slot}

module _ (form : Form) (name : List ℕ) where
  abbrev pub stands_step : Term-F Bool → Bool
  stands_step (Term-F.Lit _) = false
  stands_step (Term-F.Var x) = is_slot form name (slot.Var x)
  stands_step (Term-F.Init x) = is_slot form name (slot.Init x)
  stands_step (Term-F.Const x) = is_slot form name (slot.Const x)
  stands_step (Term-F.Bound _) = false
  stands_step (Term-F.Neg a) = a
  stands_step (Term-F.Add a b) = a || b
  stands_step (Term-F.Sub a b) = a || b
  stands_step (Term-F.Mul a b) = a || b
  stands_step (Term-F.Div a b) = a || b
  stands_step (Term-F.Mod a b) = a || b
  stands_step (Term-F.Read a i) = a || i
  stands_step (Term-F.Put a i e) = a || (i || e)
  stands_step (Term-F.Fun _ args) = any_of args

  abbrev pub stands_in_term : Term → Bool
  stands_in_term = fold-Term Bool stands_step

  abbrev pub stands_in_terms : List Term → Bool
  stands_in_terms ts = any_of (map stands_in_term ts)

  abbrev pub formula_stands_step : Formula-F Bool → Bool
  formula_stands_step Formula-F.True = false
  formula_stands_step Formula-F.False = false
  formula_stands_step (Formula-F.Eq s t) = stands_in_term s || stands_in_term t
  formula_stands_step (Formula-F.Less s t) = stands_in_term s || stands_in_term t
  formula_stands_step (Formula-F.AtMost s t) = stands_in_term s || stands_in_term t
  formula_stands_step (Formula-F.Not f) = f
  formula_stands_step (Formula-F.And f g) = f || g
  formula_stands_step (Formula-F.Or f g) = f || g
  formula_stands_step (Formula-F.Imp f g) = f || g
  formula_stands_step (Formula-F.All _ f) = f
  formula_stands_step (Formula-F.Any _ f) = f
  formula_stands_step (Formula-F.App _ args) = stands_in_terms args

  abbrev pub stands_in : Formula → Bool
  stands_in = fold-Formula Bool formula_stands_step

  -- whether it is one of the slots
  abbrev pub has_slot : List Slot → Bool
  has_slot [] = false
  has_slot (s ∷ ss) = is_slot form name s || has_slot ss

-- no name stands both as variable and as constant, in what the test speaks of and the slots taken together
abbrev pub AreApart : (Form → List ℕ → Bool) → List Slot → Type 0
AreApart test slots =
    (x : List ℕ) → IsTrue (test form.Variable x || has_slot form.Variable x slots) → ¬ (IsTrue (test form.Constant x || has_slot form.Constant x slots))
