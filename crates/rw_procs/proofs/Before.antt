-- What saying a term of the state before makes of its names.
use Rattle.std.proofs.Common.{◌≡◌, ℕ, Bool, true, false, if◌then◌else◌, List, [], ◌∷◌, map, refl, sym, ap}
use Rattle.std.specs.Prelude.{bytes_eq, ◌||◌}
use Rattle.std.proofs.lemmas.Slice.Eq.{bytes_eq-Decides}
use Rattle.rw_terms.specs.declared.term.Term.{Term}
use Rattle.rw_terms.specs.declared.term.Term.TheVariants as term
use Rattle.rw_faults.specs.Initial.{is_listed}
use Rattle.rw_subst.specs.declared.slot.Form.TheVariants as form
use Rattle.rw_subst.specs.Replaced.{to_initial}
use Rattle.rw_subst.specs.Slots.{changed}

pub initial_stays : (frame : List (List ℕ)) (x : List ℕ) → changed (map to_initial frame) form.Initial x ≡ term.Init x
initial_stays [] x = refl
initial_stays (y ∷ frame) x = initial_stays frame x

pub constant_stays : (frame : List (List ℕ)) (x : List ℕ) → changed (map to_initial frame) form.Constant x ≡ term.Const x
constant_stays [] x = refl
constant_stays (y ∷ frame) x = constant_stays frame x

-- a variable of the frame becomes its initial variable, and another one stays
pub variable_of_frame : (frame : List (List ℕ)) (x : List ℕ) → changed (map to_initial frame) form.Variable x ≡ (if is_listed frame x then term.Init x else term.Var x)
variable_of_frame [] x = refl
variable_of_frame (y ∷ frame) x = go (bytes_eq x y) refl (variable_of_frame frame x)
  where
    go : (b : Bool) → bytes_eq x y ≡ b → changed (map to_initial frame) form.Variable x ≡ (if is_listed frame x then term.Init x else term.Var x) →
        (if b then term.Init y else changed (map to_initial frame) form.Variable x) ≡ (if b || is_listed frame x then term.Init x else term.Var x)
    go true e h = ap term.Init (sym ((bytes_eq-Decides x y).0 e))
    go false e h = h
