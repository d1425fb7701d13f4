-- What the laws of refinement ask for.
use Rattle.std.specs.Prelude.{◌≡◌, true, false, List}
use Rattle.rw_terms.specs.declared.scope.Entry.{Entry}
use Rattle.rw_terms.specs.declared.term.Term.{Term}
use Rattle.rw_terms.specs.declared.term.Formula.{Formula}
use Rattle.rw_terms.specs.Truth.{Definition}
use Rattle.rw_programs.specs.State.{Name, State, Fits, Holds, SameSort, Within, is_in, put_all, with_own}
use Rattle.rw_programs.specs.Meaning.{AllDefined, values}
use Rattle.rw_programs.specs.Refine.{is_value}

-- P wherever the formula holds, in states that fit the scope
abbrev pub Follows : List Entry → List Definition → Formula → (State → Type 0) → Type 0
Follows scope library f P = (s : State) → Fits scope s → Holds library f s s → P s

-- where pre holds before and f after, g does not fail after
abbrev pub FollowsAfter : List Entry → List Definition → List Name → (pre f g : Formula) → Type 0
FollowsAfter scope library w pre f g =
    (s t : State) → Fits scope s → Within w s t → Holds library pre s s → Holds library f s t → ¬ (¬ (Holds library g s t))

-- the formula does not look at the initial state
abbrev pub IsInitialFree : List Definition → Formula → Type 0
IsInitialFree library f = (s0 s1 s : State) → Holds library f s0 s → Holds library f s1 s

-- no name of the frame is of kind value
abbrev pub KeepsValues : List Entry → List Name → Type 0
KeepsValues scope w = (x : Name) → is_in x w ≡ true → is_value scope x ≡ false

-- s after the assignment
abbrev pub assigned : List Name → List Term → State → State
assigned names terms s = with_own s (put_all names (values terms s) s.own)

-- For `x := E` under `w : [pre, post]`: the names are of the frame, and get values of their sorts; where pre holds, the terms are
-- defined, and the postcondition does not fail after.
pub record AssignFits (scope : List Entry) (library : List Definition) (w : List Name) (pre post : Formula) (names : List Name) (terms : List Term) : Type 0 where
  pub in_frame : (x : Name) → is_in x w ≡ false → is_in x names ≡ false
  pub sorts : (s : State) → Fits scope s → (x : Name) → is_in x w ≡ true → SameSort (s.own x) ((assigned names terms s).own x)
  pub defined : Follows scope library pre (λ s. AllDefined terms s)
  pub after : Follows scope library pre (λ s. ¬ (¬ (Holds library post s (assigned names terms s))))
