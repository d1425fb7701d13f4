-- What a well-formed specification gives: where its names stand, and states that agree on them.
use Rattle.std.proofs.Common.{◌≡◌, ◌↔◌, true, false, is_some, List, [], ◌∷◌, find, reverse, Option, Some, None, refl, sym, ap, ◌∙◌, true≢false}
use Rattle.std.proofs.lemmas.Bool.{and_from, false_from_ne_true, or_left, or_right}
use Rattle.std.specs.Prelude.{option_and_then}
use Rattle.rw_terms.specs.declared.scope.Entry.{Entry}
use Rattle.rw_terms.specs.declared.scope.Head.{Head}
use Rattle.rw_terms.specs.declared.term.Formula.{Formula}
use Rattle.rw_terms.specs.Scopes.{has_name}
use Rattle.rw_terms.specs.Sorts.{as_variable, as_constant, variable_sort}
use Rattle.rw_terms.specs.Rules.{keeps_rules}
use Rattle.rw_terms.specs.State.{Value, given, FitsEntry, State as Map}
use Rattle.rw_terms.specs.Truth.{Definition, holds}
use Rattle.rw_faults.specs.Initial.{initial_outside}
use Rattle.rw_subst.specs.declared.slot.Form.{Form}
use Rattle.rw_subst.specs.declared.slot.Form.TheVariants as form
use Rattle.rw_subst.specs.declared.slot.Slot.TheVariants as slot
use Rattle.rw_subst.specs.Looks.{in_states}
use Rattle.rw_subst.specs.Stands.{stands_in}
use Rattle.rw_subst.specs.Kinds.{is_allowed_as}
use Rattle.rw_subst.proofs.KindLemmas.{formula_allowed, names_have_one_kind}
use Rattle.rw_programs.specs.State.{Name, State, SameSort, Within, is_in}
use Rattle.rw_programs.specs.Laws.{IsInitialFree}
use Rattle.rw_programs.proofs.Beside.{FitsBeside}
use Rattle.std.specs.Prelude.{bytes_eq}
use Rattle.rw_meaning.proofs.Tests.{bytes_same}
use Rattle.rw_soundness.proofs.Bits.{listed_in}
use Rattle.rw_soundness.proofs.Bridges.{agrees}
use Rattle.rw_soundness.proofs.Initials.{initial_in, none_in}

itself : (x : Name) → bytes_eq x x ≡ true
itself x = bytes_same x x refl

module _ (scope : List Entry) (heads : List Head) (f : Formula) (kept : keeps_rules scope heads f [] ≡ true) where
  -- a variable of the scope does not stand as constant
  pub no_constant : (x : Name) → is_some (variable_sort scope x) ≡ true → stands_in form.Constant x f ≡ true → ⊥
  no_constant x variable h =
      names_have_one_kind scope heads f [] (slot.Var x ∷ []) kept (and_from _ _ variable refl) x (or_right (stands_in form.Variable x f) _ (or_left (bytes_eq x x) false (itself x)))
      (or_left (stands_in form.Constant x f) _ h)

  -- so no name of a frame of variables does
  pub constants_off : (frame : List Name) → ((x : Name) → is_in x frame ≡ true → is_some (variable_sort scope x) ≡ true) → (x : Name) → stands_in form.Constant x f ≡ true → is_in x frame ≡ false
  constants_off frame variables x h = false_from_ne_true (is_in x frame) (λ i. no_constant x (variables x i) h)

  allowed_found : (g : Form) (x : Name) → is_allowed_as scope g x ≡ true → find (has_name x) scope ≡ None → ⊥
  allowed_found form.Variable x e n = true≢false (sym e ∙ ap (λ o. is_some (option_and_then (λ e. as_variable e.kind e.sort) o)) n)
  allowed_found form.Initial x e n = true≢false (sym e ∙ ap (λ o. is_some (option_and_then (λ e. as_variable e.kind e.sort) o)) n)
  allowed_found form.Constant x e n = true≢false (sym e ∙ ap (λ o. is_some (option_and_then (λ e. as_constant e.kind e.sort) o)) n)

  -- what stands in the formula is in scope
  pub stands_found : (g : Form) (x : Name) → stands_in g x f ≡ true → find (has_name x) scope ≡ None → ⊥
  stands_found g x h = allowed_found g x (formula_allowed scope g x heads f [] kept h)

  -- states that agree on the names of the scope
  pub scope_agrees : (library : List Definition) (s0 s t0 t : Map) → ((x : Name) → (find (has_name x) scope ≡ None → ⊥) → (s0 x ≡ t0 x) × (s x ≡ t x)) → holds library f s0 s [] ↔ holds library f t0 t []
  scope_agrees library s0 s t0 t agree = agrees f (reverse library) (in_states s0 s) (in_states t0 t) same
    where
      same : (g : Form) (x : Name) → stands_in g x f ≡ true → in_states s0 s g x ≡ in_states t0 t g x
      same form.Variable x h = ap given (agree x (stands_found form.Variable x h)).1
      same form.Initial x h = ap given (agree x (stands_found form.Initial x h)).0
      same form.Constant x h = ap given (agree x (stands_found form.Constant x h)).1

-- a formula without initial variables does not look at the initial state
pub initial_free : (library : List Definition) (f : Formula) → initial_outside [] f ≡ false → IsInitialFree library f
initial_free library f e s0 s1 s h = (agrees f (reverse library) (in_states s0.own s.own) (in_states s1.own s.own) same).0 h
  where
    same : (g : Form) (x : Name) → stands_in g x f ≡ true → in_states s0.own s.own g x ≡ in_states s1.own s.own g x
    same form.Variable x h = refl
    same form.Initial x h = absurd (none_in x f e h)
    same form.Constant x h = refl

-- an initial variable that stands in a formula is one of the frame, where none but theirs does
pub initial_of_frame : (frame : List Name) (f : Formula) → initial_outside frame f ≡ false → (x : Name) → stands_in form.Initial x f ≡ true → is_in x frame ≡ true
initial_of_frame frame f e x h = sym (listed_in frame x) ∙ initial_in frame x f e h

pub fits_both : (o : Option Entry) (u v : Option Value) → FitsEntry o u → FitsEntry o v → SameSort u v
fits_both None None None a b = tt
fits_both None None (Some v) a b = absurd b
fits_both None (Some u) v a b = absurd a
fits_both (Some e) None v a b = absurd a
fits_both (Some e) (Some u) None a b = absurd b
fits_both (Some e) (Some u) (Some v) a b = (e.sort, a, b)

-- states that fit one scope and agree off the frame are within it
pub within_by_fits : {others : Name → Map} (scope : List Entry) (frame : List Name) (s t : State) → FitsBeside others scope s → FitsBeside others scope t → ((x : Name) → is_in x frame ≡ false → t.own x ≡ s.own x) → Within frame s t
within_by_fits scope frame s t fits fits' off = record {
  off = off;
  sorts = λ x i. fits_both (find (has_name x) scope) (s.own x) (t.own x) (fits.names x) (fits'.names x);
  parts = fits'.parts ∙ sym fits.parts;
}
