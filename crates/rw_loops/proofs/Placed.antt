-- What the laws use of a specification that stands in its place, and of what is valid over the names of a scope.
use Rattle.std.proofs.Common.{◌≡◌, ◌≤◌, ◌<◌, ◌⊎◌, inl, inr, Bool, true, false, ◌||◌, not, is_some, if◌then◌else◌, List, [], ◌∷◌, find, Option, Some, None, refl, sym, ap, ◌∙◌, subst, true≢false, bytes_eq}
use Rattle.std.proofs.lemmas.Bool.{and_from, and_parts, or_right}
use Rattle.std.specs.Prelude.{option_and_then, leb}
use Rattle.std.proofs.lemmas.Bool.Decides.{leb_tells}
use Rattle.std.proofs.lemmas.Slice.Eq.{bytes_eq-Decides}
use Rattle.rw_terms.specs.declared.term.Formula.{Formula}
use Rattle.rw_terms.specs.declared.scope.Entry.{Entry}
use Rattle.rw_terms.specs.declared.scope.Head.{Head}
use Rattle.rw_terms.specs.Scopes.{has_name}
use Rattle.rw_terms.specs.Size.{formula_weight, formula_depth}
use Rattle.rw_terms.specs.Sorts.{as_variable, as_constant, variable_sort, constant_sort}
use Rattle.rw_terms.specs.State.{Fits as FitsMap}
use Rattle.rw_terms.specs.WellFormed.{IsSmallFormula, IsFormed}
use Rattle.rw_terms.specs.Truth.{Definition}
use Rattle.rw_terms.specs.Validity.{Valid}
use Rattle.rw_terms.specs.Rules.{keeps_rules}
use Rattle.rw_terms.proofs.Restricted.{valid_follows}
use Rattle.rw_subst.specs.declared.slot.Form.{Form}
use Rattle.rw_subst.specs.declared.slot.Form.TheVariants as form
use Rattle.rw_subst.specs.Stands.{stands_in}
use Rattle.rw_subst.specs.Kinds.{is_allowed_as}
use Rattle.rw_subst.proofs.KindLemmas.{formula_allowed}
use Rattle.rw_faults.specs.Limits.{is_small}
use Rattle.rw_faults.specs.Initial.{initial_outside}
use Rattle.rw_faults.specs.Faults.{is_ill_sorted, unknown_in}
use Rattle.rw_faults.proofs.Apart.{faults_apart}
use Rattle.rw_programs.specs.State.{Name, State, Holds, is_in}
use Rattle.rw_programs.specs.CodeTest.{is_guard}
use Rattle.rw_programs.specs.Scoped.{are_variables}
use Rattle.rw_programs.specs.declared.prog.Spec.{Spec}
use Rattle.rw_programs.specs.Laws.{KeepsValues}
use Rattle.rw_programs.proofs.Skipping.{stable}
use Rattle.rw_programs.specs.declared.applied.Misfit.TheVariants as cause
use Rattle.rw_laws.specs.Laws.{sequent_over}
use Rattle.rw_meaning.proofs.Tests.{bytes_same}
use Rattle.rw_soundness.specs.Sound.{IsReady}
use Rattle.rw_loops.specs.Code.{is_code_in, code_misfit}

-- what is small is within the limits
pub small_within : (f : Formula) → is_small f ≡ true → IsSmallFormula f
small_within f e = (light (leb_tells (formula_weight f) 1024), shallow (leb_tells (formula_depth f) 64))
  where
    light : ((leb (formula_weight f) 1024 ≡ true) × (formula_weight f ≤ 1024)) ⊎ ((leb (formula_weight f) 1024 ≡ false) × (1024 < formula_weight f)) → formula_weight f ≤ 1024
    light (inl h) = h.1
    light (inr h) = absurd (true≢false (sym (and_parts (leb (formula_weight f) 1024) (leb (formula_depth f) 64) e).0 ∙ h.0))

    shallow : ((leb (formula_depth f) 64 ≡ true) × (formula_depth f ≤ 64)) ⊎ ((leb (formula_depth f) 64 ≡ false) × (64 < formula_depth f)) → formula_depth f ≤ 64
    shallow (inl h) = h.1
    shallow (inr h) = absurd (true≢false (sym (and_parts (leb (formula_weight f) 1024) (leb (formula_depth f) 64) e).1 ∙ h.0))

-- a valid obligation with one formula on each side
pub owed_holds : (library : List Definition) (scope : List Entry) (pre f : Formula) → Valid library (sequent_over scope (pre ∷ []) (f ∷ []))
    → (s : State) → FitsMap scope s.own → Holds library pre s s → Holds library f s s
owed_holds library scope pre f valid s fits h =
    stable library f s s (λ n. valid_follows library scope (pre ∷ []) (f ∷ []) valid s.own s.own fits fits (h, tt) (n, tt))

-- What passes the tests of code: no initial variable, no predicate and no quantifier, and the rules of sorts are kept.
pub record IsCode (scope : List Entry) (heads : List Head) (f : Formula) : Type 0 where
  pub initial_free : initial_outside [] f ≡ false
  pub guard : is_guard f ≡ true
  pub keeps : keeps_rules scope heads f [] ≡ true

pub is_code : (scope : List Entry) (heads : List Head) (f : Formula) → code_misfit scope heads f ≡ None → IsCode scope heads f
unfolding code_misfit
is_code scope heads f e = go (initial_outside [] f) refl (is_code_in scope f) refl (is_ill_sorted scope heads f []) refl (unknown_in scope heads f) refl e
  where
    go : (a : Bool) → initial_outside [] f ≡ a → (b : Bool) → is_code_in scope f ≡ b → (c : Bool) → is_ill_sorted scope heads f [] ≡ c → (o : Option Name) → unknown_in scope heads f ≡ o
        → (if a then Some cause.InitialNotAllowed else if not b then Some cause.NotCode else if c then Some cause.Sort else if is_some o then Some cause.Unknown else None) ≡ None
        → IsCode scope heads f
    go true i b j c k o l e = absurd (cc)
    go false i false j c k o l e = absurd (cc)
    go false i true j true k o l e = absurd (cc)
    go false i true j false k (Some x) l e = absurd (cc)
    go false i true j false k None l e = record { initial_free = i; guard = (and_parts _ _ j).0; keeps = (faults_apart scope heads f []).1 (l, k) }

-- a name that is not in scope is no variable of it and no constant
pub no_variable : (scope : List Entry) (x : Name) → find (has_name x) scope ≡ None → is_some (variable_sort scope x) ≡ false
no_variable scope x fresh = ap (λ (o : Option Entry). is_some (option_and_then (λ e. as_variable e.kind e.sort) o)) fresh

no_constant : (scope : List Entry) (x : Name) → find (has_name x) scope ≡ None → is_some (constant_sort scope x) ≡ false
no_constant scope x fresh = ap (λ (o : Option Entry). is_some (option_and_then (λ e. as_constant e.kind e.sort) o)) fresh

not_allowed : (scope : List Entry) (g : Form) (x : Name) → find (has_name x) scope ≡ None → is_allowed_as scope g x ≡ true → ⊥
not_allowed scope form.Variable x fresh e = true≢false (sym e ∙ no_variable scope x fresh)
not_allowed scope form.Initial x fresh e = true≢false (sym e ∙ no_variable scope x fresh)
not_allowed scope form.Constant x fresh e = true≢false (sym e ∙ no_constant scope x fresh)

-- a name that is not in scope does not stand in a formula that keeps the rules
pub not_in_scope : (scope : List Entry) (heads : List Head) (f : Formula) (g : Form) (x : Name) → keeps_rules scope heads f [] ≡ true → find (has_name x) scope ≡ None → stands_in g x f ≡ true → ⊥
not_in_scope scope heads f g x keeps fresh h = not_allowed scope g x fresh (formula_allowed scope g x heads f [] keeps h)

-- each of the names is a variable
pub variable_in : (scope : List Entry) (names : List Name) (x : Name) → are_variables scope names ≡ true → is_in x names ≡ true → is_some (variable_sort scope x) ≡ true
variable_in scope [] x e h = absurd (true≢false (sym h))
variable_in scope (y ∷ names) x e h = go (bytes_eq x y) refl h (variable_in scope names x (and_parts (is_some (variable_sort scope y)) (are_variables scope names) e).1)
  where
    go : (b : Bool) → bytes_eq x y ≡ b → (b || is_in x names) ≡ true → (is_in x names ≡ true → is_some (variable_sort scope x) ≡ true) → is_some (variable_sort scope x) ≡ true
    go true i k rest = subst (λ z. is_some (variable_sort scope z) ≡ true) (sym ((bytes_eq-Decides x y).0 i)) (and_parts (is_some (variable_sort scope y)) (are_variables scope names) e).0
    go false i k rest = rest k

-- A specification that is well-formed where it stands, as the laws use it.
pub record IsPlaced (scope : List Entry) (heads : List Head) (w : Spec) : Type 0 where
  pub pre : IsFormed scope heads w.pre
  pub post : IsFormed scope heads w.post
  pub variables : are_variables scope w.frame ≡ true
  pub keeps_values : KeepsValues scope w.frame
  pub pre_initial : initial_outside [] w.pre ≡ false

all_variables : (scope : List Entry) (names : List Name) → ((x : Name) → is_in x names ≡ true → is_some (variable_sort scope x) ≡ true) → are_variables scope names ≡ true
all_variables scope [] h = refl
all_variables scope (y ∷ names) h = and_from (is_some (variable_sort scope y)) (are_variables scope names) (h y (ap (λ b. b || is_in y names) (bytes_same y y refl))) (all_variables scope names (λ x i. h x (or_right (bytes_eq x y) (is_in x names) i)))

pub placed : (scope : List Entry) (heads : List Head) (w : Spec) → IsReady scope heads w → IsPlaced scope heads w
placed scope heads w ready = record {
  pre = ready.pre;
  post = ready.post;
  variables = all_variables scope w.frame ready.variables;
  keeps_values = ready.no_values;
  pre_initial = ready.no_initial;
}
