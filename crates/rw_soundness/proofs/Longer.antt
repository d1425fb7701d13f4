-- A specification that is well-formed in a scope is so in a longer one.
use Rattle.std.proofs.Common.{◌≡◌, Bool, true, false, is_some, List, [], ◌∷◌, ◌++◌, find, Some, None, refl, sym, ap, ◌∙◌, true≢false}
use Rattle.std.specs.Prelude.{option_and_then}
use Rattle.rw_terms.specs.declared.scope.Entry.{Entry}
use Rattle.rw_terms.specs.declared.scope.Head.{Head}
use Rattle.rw_terms.specs.declared.term.Sort.{Sort}
use Rattle.rw_terms.specs.Scopes.{has_name}
use Rattle.rw_terms.specs.Sorts.{as_variable, as_constant, variable_sort}
use Rattle.rw_subst.specs.declared.slot.Form.{Form}
use Rattle.rw_subst.specs.declared.slot.Form.TheVariants as form
use Rattle.rw_programs.specs.declared.prog.Spec.{Spec}
use Rattle.rw_programs.specs.State.{Name, is_in}
use Rattle.rw_programs.specs.Refine.{is_value_entry}
use Rattle.rw_soundness.specs.Sound.{IsReady}
use Rattle.rw_soundness.proofs.Replaced.{form_sort}
use Rattle.rw_soundness.proofs.Unchanged.{keeps_wider}

-- a name that has a sort is found
pub found_by : (scope : List Entry) (g : Form) (x : Name) (s : Sort) → form_sort scope g x ≡ Some s → find (has_name x) scope ≡ None → ⊥
found_by scope form.Variable x s h n = let clash : None ≡ Some s = sym (ap (option_and_then (λ e. as_variable e.kind e.sort)) n) ∙ h in absurd (cc)
found_by scope form.Initial x s h n = let clash : None ≡ Some s = sym (ap (option_and_then (λ e. as_variable e.kind e.sort)) n) ∙ h in absurd (cc)
found_by scope form.Constant x s h n = let clash : None ≡ Some s = sym (ap (option_and_then (λ e. as_constant e.kind e.sort)) n) ∙ h in absurd (cc)

-- it has its sort in every scope where it is found as before
pub same_form : (scope inner : List Entry) (g : Form) (x : Name) → find (has_name x) inner ≡ find (has_name x) scope → form_sort inner g x ≡ form_sort scope g x
same_form scope inner form.Variable x e = ap (option_and_then (λ e. as_variable e.kind e.sort)) e
same_form scope inner form.Initial x e = ap (option_and_then (λ e. as_variable e.kind e.sort)) e
same_form scope inner form.Constant x e = ap (option_and_then (λ e. as_constant e.kind e.sort)) e

pub variable_found : (scope : List Entry) (x : Name) → is_some (variable_sort scope x) ≡ true → find (has_name x) scope ≡ None → ⊥
variable_found scope x h n = true≢false (sym h ∙ ap (λ o. is_some (option_and_then (λ e. as_variable e.kind e.sort) o)) n)

-- what is found is found in a longer scope as before
pub still_found : (scope more : List Entry) (x : Name) → (find (has_name x) scope ≡ None → ⊥) → find (has_name x) (scope ++ more) ≡ find (has_name x) scope
still_found [] more x found = absurd (found refl)
still_found (e ∷ scope) more x found = go (has_name x e) refl (still_found scope more x)
  where
    go : (b : Bool) → has_name x e ≡ b → ((find (has_name x) scope ≡ None → ⊥) → find (has_name x) (scope ++ more) ≡ find (has_name x) scope) → find (has_name x) ((e ∷ scope) ++ more) ≡ find (has_name x) (e ∷ scope)
    go true is rest = rw is refl
    go false is rest = rw is (rest (λ none. found (rw is none)))

module _ (scope more : List Entry) (heads : List Head) (w : Spec) (ready : IsReady scope heads w) where
  pub wider : (g : Form) (x : Name) (s : Sort) → form_sort scope g x ≡ Some s → form_sort (scope ++ more) g x ≡ Some s
  wider g x s h = same_form scope (scope ++ more) g x (still_found scope more x (found_by scope g x s h)) ∙ h

  pub there : (x : Name) → is_in x w.frame ≡ true → find (has_name x) (scope ++ more) ≡ find (has_name x) scope
  there x i = still_found scope more x (variable_found scope x (ready.variables x i))

  pub ready_longer : IsReady (scope ++ more) heads w
  ready_longer = record {
    pre = (ready.pre.0, keeps_wider scope (scope ++ more) heads w.pre wider ready.pre.1);
    post = (ready.post.0, keeps_wider scope (scope ++ more) heads w.post wider ready.post.1);
    variables = λ x i. ap is_some (same_form scope (scope ++ more) form.Variable x (there x i)) ∙ ready.variables x i;
    no_values = λ x i. ap is_value_entry (there x i) ∙ ready.no_values x i;
    differ = ready.differ;
    no_initial = ready.no_initial;
    initial = ready.initial;
  }
