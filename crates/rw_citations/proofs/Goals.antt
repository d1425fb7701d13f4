-- A lemma whose goal is valid is valid over all of its parameters.
use Rattle.std.proofs.Common.{◌≡◌, ℕ, Bool, true, false, cond, List, [], ◌∷◌, find, Option, Some, None, refl, sym, subst, bytes_eq}
use Rattle.std.specs.Option.{option_map}
use Rattle.rw_terms.specs.Named.{Named, is_named}
use Rattle.rw_terms.specs.Scopes.{has_name}
use Rattle.rw_terms.specs.State.{Value, State, FitsEntry, Fits}
use Rattle.rw_terms.specs.Truth as truth
use Rattle.rw_terms.specs.Validity.{FitsNamed, FitsNames, Valid}
use Rattle.rw_terms.proofs.Restricted.{valid_follows}
use Rattle.rw_goals.specs.declared.library.Lemma.{Lemma}
use Rattle.rw_citations.specs.Goal.{parameter_entry, scope_of_parameters, goal_of}
use Rattle.rw_citations.specs.WellMade.{over_parameters}

found_by : (x : List ℕ) (params : List Named) → find (has_name x) (scope_of_parameters params) ≡ option_map parameter_entry (find (is_named x) params)
found_by x [] = refl
found_by x (p ∷ ps) = first (bytes_eq p.0 x) (found_by x ps)
  where
    first : (b : Bool) → find (has_name x) (scope_of_parameters ps) ≡ option_map parameter_entry (find (is_named x) ps) →
        cond b (Some (parameter_entry p)) (find (has_name x) (scope_of_parameters ps)) ≡ option_map parameter_entry (cond b (Some p) (find (is_named x) ps))
    first true k = refl
    first false k = k

entry_fits : (o : Option Named) (v : Option Value) → FitsNamed o v → FitsEntry (option_map parameter_entry o) v
entry_fits None None h = h
entry_fits None (Some v) h = h
entry_fits (Some n) None h = h
entry_fits (Some n) (Some v) h = h

fits_scope : (params : List Named) (s : State) → FitsNames params s → Fits (scope_of_parameters params) s
fits_scope params s h x = subst (λ o. FitsEntry o (s x)) (sym (found_by x params)) (entry_fits (find (is_named x) params) (s x) (h x))

pub goal_valid : (ds : List truth.Definition) (l : Lemma) → Valid ds (goal_of l) → Valid ds (over_parameters l)
goal_valid ds l valid s0 s fits0 fits =
    valid_follows ds (scope_of_parameters l.params) l.sequent.left l.sequent.right valid s0 s (fits_scope l.params s0 fits0) (fits_scope l.params s fits)
