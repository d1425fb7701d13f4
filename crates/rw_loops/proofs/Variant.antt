-- The variant of a loop before and after a turn.
use Rattle.std.proofs.Common.{◌≡◌, Bool, true, false, ◌&&◌, ◌||◌, is_some, if◌then◌else◌, List, [], ◌∷◌, map, Some, refl, sym, ap, ◌∙◌, true≢false, bytes_eq}
use Rattle.std.proofs.lemmas.Bool.{and_parts}
use Rattle.std.proofs.lemmas.Slice.Eq.{bytes_eq-Decides}
use Rattle.rw_terms.specs.declared.scope.Entry.{Entry}
use Rattle.rw_terms.specs.declared.term.Term.{Term}
use Rattle.rw_terms.specs.declared.term.Sort.TheVariants.{Int}
use Rattle.rw_terms.specs.State.{given, State as Map, value_in}
use Rattle.rw_terms.specs.Value.{value}
use Rattle.rw_terms.specs.Sorts.{variable_sort}
use Rattle.rw_terms.specs.Rules.{sort_in}
use Rattle.rw_subst.specs.declared.slot.Form.{Form}
use Rattle.rw_subst.specs.declared.slot.Form.TheVariants as form
use Rattle.rw_subst.specs.Kinds.{are_allowed}
use Rattle.rw_subst.specs.Looks.{Looks, value_of, in_states, changed_initial, changed_state}
use Rattle.rw_subst.specs.Replaced.{replaced_term, changed_leaves, to_initial}
use Rattle.rw_subst.specs.Stands.{stands_in_term}
use Rattle.rw_subst.proofs.ClosedTerms.{plain_value}
use Rattle.rw_subst.proofs.KindLemmas.{names_of_terms_have_one_kind}
use Rattle.rw_subst.proofs.Rebuilding.{kept_term}
use Rattle.rw_subst.proofs.Replacing.{replacement_in_states, initial_changes_are_closed}
use Rattle.rw_faults.specs.Initial.{term_outside}
use Rattle.rw_programs.specs.State.{Name, State, Within, is_in}
use Rattle.rw_programs.specs.Scoped.{are_variables}
use Rattle.rw_loops.proofs.Standing.{term_listed, SameBinders, binders_fit}

-- look-ups that agree on what stands in a term give it one value
looks_agree : (t : Term) (looks looks' : Looks) → ((g : Form) (x : Name) → stands_in_term g x t ≡ true → looks g x ≡ looks' g x) → value_of looks [] t ≡ value_of looks' [] t
looks_agree t looks looks' agree =
    let test = λ (g : Form) (x : Name). stands_in_term g x t in
    sym (kept_term (changed_leaves []) looks looks test SameBinders (λ k b b' r g x s. plain_value looks b g x) (binders_fit looks) 0 [] [] refl t (λ g x s. s))
    ∙ kept_term (changed_leaves []) looks looks' test SameBinders (λ k b b' r g x s. plain_value looks b g x ∙ agree g x s) (binders_fit looks) 0 [] [] refl t (λ g x s. s)

-- a term without initial variables does not look at the initial state
pub value_free : (t : Term) → term_outside [] t ≡ false → (s0 t0 s : Map) → value s0 s [] t ≡ value t0 s [] t
value_free t free s0 t0 s = looks_agree t (in_states s0 s) (in_states t0 s) agree
  where
    agree : (g : Form) (x : Name) → stands_in_term g x t ≡ true → in_states s0 s g x ≡ in_states t0 s g x
    agree form.Variable x h = refl
    agree form.Initial x h = absurd (true≢false (sym (term_listed [] x t h free)))
    agree form.Constant x h = refl

-- what a frame's names are changed to: their values before
module _ (s t : Map) where
  changed_in : (w : List Name) (x : Name) → is_in x w ≡ true → value_in (changed_state (map to_initial w) s t) x ≡ value_in s x
  changed_in [] x h = absurd (true≢false (sym h))
  changed_in (y ∷ w) x h = go (bytes_eq x y) refl h (changed_in w x)
    where
      go : (b : Bool) → bytes_eq x y ≡ b → (b || is_in x w) ≡ true → (is_in x w ≡ true → value_in (changed_state (map to_initial w) s t) x ≡ value_in s x)
          → given (if b || false then Some (value s t [] (to_initial y).term) else changed_state (map to_initial w) s t x) ≡ value_in s x
      go true i k rest = plain_value (in_states s t) [] form.Initial y ∙ ap (value_in s) (sym ((bytes_eq-Decides x y).0 i))
      go false i k rest = rest k

  changed_off : (w : List Name) (x : Name) → is_in x w ≡ false → changed_state (map to_initial w) s t x ≡ t x
  changed_off [] x h = refl
  changed_off (y ∷ w) x h = go (bytes_eq x y) h (changed_off w x)
    where
      go : (b : Bool) → (b || is_in x w) ≡ false → (is_in x w ≡ false → changed_state (map to_initial w) s t x ≡ t x)
          → (if b || false then Some (value s t [] (to_initial y).term) else changed_state (map to_initial w) s t x) ≡ t x
      go true k rest = absurd (true≢false k)
      go false k rest = rest k

  initial_same : (w : List Name) (x : Name) → changed_initial (map to_initial w) s t x ≡ s x
  initial_same [] x = refl
  initial_same (y ∷ w) x = initial_same w x

-- the slots of a frame of variables are allowed
slots_allowed : (scope : List Entry) (w : List Name) → are_variables scope w ≡ true → are_allowed scope (map (λ c. c.slot) (map to_initial w)) ≡ true
slots_allowed scope [] h = refl
slots_allowed scope (y ∷ w) h = ap (λ b. b && are_allowed scope (map (λ c. c.slot) (map to_initial w))) (and_parts _ _ h).0 ∙ slots_allowed scope w (and_parts (is_some (variable_sort scope y)) _ h).1

-- a term with the frame's names as initial variables has after a change within the frame the value that it had before
pub value_before : (scope : List Entry) (w : List Name) (v : Term) → are_variables scope w ≡ true → sort_in scope [] v ≡ Some Int → (s t : State) → Within w s t
    → value s.own t.own [] (replaced_term (map to_initial w) v) ≡ value s.own s.own [] v
value_before scope w v variables sorted s t within =
    replacement_in_states (map to_initial w) v (initial_changes_are_closed w).0 (names_of_terms_have_one_kind scope v [] Int (map (λ c. c.slot) (map to_initial w)) sorted (slots_allowed scope w variables)) s.own t.own []
    ∙ looks_agree v (in_states (changed_initial (map to_initial w) s.own t.own) (changed_state (map to_initial w) s.own t.own)) (in_states s.own s.own) agree
  where
    same : (x : Name) → value_in (changed_state (map to_initial w) s.own t.own) x ≡ value_in s.own x
    same x = go (is_in x w) refl
      where
        go : (b : Bool) → is_in x w ≡ b → value_in (changed_state (map to_initial w) s.own t.own) x ≡ value_in s.own x
        go true i = changed_in s.own t.own w x i
        go false i = ap given (changed_off s.own t.own w x i ∙ within.off x i)

    agree : (g : Form) (x : Name) → stands_in_term g x v ≡ true → in_states (changed_initial (map to_initial w) s.own t.own) (changed_state (map to_initial w) s.own t.own) g x ≡ in_states s.own s.own g x
    agree form.Variable x h = same x
    agree form.Initial x h = ap given (initial_same s.own t.own w x)
    agree form.Constant x h = same x
