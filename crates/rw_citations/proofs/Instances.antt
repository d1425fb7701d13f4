-- What a formula over parameters says for given terms.
use Rattle.std.proofs.Common.{◌≡◌, ℕ, Bool, true, false, cond, if◌then◌else◌, List, [], ◌∷◌, ◌++◌, map, find, Option, Some, refl, sym, ap, ◌∙◌, true≢false, bytes_eq}
use Rattle.std.specs.Prelude.{is_some}
use Rattle.std.specs.Option.{option_map}
use Rattle.std.proofs.lemmas.Bool.{and_parts, and_from}
use Rattle.std.proofs.lemmas.Slice.Eq.{bytes_eq-Decides}
use Rattle.rw_terms.specs.declared.term.Term.{Term}
use Rattle.rw_terms.specs.Named.{Named, is_named}
use Rattle.rw_terms.specs.Rules.{is_of, are_of}
use Rattle.rw_terms.specs.State.{Value, State, given, value_in, HasSort}
use Rattle.rw_terms.specs.Value.{value}
use Rattle.rw_terms.specs.Truth.{bound_to, pick}
use Rattle.rw_terms.specs.Validity.{FitsNamed, FitsNames}
use Rattle.rw_subst.specs.declared.slot.Form.{Form}
use Rattle.rw_subst.specs.declared.slot.Form.TheVariants as form
use Rattle.rw_subst.specs.declared.slot.Change.{Change}
use Rattle.rw_subst.specs.Closed.{is_closed, are_closed}
use Rattle.rw_subst.specs.Looks.{in_states, changed_looks}
use Rattle.rw_goals.specs.Sorting.{name_sort, sort_of}
use Rattle.rw_goals.proofs.Sorted.{Known, has_sort}
use Rattle.rw_quantifiers.proofs.Quantifiers.{sorted_closed, of_sort, known}
use Rattle.rw_citations.specs.Cited.{changes_of, changes_for}

same_bool : (a b : Bool) → (a ≡ true → b ≡ true) → (b ≡ true → a ≡ true) → a ≡ b
same_bool true b f g = sym (f refl)
same_bool false true f g = g refl
same_bool false false f g = refl

either_way : (x y : List ℕ) → bytes_eq x y ≡ bytes_eq y x
either_way x y =
    same_bool (bytes_eq x y) (bytes_eq y x) (λ e. (bytes_eq-Decides y x).1 (sym ((bytes_eq-Decides x y).0 e))) (λ e. (bytes_eq-Decides x y).1 (sym ((bytes_eq-Decides y x).0 e)))

choose : (b : Bool) (v w : Value) (o : Option Value) → (b ≡ false → w ≡ given o) → (if b then v else w) ≡ given (pick b (Some v) o)
choose true v w o k = refl
choose false v w o k = k refl

known_later : (b : Bool) (n : Named) (o : Option Named) → is_some (option_map (λ (m : Named). m.1) (cond b (Some n) o)) ≡ true → b ≡ false → is_some (option_map (λ (m : Named). m.1) o) ≡ true
known_later true n o k e = absurd (true≢false e)
known_later false n o k e = k

fits_choice : (b : Bool) (n : Named) (v : Value) (o : Option Named) (w : Option Value) → HasSort v n.1 → FitsNamed o w → FitsNamed (cond b (Some n) o) (pick b (Some v) w)
fits_choice true n v o w h k = h
fits_choice false n v o w h k = k

module _ (names : List Named) (s0 s : State) where
  abbrev pub val : Term → Value
  val = value s0 s []

  -- the terms have the sorts of the parameters
  abbrev pub Sorted : List Named → List Term → Type 0
  Sorted params ts = are_of (map (λ p. p.1) params) (map (sort_of names []) ts) ≡ true

  -- what the parameters stand for
  abbrev pub arguments : List Named → List Term → State
  arguments params ts = bound_to (map (λ p. p.0) params) (map val ts)

  pub changes_are_closed : (params : List Named) (ts : List Term) → Sorted params ts → are_closed (changes_for params ts) ≡ true
  changes_are_closed [] ts e = refl
  changes_are_closed (p ∷ ps) [] e = refl
  changes_are_closed (p ∷ ps) (t ∷ ts) e =
      let both = and_parts (is_of p.1 (sort_of names [] t)) _ e in
      let c = sorted_closed names t (known _ p.1 (of_sort _ p.1 both.0)) in
      and_from (is_closed t) _ c (and_from (is_closed t) _ c (and_from (is_closed t) _ c (changes_are_closed ps ts both.1)))

  -- a name in any form is changed by the first change of its name
  first_change : (g : Form) (x n : List ℕ) (t : Term) (cs : List Change) →
      changed_looks (changes_of n t ++ cs) (in_states s0 s) g x ≡ (if bytes_eq x n then val t else changed_looks cs (in_states s0 s) g x)
  first_change form.Variable x n t cs = refl
  first_change form.Initial x n t cs = refl
  first_change form.Constant x n t cs = refl

  -- each parameter has the value of its term, in each form
  pub changed_value : (params : List Named) (ts : List Term) → Sorted params ts → (g : Form) (x : List ℕ) → Known (name_sort params x) →
      changed_looks (changes_for params ts) (in_states s0 s) g x ≡ value_in (arguments params ts) x
  changed_value [] ts e g x k = absurd (true≢false (sym k))
  changed_value (p ∷ ps) [] e g x k = absurd (true≢false (sym e))
  changed_value (p ∷ ps) (t ∷ ts) e g x k =
      let both = and_parts (is_of p.1 (sort_of names [] t)) _ e in
      first_change g x p.0 t (changes_for ps ts)
      ∙ ap (λ b. if b then val t else changed_looks (changes_for ps ts) (in_states s0 s) g x) (either_way x p.0)
      ∙ choose (bytes_eq p.0 x) (val t) _ (arguments ps ts x) (λ n. changed_value ps ts both.1 g x (known_later (bytes_eq p.0 x) p (find (is_named x) ps) k n))

  module _ (fits0 : FitsNames names s0) (fits : FitsNames names s) where
    -- so the state of the parameters fits them
    pub arguments_fit : (params : List Named) (ts : List Term) → Sorted params ts → FitsNames params (arguments params ts)
    arguments_fit [] ts e x = tt
    arguments_fit (p ∷ ps) [] e x = absurd (true≢false (sym e))
    arguments_fit (p ∷ ps) (t ∷ ts) e x =
        let both = and_parts (is_of p.1 (sort_of names [] t)) _ e in
        fits_choice (bytes_eq p.0 x) p (val t) (find (is_named x) ps) (arguments ps ts x) (has_sort names s0 s fits0 fits t p.1 (of_sort _ p.1 both.0)) (arguments_fit ps ts both.1 x)
