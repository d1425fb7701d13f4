-- A sequent that is valid over the names of its formulas says the same of the states of their scope.
use Rattle.std.proofs.Common.{◌≡◌, ℕ, Bool, true, false, ◌||◌, List, [], ◌∷◌, find, Option, Some, None, sym, ap, subst}
use Rattle.std.proofs.lemmas.Bool.{or_left, or_right}
use Rattle.std.specs.Option.{option_map}
use Rattle.rw_terms.specs.declared.term.Formula.{Formula}
use Rattle.rw_terms.specs.declared.scope.Entry.{Entry}
use Rattle.rw_terms.specs.Scopes.{has_name}
use Rattle.rw_terms.specs.Mentions.{formula_mentions, formulas_mention}
use Rattle.rw_terms.specs.State.{Value, State, value_in, given, FitsEntry, Fits}
use Rattle.rw_terms.specs.Validity.{Each, FitsNamed}
use Rattle.rw_terms.specs.Agreement.{AgreeOn}
use Rattle.rw_terms.specs.InScope.{named_by, only_if, ValidFollows}
use Rattle.rw_terms.proofs.Agree.{truth_agrees}
use Rattle.rw_terms.proofs.Gathers.{names_are_exact}

each_by : (P Q : Formula → Type 0) (test : List ℕ → Bool) → ((f : Formula) → ((x : List ℕ) → formula_mentions x f ≡ true → test x ≡ true) → P f → Q f) →
    (fs : List Formula) → ((x : List ℕ) → formulas_mention x fs ≡ true → test x ≡ true) → Each P fs → Each Q fs
each_by P Q test k [] m h = tt
each_by P Q test k (f ∷ fs) m h = (
  k f (λ x e. m x (or_left (formula_mentions x f) (formulas_mention x fs) e)) h.0,
  each_by P Q test k fs (λ x e. m x (or_right (formula_mentions x f) (formulas_mention x fs) e)) h.1,
)

module _ (test : List ℕ → Bool) where
  -- the state with values of the names that pass the test alone
  abbrev restricted : State → State
  restricted s x = only_if (test x) (s x)

  fits_only : (b : Bool) (o : Option Entry) (v : Option Value) → FitsEntry o v → FitsNamed (only_if b (option_map named_by o)) (only_if b v)
  fits_only true None None f = tt
  fits_only true None (Some v) f = f
  fits_only true (Some e) None f = f
  fits_only true (Some e) (Some v) f = f
  fits_only false o v f = tt

  same_there : (s : State) (x : List ℕ) → test x ≡ true → value_in s x ≡ value_in (restricted s) x
  same_there s x e = sym (ap (λ b. given (only_if b (s x))) e)

  agree : (f : Formula) → ((x : List ℕ) → formula_mentions x f ≡ true → test x ≡ true) → (s0 s : State) → AgreeOn (λ x. formula_mentions x f) s0 s (restricted s0) (restricted s)
  agree f m s0 s x e = (same_there s0 x (m x e), same_there s x (m x e))

pub valid_follows : ValidFollows
valid_follows library scope left right valid s0 s f0 f on_left on_right =
    let test = λ (x : List ℕ). formulas_mention x left || formulas_mention x right in
    let exact = (names_are_exact scope left right).1 in
    let fits = λ (t : State) (ft : Fits scope t) (x : List ℕ). subst (λ o. FitsNamed o (restricted test t x)) (sym (exact x)) (fits_only test (test x) (find (has_name x) scope) (t x) (ft x)) in
    valid (restricted test s0) (restricted test s) (fits s0 f0) (fits s f)
    (each_by _ _ test (λ g m h. (truth_agrees library g s0 s (restricted test s0) (restricted test s) (agree test g m s0 s) []).0 h) left (λ x e. or_left (formulas_mention x left) _ e) on_left)
    (each_by _ _ test (λ g m n h. n ((truth_agrees library g s0 s (restricted test s0) (restricted test s) (agree test g m s0 s) []).1 h)) right (λ x e. or_right (formulas_mention x left) _ e) on_right)
