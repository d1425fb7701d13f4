-- What the arguments and the results of a call are.
use Rattle.std.proofs.Common.{◌≡◌, suc, Bool, true, false, List, [], ◌∷◌, map, find, length, Option, Some, None, refl, sym, ap, ◌∙◌, subst, true≢false}
use Rattle.std.specs.Prelude.{bytes_eq, not, option_and_then}
use Rattle.std.proofs.lemmas.Bool.{and_parts, eqb-true, or_parts, not-false}
use Rattle.rw_terms.specs.declared.scope.Entry.{Entry}
use Rattle.rw_terms.specs.declared.scope.Head.{Head}
use Rattle.rw_terms.specs.declared.scope.Kind.{Kind}
use Rattle.rw_terms.specs.declared.scope.Kind.TheVariants as kind
use Rattle.rw_terms.specs.declared.term.Sort.{Sort}
use Rattle.rw_terms.specs.declared.term.Sort.TheVariants.{Int, Array}
use Rattle.rw_terms.specs.declared.term.Term.{Term}
use Rattle.rw_terms.specs.declared.term.Formula.TheVariants as formula
use Rattle.rw_terms.specs.declared.term.Formula.TheOpen.{Formula-F}
use Rattle.rw_terms.specs.declared.term.Formula.TheFolds.{fold-roll-Formula}
use Rattle.rw_terms.specs.Scopes.{has_name}
use Rattle.rw_terms.specs.Sorts.{as_variable, variable_sort}
use Rattle.rw_terms.specs.Formed.{same_sort}
use Rattle.rw_terms.specs.Rules.{is_of, are_of, sort_in, keeps_step, keeps_rules}
use Rattle.rw_terms.specs.State.{Value, HasSort, FitsEntry, State as Map, Fits as FitsMap}
use Rattle.rw_terms.specs.Validity.{Each}
use Rattle.rw_terms.proofs.Typed.{sort_law}
use Rattle.rw_faults.specs.Faults.{unknown_in_term, first_of_names, formula_unknown_step, unknown_in, ill_step, is_ill_sorted}
use Rattle.rw_faults.proofs.Apart.{faults_apart}
use Rattle.rw_programs.specs.declared.prog.Param.{Param}
use Rattle.rw_programs.specs.State.{Name, State, put, put_all, names_of, ValuesFor}
use Rattle.rw_programs.specs.Meaning.{values}
use Rattle.rw_meaning.proofs.Tests.{same_bytes}
use Rattle.rw_procs.specs.Causes.{head_of, wrong_args, wrong_names}

-- terms of the sorts of parameters
abbrev pub ArgsFor : List Entry → List Param → List Term → Type 0
ArgsFor scope [] [] = Unit {0}
ArgsFor scope [] (t ∷ ts) = ⊥
ArgsFor scope (p ∷ ps) [] = ⊥
ArgsFor scope (p ∷ ps) (t ∷ ts) = (sort_in scope [] t ≡ Some p.sort) × ArgsFor scope ps ts

same_sort_is : (a b : Sort) → same_sort a b ≡ true → a ≡ b
same_sort_is Int Int e = refl
same_sort_is Int (Array n) e = absurd (true≢false (sym e))
same_sort_is (Array m) Int e = absurd (true≢false (sym e))
same_sort_is (Array m) (Array n) e = ap Array (eqb-true m n e)

is_of_is : (s : Sort) (o : Option Sort) → is_of s o ≡ true → o ≡ Some s
is_of_is s None e = absurd (true≢false (sym e))
is_of_is s (Some t) e = ap Some (sym (same_sort_is s t e))

module _ (scope : List Entry) where
  args_for : (ps : List Param) (ts : List Term) → are_of (map (λ p. p.sort) ps) (map (sort_in scope []) ts) ≡ true → ArgsFor scope ps ts
  args_for [] [] e = tt
  args_for [] (t ∷ ts) e = absurd (true≢false (sym e))
  args_for (p ∷ ps) [] e = absurd (true≢false (sym e))
  args_for (p ∷ ps) (t ∷ ts) e = (is_of_is p.sort (sort_in scope [] t) (and_parts _ _ e).0, args_for ps ts (and_parts (is_of p.sort (sort_in scope [] t)) _ e).1)

  -- arguments that are known and not wrong have the sorts of the values
  pub args_sorted : (ps rs : List Param) (ts : List Term) → first_of_names (map (unknown_in_term scope) ts) ≡ None → wrong_args scope (Some (record { values = ps; results = rs })) ts ≡ false → ArgsFor scope ps ts
  args_sorted ps rs ts known good =
      let heads : List Head = head_of ps ∷ [] in
      let rolls = formula.rolls-App [] ts in
      let unknown : unknown_in scope heads (formula.App [] ts) ≡ None = ap (unknown_in scope heads) (sym rolls) ∙ (fold-roll-Formula (Option Name) (formula_unknown_step scope heads) (Formula-F.App [] ts) ∙ known) in
      let ill : is_ill_sorted scope heads (formula.App [] ts) [] ≡ false =
      ap (λ f. is_ill_sorted scope heads f []) (sym rolls) ∙ ((λ i. fold-roll-Formula (List Sort → Bool) (ill_step scope heads) (Formula-F.App [] ts) i []) ∙ good) in
      let kept = (faults_apart scope heads (formula.App [] ts) []).1 (unknown, ill) in
      args_for ps ts (sym (ap (λ f. keeps_rules scope heads f []) (sym rolls) ∙ (λ i. fold-roll-Formula (List Sort → Bool) (keeps_step scope heads) (Formula-F.App [] ts) i [])) ∙ kept)

  pub args_long : (ps : List Param) (ts : List Term) → ArgsFor scope ps ts → length (names_of ps) ≡ length ts
  args_long [] [] h = refl
  args_long [] (t ∷ ts) h = absurd h
  args_long (p ∷ ps) [] h = absurd h
  args_long (p ∷ ps) (t ∷ ts) h = ap suc (args_long ps ts h.1)

  pub args_have_sorts : (ps : List Param) (ts : List Term) → ArgsFor scope ps ts → Each (λ t. (s : Sort) × (sort_in scope [] t ≡ Some s)) ts
  args_have_sorts [] [] h = tt
  args_have_sorts [] (t ∷ ts) h = absurd h
  args_have_sorts (p ∷ ps) [] h = absurd h
  args_have_sorts (p ∷ ps) (t ∷ ts) h = ((p.sort, h.0), args_have_sorts ps ts h.1)

  pub args_values : (s : State) → FitsMap scope s.own → (ps : List Param) (ts : List Term) → ArgsFor scope ps ts → ValuesFor ps (values ts s)
  args_values s fits [] [] h = tt
  args_values s fits [] (t ∷ ts) h = absurd h
  args_values s fits (p ∷ ps) [] h = absurd h
  args_values s fits (p ∷ ps) (t ∷ ts) h = (sort_law scope [] t p.sort h.0 s.own s.own fits fits [] tt, args_values s fits ps ts h.1)

  -- a variable of the scope takes a value of its sort
  takes : (o : Option Entry) (sort : Sort) (v : Value) → option_and_then (λ e. as_variable e.kind e.sort) o ≡ Some sort → HasSort v sort → FitsEntry o (Some v)
  takes None sort v e h = absurd (cc)
  takes (Some a) sort v e h = go a.kind e
    where
      go : (k : Kind) → as_variable k a.sort ≡ Some sort → HasSort v a.sort
      go kind.Constant e = absurd (cc)
      go kind.Global e = let q : sort ≡ a.sort = cc in subst (HasSort v) q h
      go kind.Local e = let q : sort ≡ a.sort = cc in subst (HasSort v) q h
      go kind.Value e = let q : sort ≡ a.sort = cc in subst (HasSort v) q h
      go kind.Outcome e = let q : sort ≡ a.sort = cc in subst (HasSort v) q h
      go kind.Module e = let q : sort ≡ a.sort = cc in subst (HasSort v) q h

  -- names of the results' sorts take the results
  pub names_take : (ps : List Param) (names : List Name) (vs : List (Option Value)) (m : Map) → wrong_names scope ps names ≡ false → ValuesFor ps vs → FitsMap scope m → FitsMap scope (put_all names vs m)
  names_take [] [] vs m e hv fits = fits
  names_take [] (x ∷ names) vs m e hv fits = absurd (true≢false e)
  names_take (p ∷ ps) [] vs m e hv fits = absurd (true≢false e)
  names_take (p ∷ ps) (x ∷ names) [] m e hv fits = absurd hv
  names_take (p ∷ ps) (x ∷ names) (None ∷ vs) m e hv fits = absurd hv
  names_take (p ∷ ps) (x ∷ names) (Some v ∷ vs) m e hv fits =
      let sort = is_of_is p.sort (variable_sort scope x) (not-false _ (or_parts _ (wrong_names scope ps names) e).0) in
      λ y. at sort y (bytes_eq y x) refl (names_take ps names vs m (or_parts (not (is_of p.sort (variable_sort scope x))) _ e).1 hv.1 fits y)
    where
      at : variable_sort scope x ≡ Some p.sort → (y : Name) (b : Bool) → bytes_eq y x ≡ b → FitsEntry (find (has_name y) scope) (put_all names vs m y) → FitsEntry (find (has_name y) scope) (put x (Some v) (put_all names vs m) y)
      at sort y true i rest = rw i (subst (λ z. FitsEntry (find (has_name z) scope) (Some v)) (sym (same_bytes y x i)) (takes (find (has_name x) scope) p.sort v sort hv.0))
      at sort y false i rest = rw i rest

  pub names_long : (ps : List Param) (names : List Name) → wrong_names scope ps names ≡ false → length names ≡ length (names_of ps)
  names_long [] [] e = refl
  names_long [] (x ∷ names) e = absurd (true≢false e)
  names_long (p ∷ ps) [] e = absurd (true≢false e)
  names_long (p ∷ ps) (x ∷ names) e = ap suc (names_long ps names (or_parts (not (is_of p.sort (variable_sort scope x))) _ e).1)
