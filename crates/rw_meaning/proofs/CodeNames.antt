-- Well scoped code mentions no constant of its scope.
use Rattle.std.proofs.Common.{◌≡◌, refl, sym, ap, ◌∙◌, subst, ℕ, suc, Bool, true, false, ◌&&◌, ◌||◌, List, [], ◌∷◌, map, find, length, is_some, Option, Some, None, true≢false}
use Rattle.std.proofs.lemmas.Bool.{and_parts, or_from, or_parts, eqb-true}
use Rattle.std.specs.Prelude.{bytes_eq, option_and_then}
use Rattle.rw_terms.specs.declared.scope.Entry.{Entry}
use Rattle.rw_terms.specs.declared.scope.Kind.{Kind}
use Rattle.rw_terms.specs.declared.scope.Kind.TheVariants as kind
use Rattle.rw_terms.specs.declared.term.Sort.{Sort}
use Rattle.rw_terms.specs.declared.term.Sort.TheVariants.{Int, Array}
use Rattle.rw_terms.specs.declared.term.Term.{Term}
use Rattle.rw_terms.specs.declared.term.Term.TheOpen.{Term-F}
use Rattle.rw_terms.specs.declared.term.Term.TheViews.{roll-Term}
use Rattle.rw_terms.specs.declared.term.Term.TheFolds.{map-Term, ind-Term, fold-roll-Term}
use Rattle.rw_terms.specs.declared.term.Formula.{Formula}
use Rattle.rw_terms.specs.declared.term.Formula.TheOpen.{Formula-F}
use Rattle.rw_terms.specs.declared.term.Formula.TheViews.{roll-Formula}
use Rattle.rw_terms.specs.declared.term.Formula.TheFolds.{map-Formula, ind-Formula, fold-roll-Formula}
use Rattle.rw_terms.specs.Scopes.{has_name}
use Rattle.rw_terms.specs.Sorts.{as_variable, as_constant, variable_sort, constant_sort}
use Rattle.rw_terms.specs.Rules.{of_ints, is_of, sort_step, sort_in}
use Rattle.rw_terms.specs.Mentions.{mentions_step, mentions, terms_mention, formula_mentions_step, formula_mentions}
use Rattle.rw_programs.specs.declared.prog.Prog.{Prog, Spec, Kid, Skip, Assign, If', Do', Call, OpCall, Row_of-Arm, end_of-Arm, more_of-Arm}
use Rattle.rw_programs.specs.Made.{Seq, Block, Con, ModBlock}
use Rattle.rw_programs.specs.State.{Name, is_in}
use Rattle.rw_programs.specs.CodeTest.{plain_step, is_plain, are_plain, guard_step, is_guard, is_code, are_code}
use Rattle.rw_programs.specs.Scoped.{are_variables, are_sorted, each_set, sorted_step, is_sorted, with_local, with_entries, with_module, if_some, prog_scoped, row_scoped}
use Rattle.rw_subst.proofs.WellSorted.{int_part, int_parts, read_parts, put_parts, compared_parts, equal_parts}
use Rattle.rw_meaning.specs.Mention.{is_brought, prog_mentions, row_mentions}
use Rattle.rw_meaning.proofs.Ending.{some_tested}
use Rattle.rw_meaning.proofs.Entering.{local_entry, one_entry}
use Rattle.rw_meaning.proofs.Overlays.{in_or_off}
use Rattle.rw_meaning.proofs.Scopes.{Extends, extends}
use Rattle.rw_meaning.proofs.Tests.{same_bytes, if_not}

-- a name of a scope is not both variable and constant
one_kind : (o : Option Entry) → is_some (option_and_then (λ e. as_variable e.kind e.sort) o) ≡ true → is_some (option_and_then (λ e. as_constant e.kind e.sort) o) ≡ true → ⊥
one_kind None p q = true≢false (sym p)
one_kind (Some e) p q = by_kind e.kind e.sort p q
  where
    by_kind : (k : Kind) (s : Sort) → is_some (as_variable k s) ≡ true → is_some (as_constant k s) ≡ true → ⊥
    by_kind kind.Constant s p q = true≢false (sym p)
    by_kind kind.Global s p q = true≢false (sym q)
    by_kind kind.Local s p q = true≢false (sym q)
    by_kind kind.Value s p q = true≢false (sym q)
    by_kind kind.Outcome s p q = true≢false (sym q)
    by_kind kind.Module s p q = true≢false (sym q)

sort_of_some : (s : Sort) (o : Option Sort) → is_of s o ≡ true → (t : Sort) × (o ≡ Some t)
sort_of_some s None e = absurd (true≢false (sym e))
sort_of_some s (Some t) e = (t, refl)

some_sort : (o : Option Sort) → is_some o ≡ true → (s : Sort) × (o ≡ Some s)
some_sort None e = absurd (true≢false (sym e))
some_sort (Some s) e = (s, refl)

module _ (x : Name) (scope : List Entry) (con : is_some (constant_sort scope x) ≡ true) where
  -- a variable of the scope is another name
  other : (y : Name) → is_some (variable_sort scope y) ≡ true → bytes_eq x y ≡ false
  other y v =
      in_or_off (bytes_eq x y) (λ h. absurd (one_kind (find (has_name x) scope) (subst (λ z. is_some (variable_sort scope z) ≡ true) (sym (same_bytes x y h)) v) con)) (λ h. h)

  abbrev Claim : Term → Type 0
  Claim t = is_plain t ≡ true → (s : Sort) → sort_in scope [] t ≡ Some s → mentions x t ≡ false

  abbrev Part : Type 0
  Part = (t : Term) × Claim t

  abbrev under : Term-F Part → Term-F Term
  under = map-Term Part Term (λ e. e.0)

  two : (a b : Part) → (is_plain a.0 && is_plain b.0) ≡ true → (s : Sort) → of_ints (sort_in scope [] a.0) (sort_in scope [] b.0) ≡ Some s → (mentions x a.0 || mentions x b.0) ≡ false
  two a b p s e = let q = and_parts _ _ p in let parts = int_parts _ _ s e in or_from _ _ (a.1 q.0 Int parts.0) (b.1 q.1 Int parts.1)

  layer : (y : Term-F Part) → plain_step (map-Term Term Bool is_plain (under y)) ≡ true → (s : Sort) → sort_step scope [] (map-Term Term (Option Sort) (sort_in scope []) (under y)) ≡ Some s
      → mentions_step x (map-Term Term Bool (mentions x) (under y)) ≡ false
  layer (Term-F.Lit n) p s e = refl
  layer (Term-F.Var n) p s e = other n (ap is_some e)
  layer (Term-F.Init n) p s e = absurd (true≢false (sym p))
  layer (Term-F.Const n) p s e = absurd (true≢false (sym p))
  layer (Term-F.Bound k) p s e = refl
  layer (Term-F.Neg a) p s e = a.1 p Int (int_part _ s e)
  layer (Term-F.Add a b) p s e = two a b p s e
  layer (Term-F.Sub a b) p s e = two a b p s e
  layer (Term-F.Mul a b) p s e = two a b p s e
  layer (Term-F.Div a b) p s e = two a b p s e
  layer (Term-F.Mod a b) p s e = two a b p s e
  layer (Term-F.Read a i) p s e =
      let q = and_parts _ _ p in let parts = read_parts _ _ s e in or_from _ _ (a.1 q.0 (Array parts.length) parts.array) (i.1 q.1 Int parts.index)
  layer (Term-F.Put a i z) p s e =
      let q = and_parts _ _ p in let r = and_parts _ _ q.1 in let parts = put_parts _ _ _ s e in
      or_from _ _ (or_from _ _ (a.1 q.0 (Array parts.length) parts.array) (i.1 r.0 Int parts.index)) (z.1 r.1 Int parts.item)
  layer (Term-F.Fun f args) p s e = absurd (cc)

  claim_at : (y : Term-F Part) → Claim (roll-Term (under y))
  claim_at y p s e =
      fold-roll-Term Bool (mentions_step x) (under y)
      ∙ layer y (sym (fold-roll-Term Bool plain_step (under y)) ∙ p) s (sym (fold-roll-Term (Option Sort) (sort_step scope []) (under y)) ∙ e)

  term_off : (t : Term) → Claim t
  term_off = ind-Term Claim (λ u y is. subst (λ z. Claim (roll-Term z)) is (claim_at y))

  terms_off : (ts : List Term) → are_plain ts ≡ true → are_sorted scope [] ts ≡ true → terms_mention x ts ≡ false
  terms_off [] p e = refl
  terms_off (t ∷ ts) p e =
      let q = and_parts _ _ p in let r = and_parts _ _ e in let s = some_sort (sort_in scope [] t) r.0 in
      or_from _ _ (term_off t q.0 s.0 s.1) (terms_off ts q.1 r.1)

  names_off : (names : List Name) → are_variables scope names ≡ true → is_in x names ≡ false
  names_off [] e = refl
  names_off (y ∷ names) e = let r = and_parts _ _ e in or_from _ _ (other y r.0) (names_off names r.1)

  -- assigned names, and the terms behind them
  set_off : (names : List Name) (terms : List Term) → are_plain terms ≡ true → length names ≡ length terms → each_set scope names terms ≡ true → (is_in x names || terms_mention x terms) ≡ false
  set_off [] [] p long e = refl
  set_off [] (t ∷ terms) p long e = absurd (cc)
  set_off (y ∷ names) [] p long e = absurd (cc)
  set_off (y ∷ names) (t ∷ terms) p long e =
      let q = and_parts _ _ p in let r = and_parts _ _ e in
      let sorts = equal_parts (variable_sort scope y) (sort_in scope [] t) r.0 in
      joined (bytes_eq x y) (is_in x names) (mentions x t) (terms_mention x terms) (other y (ap is_some sorts.0.1)) (term_off t q.0 sorts.1.0 sorts.1.1)
      (set_off names terms q.1 (shorter (length names) (length terms) long) r.1)
    where
      shorter : (a b : ℕ) → suc a ≡ suc b → a ≡ b
      shorter a b q = cc

      joined : (a b c d : Bool) → a ≡ false → c ≡ false → (b || d) ≡ false → ((a || b) || (c || d)) ≡ false
      joined a b c d i j k = rw (i, j) k

  abbrev GuardClaim : Formula → Type 0
  GuardClaim g = is_guard g ≡ true → is_sorted scope g [] ≡ true → formula_mentions x g ≡ false

  abbrev Guarding : Type 0
  Guarding = (g : Formula) × GuardClaim g

  abbrev inside : Formula-F Guarding → Formula-F Formula
  inside = map-Formula Guarding Formula (λ e. e.0)

  abbrev sorted : Formula → List Sort → Bool
  sorted = is_sorted scope

  compared : (t u : Term) → (is_plain t && is_plain u) ≡ true → is_some (of_ints (sort_in scope [] t) (sort_in scope [] u)) ≡ true → (mentions x t || mentions x u) ≡ false
  compared t u p e = let q = and_parts _ _ p in let parts = compared_parts _ _ e in or_from _ _ (term_off t q.0 Int parts.0) (term_off u q.1 Int parts.1)

  two_guards : (f g : Guarding) → (is_guard f.0 && is_guard g.0) ≡ true → (sorted f.0 [] && sorted g.0 []) ≡ true → (formula_mentions x f.0 || formula_mentions x g.0) ≡ false
  two_guards f g p e = let q = and_parts _ _ p in let r = and_parts _ _ e in or_from _ _ (f.1 q.0 r.0) (g.1 q.1 r.1)

  guard_layer : (y : Formula-F Guarding) → guard_step (map-Formula Formula Bool is_guard (inside y)) ≡ true → sorted_step scope (map-Formula Formula (List Sort → Bool) sorted (inside y)) [] ≡ true
      → formula_mentions_step x (map-Formula Formula Bool (formula_mentions x) (inside y)) ≡ false
  guard_layer Formula-F.True p e = refl
  guard_layer Formula-F.False p e = refl
  guard_layer (Formula-F.Eq t u) p e =
      let q = and_parts _ _ p in let parts = equal_parts (sort_in scope [] t) (sort_in scope [] u) e in or_from _ _ (term_off t q.0 parts.0.0 parts.0.1) (term_off u q.1 parts.1.0 parts.1.1)
  guard_layer (Formula-F.Less t u) p e = compared t u p e
  guard_layer (Formula-F.AtMost t u) p e = compared t u p e
  guard_layer (Formula-F.Not f) p e = f.1 p e
  guard_layer (Formula-F.And f g) p e = two_guards f g p e
  guard_layer (Formula-F.Or f g) p e = two_guards f g p e
  guard_layer (Formula-F.Imp f g) p e = two_guards f g p e
  guard_layer (Formula-F.All s f) p e = absurd (true≢false (sym p))
  guard_layer (Formula-F.Any s f) p e = absurd (true≢false (sym p))
  guard_layer (Formula-F.App h args) p e = absurd (true≢false (sym p))

  guard_at : (y : Formula-F Guarding) → GuardClaim (roll-Formula (inside y))
  guard_at y p e =
      fold-roll-Formula Bool (formula_mentions_step x) (inside y)
      ∙ guard_layer y (sym (fold-roll-Formula Bool guard_step (inside y)) ∙ p) (sym (λ i. fold-roll-Formula (List Sort → Bool) (sorted_step scope) (inside y) i []) ∙ e)

  guard_off : (g : Formula) → GuardClaim g
  guard_off = ind-Formula GuardClaim (λ u y is. subst (λ z. GuardClaim (roll-Formula z)) is (guard_at y))

-- a name of the scope is none of the new ones, and is found as before
kept_constant : (x : Name) (scope es inner : List Entry) → with_entries scope es ≡ Some inner → is_some (constant_sort scope x) ≡ true
    → (is_in x (map (λ e. e.name) es) ≡ false) × (is_some (constant_sort inner x) ≡ true)
kept_constant x scope es inner h con =
    let ext : Extends scope es inner = extends scope es inner h in
    in_or_off (is_in x (map (λ e. e.name) es))
    (λ i. absurd (true≢false (sym con ∙ ap (λ o. is_some (option_and_then (λ e. as_constant e.kind e.sort) o)) (ext.new x i).1)))
    (λ i. (i, ap (λ o. is_some (option_and_then (λ e. as_constant e.kind e.sort) o)) (ext.old x i) ∙ con))

module _ (brings : Name → List Entry) (x : Name) where
  -- it is no name that the block of an opened module brought
  abbrev Outside : List Name → Type 0
  Outside opened = (m : Name) → is_in m opened ≡ true → is_brought brings x m ≡ false

  one_more : (opened outside : List Name) (m : Name) → with_module opened m ≡ Some outside → is_brought brings x m ≡ false → Outside opened → Outside outside
  one_more opened outside m h free out =
      subst Outside (if_not (is_in m opened) (m ∷ opened) outside h).1
      (λ n i. in_or_off (bytes_eq n m) (λ j. subst (λ n. is_brought brings x n ≡ false) (sym (same_bytes n m j)) free) (λ j. out n (later (bytes_eq n m) (is_in n opened) j i)))
    where
      later : (a b : Bool) → a ≡ false → (a || b) ≡ true → b ≡ true
      later true b j i = absurd (true≢false j)
      later false b j i = i

  mutual
    pub code_off : (opened : List Name) (scope : List Entry) (c : Prog) → is_code c ≡ true → prog_scoped brings opened scope c ≡ true → Outside opened → is_some (constant_sort scope x) ≡ true
        → prog_mentions brings x c ≡ false
    code_off opened scope (Spec w) code ok out con = absurd (true≢false (sym code))
    code_off opened scope (Kid n) code ok out con = absurd (true≢false (sym code))
    code_off opened scope Skip code ok out con = refl
    code_off opened scope (Assign names terms) code ok out con =
        let r = and_parts _ _ ok in set_off x scope con names terms code (eqb-true (length names) (length terms) r.0) r.1
    code_off opened scope (Seq c d) code ok out con =
        let q = and_parts _ _ code in let r = and_parts _ _ ok in or_from _ _ (code_off opened scope c q.0 r.0 out con) (code_off opened scope d q.1 r.1 out con)
    code_off opened scope (If' shape arms) code ok out con = row_off opened scope arms code ok out con
    code_off opened scope (Do' variant shape arms) code ok out con =
        let q = and_parts _ _ code in let r = and_parts _ _ ok in let s = sort_of_some Int (sort_in scope [] variant) r.0 in
        or_from _ _ (term_off x scope con variant q.0 s.0 s.1) (row_off opened scope arms q.1 r.1 out con)
    code_off opened scope (Block y sort c) code ok out con =
        let r = some_tested (λ inner. prog_scoped brings opened inner c) (with_local scope y sort) ok in
        let e : Entry = record { name = y; sort = sort; kind = kind.Local } in
        let k = kept_constant x scope (e ∷ []) r.0 (one_entry scope e r.0 (local_entry scope y sort r.0 r.1)) con in
        or_from _ _ (or_parts (bytes_eq x y) false k.0).0 (code_off opened r.0 c code r.2 out k.1)
    code_off opened scope (Con pins c) code ok out con = absurd (true≢false (sym code))
    code_off opened scope (Call f args names) code ok out con =
        let r = and_parts _ _ ok in or_from _ _ (names_off x scope con names r.1) (terms_off x scope con args code r.0)
    code_off opened scope (OpCall m o args names) code ok out con =
        let q = and_parts _ _ ok in let r = and_parts _ _ q.1 in
        or_from _ _ (out m q.0) (or_from _ _ (names_off x scope con names r.1) (terms_off x scope con args code r.0))
    code_off opened scope (ModBlock m c) code ok out con =
        let q = some_tested (λ outside. if_some (λ inner. prog_scoped brings outside inner c) (with_entries scope (brings m))) (with_module opened m) ok in
        let r = some_tested (λ inner. prog_scoped brings q.0 inner c) (with_entries scope (brings m)) q.2 in
        let k = kept_constant x scope (brings m) r.0 r.1 con in
        or_from _ _ k.0 (code_off q.0 r.0 c code r.2 (one_more opened q.0 m q.1 k.0 out) k.1)

    row_off : {k : _} (opened : List Name) (scope : List Entry) (arms : Row_of-Arm k) → are_code arms ≡ true → row_scoped brings opened scope arms ≡ true → Outside opened → is_some (constant_sort scope x) ≡ true
        → row_mentions brings x arms ≡ false
    row_off opened scope end_of-Arm code ok out con = refl
    row_off opened scope (more_of-Arm g c rest) code ok out con =
        let q = and_parts _ _ code in let r = and_parts _ _ ok in let p = and_parts _ _ q.1 in let t = and_parts _ _ r.1 in
        or_from _ _ (guard_off x scope con g q.0 r.0) (or_from _ _ (code_off opened scope c p.0 t.0 out con) (row_off opened scope rest p.1 t.1 out con))
