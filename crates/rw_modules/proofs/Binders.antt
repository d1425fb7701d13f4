-- Where a formula that keeps the rules of sorts holds depends on what stands in it and on its own binders, and on nothing else.
use Rattle.std.proofs.Common.{◌≡◌, ◌↔◌, ℕ, zero, suc, Bool, true, false, ◌&&◌, ◌||◌, is_some, List, [], ◌∷◌, map, find, Option, Some, None, refl, sym, ◌∙◌, subst, true≢false, ◌<ℤ◌, ◌≤ℤ◌}
use Rattle.std.specs.Prelude.{slice_get, bytes_eq}
use Rattle.std.proofs.lemmas.Bool.{and_parts}
use Rattle.std.proofs.lemmas.Slice.Eq.{bytes_eq-Decides}
use Rattle.rw_terms.specs.declared.scope.Entry.{Entry}
use Rattle.rw_terms.specs.declared.scope.Head.{Head}
use Rattle.rw_terms.specs.declared.term.Sort.{Sort}
use Rattle.rw_terms.specs.declared.term.Sort.TheVariants.{Int, Array}
use Rattle.rw_terms.specs.declared.term.Term.{Term}
use Rattle.rw_terms.specs.declared.term.Term.TheOpen.{Term-F}
use Rattle.rw_terms.specs.declared.term.Term.TheViews.{roll-Term}
use Rattle.rw_terms.specs.declared.term.Term.TheFolds.{map-Term, ind-Term, fold-roll-Term}
use Rattle.rw_terms.specs.declared.term.Formula.{Formula}
use Rattle.rw_terms.specs.declared.term.Formula.TheOpen.{Formula-F}
use Rattle.rw_terms.specs.declared.term.Formula.TheViews.{roll-Formula}
use Rattle.rw_terms.specs.declared.term.Formula.TheFolds.{map-Formula, ind-Formula, fold-roll-Formula}
use Rattle.rw_terms.specs.State.{Value, whole, given, HasSort}
use Rattle.rw_terms.specs.Value.{value_step}
use Rattle.rw_terms.specs.Formed.{is_sort, is_head}
use Rattle.rw_terms.specs.Rules.{of_ints, is_of, are_of, applies, sort_step, sort_in, keeps_step, keeps_rules}
use Rattle.rw_terms.specs.Truth.{Definition, predicates_of}
use Rattle.rw_terms.proofs.Truths.{to_layer, from_layer, layer_truth}
use Rattle.rw_terms.proofs.Agree.{not_iff, and_iff, imp_iff, along, along_both}
use Rattle.rw_subst.specs.declared.slot.Form.{Form}
use Rattle.rw_subst.specs.declared.slot.Form.TheVariants as form
use Rattle.rw_subst.specs.Looks.{Looks, value_of, holds_of}
use Rattle.rw_subst.specs.Stands.{stands_step, stands_in_term, stands_in_terms, formula_stands_step, stands_in}
use Rattle.rw_subst.proofs.WellSorted.{int_part, int_parts, read_parts, put_parts, compared_parts, equal_parts}

left_is_true : (a b : Bool) → a ≡ true → (a || b) ≡ true
left_is_true true b e = refl
left_is_true false b e = absurd (true≢false (sym e))

right_is_true : (a b : Bool) → b ≡ true → (a || b) ≡ true
right_is_true true b e = refl
right_is_true false b e = e

-- the values of binders of these sorts are the same
abbrev pub SameBinders : List Sort → List Value → List Value → Type 0
SameBinders [] b b' = Unit {0}
SameBinders (s ∷ ss) [] b' = ⊥
SameBinders (s ∷ ss) (v ∷ b) [] = ⊥
SameBinders (s ∷ ss) (v ∷ b) (w ∷ b') = (v ≡ w) × SameBinders ss b b'

same_binder : (binders : List Sort) (b b' : List Value) (k : ℕ) (s : Sort) → slice_get binders k ≡ Some s → SameBinders binders b b' → given (slice_get b k) ≡ given (slice_get b' k)
same_binder [] b b' k s e r = absurd (cc)
same_binder (t ∷ ts) [] b' k s e r = absurd r
same_binder (t ∷ ts) (v ∷ b) [] k s e r = absurd r
same_binder (t ∷ ts) (v ∷ b) (w ∷ b') zero s e r = r.0
same_binder (t ∷ ts) (v ∷ b) (w ∷ b') (suc k) s e r = same_binder ts b b' k s e r.1

module _ (scope : List Entry) (looks there : Looks) where
  abbrev Agree : (Form → List ℕ → Bool) → Type 0
  Agree test = (g : Form) (x : List ℕ) → test g x ≡ true → looks g x ≡ there g x

  left : (f g : Form → List ℕ → Bool) → Agree (λ h x. f h x || g h x) → Agree f
  left f g e h x m = e h x (left_is_true (f h x) (g h x) m)

  right : (f g : Form → List ℕ → Bool) → Agree (λ h x. f h x || g h x) → Agree g
  right f g e h x m = e h x (right_is_true (f h x) (g h x) m)

  itself : (x : List ℕ) → bytes_eq x x ≡ true
  itself x = (bytes_eq-Decides x x).1 refl

  module _ (binders : List Sort) (b b' : List Value) (same : SameBinders binders b b') where
    abbrev sort_of : Term → Option Sort
    sort_of = sort_in scope binders

    abbrev Claim : Term → Type 0
    Claim t = (s : Sort) → sort_of t ≡ Some s → Agree (λ g x. stands_in_term g x t) → value_of looks b t ≡ value_of there b' t

    abbrev Part : Type 0
    Part = (t : Term) × Claim t

    abbrev under : Term-F Part → Term-F Term
    under = map-Term Part Term (λ e. e.0)

    abbrev here : Term-F Value → Value
    here = value_step (looks form.Variable) (looks form.Initial) (looks form.Constant) b

    abbrev new : Term-F Value → Value
    new = value_step (there form.Variable) (there form.Initial) (there form.Constant) b'

    abbrev m : Part → Form → List ℕ → Bool
    m a = λ g x. stands_in_term g x a.0

    layer : (y : Term-F Part) (s : Sort) → sort_step scope binders (map-Term Term (Option Sort) sort_of (under y)) ≡ Some s
        → Agree (λ g x. stands_step g x (map-Term Term Bool (stands_in_term g x) (under y))) → here (map-Term Term Value (value_of looks b) (under y)) ≡ new (map-Term Term Value (value_of there b') (under y))
    layer (Term-F.Lit n) s e h = refl
    layer (Term-F.Var n) s e h = h form.Variable n (itself n)
    layer (Term-F.Init n) s e h = h form.Initial n (itself n)
    layer (Term-F.Const n) s e h = h form.Constant n (itself n)
    layer (Term-F.Bound k) s e h = same_binder binders b b' k s e same
    layer (Term-F.Neg a) s e h = λ i. here (Term-F.Neg (a.1 Int (int_part _ s e) h i))
    layer (Term-F.Add a d) s e h = let p = int_parts _ _ s e in λ i. here (Term-F.Add (a.1 Int p.0 (left (m a) (m d) h) i) (d.1 Int p.1 (right (m a) (m d) h) i))
    layer (Term-F.Sub a d) s e h = let p = int_parts _ _ s e in λ i. here (Term-F.Sub (a.1 Int p.0 (left (m a) (m d) h) i) (d.1 Int p.1 (right (m a) (m d) h) i))
    layer (Term-F.Mul a d) s e h = let p = int_parts _ _ s e in λ i. here (Term-F.Mul (a.1 Int p.0 (left (m a) (m d) h) i) (d.1 Int p.1 (right (m a) (m d) h) i))
    layer (Term-F.Div a d) s e h = let p = int_parts _ _ s e in λ i. here (Term-F.Div (a.1 Int p.0 (left (m a) (m d) h) i) (d.1 Int p.1 (right (m a) (m d) h) i))
    layer (Term-F.Mod a d) s e h = let p = int_parts _ _ s e in λ i. here (Term-F.Mod (a.1 Int p.0 (left (m a) (m d) h) i) (d.1 Int p.1 (right (m a) (m d) h) i))
    layer (Term-F.Read a d) s e h =
        let p = read_parts _ _ s e in λ i. here (Term-F.Read (a.1 (Array p.length) p.array (left (m a) (m d) h) i) (d.1 Int p.index (right (m a) (m d) h) i))
    layer (Term-F.Put a d z) s e h =
        let p = put_parts _ _ _ s e in
        let rest = right (m a) (λ g x. m d g x || m z g x) h in
        λ i. here (Term-F.Put (a.1 (Array p.length) p.array (left (m a) (λ g x. m d g x || m z g x) h) i) (d.1 Int p.index (left (m d) (m z) rest) i) (z.1 Int p.item (right (m d) (m z) rest) i))
    layer (Term-F.Fun f args) s e h = absurd (cc)

    at : (y : Term-F Part) → Claim (roll-Term (under y))
    at y s e h =
        fold-roll-Term Value here (under y)
        ∙ layer y s (sym (fold-roll-Term (Option Sort) (sort_step scope binders) (under y)) ∙ e) (λ g x k. h g x (fold-roll-Term Bool (stands_step g x) (under y) ∙ k))
        ∙ sym (fold-roll-Term Value new (under y))

    term_same : (t : Term) → Claim t
    term_same = ind-Term Claim (λ u y is. subst (λ z. Claim (roll-Term z)) is (at y))

    has_sort : (s : Sort) (o : Option Sort) → is_of s o ≡ true → (t : Sort) × (o ≡ Some t)
    has_sort s None e = absurd (true≢false (sym e))
    has_sort s (Some t) e = (t, refl)

    terms_same : (ss : List Sort) (ts : List Term) → are_of ss (map sort_of ts) ≡ true → Agree (λ g x. stands_in_terms g x ts) → map (value_of looks b) ts ≡ map (value_of there b') ts
    terms_same ss [] e h = refl
    terms_same [] (t ∷ ts) e h = absurd (true≢false (sym e))
    terms_same (s ∷ ss) (t ∷ ts) e h =
        let is = has_sort s (sort_of t) (and_parts (is_of s (sort_of t)) (are_of ss (map sort_of ts)) e).0 in
        let p = term_same t is.0 is.1 (left (λ g x. stands_in_term g x t) (λ g x. stands_in_terms g x ts) h) in
        let q = terms_same ss ts (and_parts (is_of s (sort_of t)) (are_of ss (map sort_of ts)) e).1 (right (λ g x. stands_in_term g x t) (λ g x. stands_in_terms g x ts) h) in
        λ i. p i ∷ q i

    args_same : (o : Option Head) (ts : List Term) → applies o (map sort_of ts) ≡ true → Agree (λ g x. stands_in_terms g x ts) → map (value_of looks b) ts ≡ map (value_of there b') ts
    args_same None ts e h = absurd (true≢false (sym e))
    args_same (Some head) ts e h = terms_same head.sorts ts e h

  module _ (heads : List Head) (definitions : List Definition) where
    abbrev keeps : Formula → List Sort → Bool
    keeps = keeps_rules scope heads

    abbrev truth : Formula → List Value → Type 0
    truth = holds_of definitions looks

    abbrev truth' : Formula → List Value → Type 0
    truth' = holds_of definitions there

    abbrev Kept : Formula → Type 0
    Kept f = (binders : List Sort) → keeps f binders ≡ true → Agree (λ g x. stands_in g x f) → (b b' : List Value) → SameBinders binders b b' → truth f b ↔ truth' f b'

    abbrev Layer : Type 0
    Layer = Formula-F ((f : Formula) × Kept f)

    abbrev inside : Layer → Formula-F Formula
    inside = map-Formula ((f : Formula) × Kept f) Formula (λ e. e.0)

    abbrev n : (f : Formula) × Kept f → Form → List ℕ → Bool
    n f = λ g x. stands_in g x f.0

    abbrev old_layer : Formula-F Formula → List Value → Type 0
    old_layer = layer_truth (predicates_of definitions) (looks form.Variable) (looks form.Initial) (looks form.Constant)

    abbrev new_layer : Formula-F Formula → List Value → Type 0
    new_layer = layer_truth (predicates_of definitions) (there form.Variable) (there form.Initial) (there form.Constant)

    both : (f k : (f : Formula) × Kept f) (binders : List Sort) → (keeps f.0 binders && keeps k.0 binders) ≡ true → Agree (λ g x. n f g x || n k g x) → (b b' : List Value) → SameBinders binders b b'
        → (truth f.0 b ↔ truth' f.0 b') × (truth k.0 b ↔ truth' k.0 b')
    both f k binders e h b b' r = (
      f.1 binders (and_parts (keeps f.0 binders) (keeps k.0 binders) e).0 (left (n f) (n k) h) b b' r,
      k.1 binders (and_parts (keeps f.0 binders) (keeps k.0 binders) e).1 (right (n f) (n k) h) b b' r,
    )

    each_iff : (P Q : Value → Type 0) (s : Sort) → ((v : Value) → P v ↔ Q v) → ((v : Value) → HasSort v s → P v) ↔ ((v : Value) → HasSort v s → Q v)
    each_iff P Q s e = (λ h v k. (e v).0 (h v k), λ h v k. (e v).1 (h v k))

    compared : (binders : List Sort) (t u : Term) → is_some (of_ints (sort_in scope binders t) (sort_in scope binders u)) ≡ true → Agree (λ g x. stands_in_term g x t || stands_in_term g x u) → (b b' : List Value) → SameBinders binders b b'
        → (value_of looks b t ≡ value_of there b' t) × (value_of looks b u ≡ value_of there b' u)
    compared binders t u e h b b' r =
        let p = compared_parts _ _ e in
        (term_same binders b b' r t Int p.0 (left (λ g x. stands_in_term g x t) (λ g x. stands_in_term g x u) h), term_same binders b b' r u Int p.1 (right (λ g x. stands_in_term g x t) (λ g x. stands_in_term g x u) h))

    formula_layer : (y : Layer) (binders : List Sort) → keeps_step scope heads (map-Formula Formula (List Sort → Bool) keeps (inside y)) binders ≡ true
        → Agree (λ g x. formula_stands_step g x (map-Formula Formula Bool (stands_in g x) (inside y))) → (b b' : List Value) → SameBinders binders b b' → old_layer (inside y) b ↔ new_layer (inside y) b'
    formula_layer Formula-F.True binders e h b b' r = (λ k. k, λ k. k)
    formula_layer Formula-F.False binders e h b b' r = (λ k. k, λ k. k)
    formula_layer (Formula-F.Eq t u) binders e h b b' r =
        let p = equal_parts _ _ e in
        along_both (λ v w. v ≡ w) (term_same binders b b' r t p.0.0 p.0.1 (left (λ g x. stands_in_term g x t) (λ g x. stands_in_term g x u) h)) (term_same binders b b' r u p.1.0 p.1.1 (right (λ g x. stands_in_term g x t) (λ g x. stands_in_term g x u) h))
    formula_layer (Formula-F.Less t u) binders e h b b' r = let p = compared binders t u e h b b' r in along_both (λ v w. whole v <ℤ whole w) p.0 p.1
    formula_layer (Formula-F.AtMost t u) binders e h b b' r = let p = compared binders t u e h b b' r in along_both (λ v w. whole v ≤ℤ whole w) p.0 p.1
    formula_layer (Formula-F.Not f) binders e h b b' r = not_iff (f.1 binders e h b b' r)
    formula_layer (Formula-F.And f k) binders e h b b' r = let p = both f k binders e h b b' r in and_iff p.0 p.1
    formula_layer (Formula-F.Or f k) binders e h b b' r = let p = both f k binders e h b b' r in not_iff (and_iff (not_iff p.0) (not_iff p.1))
    formula_layer (Formula-F.Imp f k) binders e h b b' r = let p = both f k binders e h b b' r in imp_iff p.0 p.1
    formula_layer (Formula-F.All s f) binders e h b b' r = each_iff _ _ s (λ v. f.1 (s ∷ binders) (and_parts (is_sort s) (keeps f.0 (s ∷ binders)) e).1 h (v ∷ b) (v ∷ b') (refl, r))
    formula_layer (Formula-F.Any s f) binders e h b b' r = not_iff (each_iff _ _ s (λ v. not_iff (f.1 (s ∷ binders) (and_parts (is_sort s) (keeps f.0 (s ∷ binders)) e).1 h (v ∷ b) (v ∷ b') (refl, r))))
    formula_layer (Formula-F.App q args) binders e h b b' r = along (predicates_of definitions q) (args_same binders b b' r (find (is_head q) heads) args e h)

    formula_at : (y : Layer) → Kept (roll-Formula (inside y))
    formula_at y binders e h b b' r =
        let both = formula_layer y binders (sym (λ i. fold-roll-Formula (List Sort → Bool) (keeps_step scope heads) (inside y) i binders) ∙ e) (λ g x k. h g x (fold-roll-Formula Bool (formula_stands_step g x) (inside y) ∙ k)) b b' r in (
          λ k. from_layer (predicates_of definitions) (there form.Variable) (there form.Initial) (there form.Constant) (inside y) b' (both.0 (to_layer (predicates_of definitions) (looks form.Variable) (looks form.Initial) (looks form.Constant) (inside y) b k)),
          λ k. from_layer (predicates_of definitions) (looks form.Variable) (looks form.Initial) (looks form.Constant) (inside y) b (both.1 (to_layer (predicates_of definitions) (there form.Variable) (there form.Initial) (there form.Constant) (inside y) b' k)),
        )

    pub formula_same : (f : Formula) → Kept f
    formula_same = ind-Formula Kept (λ u y is. subst (λ z. Kept (roll-Formula z)) is (formula_at y))

    -- with no binders of its own, whatever the binders are
    pub formed_same : (f : Formula) → keeps f [] ≡ true → Agree (λ g x. stands_in g x f) → (b b' : List Value) → truth f b ↔ truth' f b'
    formed_same f e h b b' = formula_same f [] e h b b' tt
