-- What keeps the rules of sorts over names, by the definitions among entries, depends on these names and these predicates alone.
use Rattle.std.proofs.Common.{◌≡◌, ◌↔◌, ℕ, Bool, true, false, List, [], ◌∷◌, map, Option, Some, None, refl, sym, ap, ◌∙◌, subst, true≢false, ◌<ℤ◌, ◌≤ℤ◌}
use Rattle.std.specs.Prelude.{is_some}
use Rattle.std.proofs.lemmas.Bool.{and_parts}
use Rattle.rw_terms.specs.declared.term.Sort.{Sort}
use Rattle.rw_terms.specs.declared.term.Term.{Term}
use Rattle.rw_terms.specs.declared.term.Term.TheOpen.{Term-F}
use Rattle.rw_terms.specs.declared.term.Term.TheViews.{roll-Term}
use Rattle.rw_terms.specs.declared.term.Term.TheFolds.{map-Term, ind-Term, fold-roll-Term}
use Rattle.rw_terms.specs.declared.term.Formula.{Formula}
use Rattle.rw_terms.specs.declared.term.Formula.TheOpen.{Formula-F}
use Rattle.rw_terms.specs.declared.term.Formula.TheViews.{roll-Formula}
use Rattle.rw_terms.specs.declared.term.Formula.TheFolds.{map-Formula, ind-Formula, fold-roll-Formula}
use Rattle.rw_terms.specs.Formed.{is_sort}
use Rattle.rw_terms.specs.Rules.{of_ints, is_of, are_of, may_equal_of}
use Rattle.rw_terms.specs.State.{Value, whole}
use Rattle.rw_terms.specs.Value.{value_step, value_by}
use Rattle.rw_terms.specs.Truth.{Predicates, holds_by}
use Rattle.rw_terms.specs.Validity.{Each}
use Rattle.rw_terms.specs.Named.{Named}
use Rattle.rw_terms.proofs.Truths.{to_layer, from_layer, layer_truth}
use Rattle.rw_terms.proofs.Agree.{not_iff, and_iff, imp_iff, all_iff, along_both}
use Rattle.rw_goals.specs.declared.library.Item.{Item}
use Rattle.rw_goals.specs.Library.{parameters_of}
use Rattle.rw_goals.specs.Sorting.{takes, name_sort, sort_step, sort_of, keeps_step, keeps_rules}
use Rattle.rw_goals.proofs.Sorted.{Known, int_known, ints_known, read_known, put_known}

pub of_known : (s : Sort) (o : Option Sort) → is_of s o ≡ true → Known o
of_known s None e = absurd (true≢false (sym e))
of_known s (Some t) e = refl

pub all_known : (ss : List Sort) (os : List (Option Sort)) → are_of ss os ≡ true → Each Known os
all_known [] [] e = tt
all_known [] (o ∷ os) e = absurd (true≢false (sym e))
all_known (s ∷ ss) [] e = absurd (true≢false (sym e))
all_known (s ∷ ss) (o ∷ os) e = let p = and_parts (is_of s o) _ e in (of_known s o p.0, all_known ss os p.1)

equal_known : (o p : Option Sort) → may_equal_of o p ≡ true → Known o × Known p
equal_known None p e = absurd (true≢false (sym e))
equal_known (Some s) p e = (refl, of_known s p e)

taken : (o : Option (List Named)) (os : List (Option Sort)) → takes o os ≡ true → (is_some o ≡ true) × Each Known os
taken None os e = absurd (true≢false (sym e))
taken (Some params) os e = (refl, all_known (map (λ p. p.1) params) os e)

pub one_iff : {A B C : Type 0} → A ↔ B → B ↔ C → A ↔ C
one_iff e f = (λ a. f.0 (e.0 a), λ c. e.1 (f.1 c))

-- the two say the same of each predicate that is defined among the entries
abbrev pub SayTheSame : List Item → Predicates → Predicates → Type 0
SayTheSame entries says says' = (p : List ℕ) → is_some (parameters_of entries p) ≡ true → (vs : List Value) → says p vs ↔ says' p vs

module _ (names : List Named) (entries : List Item) (says says' : Predicates) (var init const var' init' const' : List ℕ → Value) where
  -- the two agree on each name
  abbrev pub Agree : Type 0
  Agree = (x : List ℕ) → Known (name_sort names x) → (var x ≡ var' x) × (init x ≡ init' x) × (const x ≡ const' x)

  module _ (agree : Agree) where
    module _ (sorts : List Sort) (b : List Value) where
      abbrev val : Term → Value
      val = value_by var init const b

      abbrev val' : Term → Value
      val' = value_by var' init' const' b

      abbrev sort : Term → Option Sort
      sort = sort_of names sorts

      abbrev Same : Term → Type 0
      Same t = Known (sort t) → val t ≡ val' t

      abbrev Layer : Type 0
      Layer = Term-F ((t : Term) × Same t)

      abbrev under : Layer → Term-F Term
      under = map-Term ((t : Term) × Same t) Term (λ e. e.0)

      abbrev here : Term-F Value → Value
      here = value_step var init const b

      abbrev there : Term-F Value → Value
      there = value_step var' init' const' b

      same_layer : (y : Layer) → Known (sort_step names sorts (map-Term Term (Option Sort) sort (under y))) →
          here (map-Term Term Value val (under y)) ≡ there (map-Term Term Value val' (under y))
      same_layer (Term-F.Lit n) k = refl
      same_layer (Term-F.Var x) k = (agree x k).0
      same_layer (Term-F.Init x) k = (agree x k).1
      same_layer (Term-F.Const x) k = (agree x k).2
      same_layer (Term-F.Bound j) k = refl
      same_layer (Term-F.Neg a) k = λ i. here (Term-F.Neg (a.1 (int_known _ k) i))
      same_layer (Term-F.Add a c) k = let p = ints_known (sort a.0) (sort c.0) k in λ i. here (Term-F.Add (a.1 p.0 i) (c.1 p.1 i))
      same_layer (Term-F.Sub a c) k = let p = ints_known (sort a.0) (sort c.0) k in λ i. here (Term-F.Sub (a.1 p.0 i) (c.1 p.1 i))
      same_layer (Term-F.Mul a c) k = let p = ints_known (sort a.0) (sort c.0) k in λ i. here (Term-F.Mul (a.1 p.0 i) (c.1 p.1 i))
      same_layer (Term-F.Div a c) k = let p = ints_known (sort a.0) (sort c.0) k in λ i. here (Term-F.Div (a.1 p.0 i) (c.1 p.1 i))
      same_layer (Term-F.Mod a c) k = let p = ints_known (sort a.0) (sort c.0) k in λ i. here (Term-F.Mod (a.1 p.0 i) (c.1 p.1 i))
      same_layer (Term-F.Read a c) k = let p = read_known (sort a.0) (sort c.0) k in λ i. here (Term-F.Read (a.1 p.0 i) (c.1 p.1 i))
      same_layer (Term-F.Put a c d) k = let p = put_known (sort a.0) (sort c.0) (sort d.0) k in λ i. here (Term-F.Put (a.1 p.0 i) (c.1 p.1 i) (d.1 p.2 i))
      same_layer (Term-F.Fun f args) k = absurd (true≢false (sym k))

      same_at : (y : Layer) → Same (roll-Term (under y))
      same_at y k =
          fold-roll-Term Value here (under y)
          ∙ same_layer y (sym (ap is_some (fold-roll-Term (Option Sort) (sort_step names sorts) (under y))) ∙ k)
          ∙ sym (fold-roll-Term Value there (under y))

      same_value : (t : Term) → Same t
      same_value = ind-Term Same (λ x y is. subst (λ z. Same (roll-Term z)) is (same_at y))

      same_values : (ts : List Term) → Each Known (map sort ts) → map val ts ≡ map val' ts
      same_values [] k = refl
      same_values (t ∷ ts) k = let p = same_value t k.0 in let q = same_values ts k.1 in λ i. p i ∷ q i

    module _ (say : SayTheSame entries says says') where
      abbrev truth : Formula → List Value → Type 0
      truth = holds_by says var init const

      abbrev truth' : Formula → List Value → Type 0
      truth' = holds_by says' var' init' const'

      abbrev keeps : Formula → List Sort → Bool
      keeps = keeps_rules names entries

      abbrev Kept : Formula → Type 0
      Kept f = (sorts : List Sort) → keeps f sorts ≡ true → (b : List Value) → truth f b ↔ truth' f b

      abbrev FormulaLayer : Type 0
      FormulaLayer = Formula-F ((f : Formula) × Kept f)

      abbrev inside : FormulaLayer → Formula-F Formula
      inside = map-Formula ((f : Formula) × Kept f) Formula (λ e. e.0)

      ints_same : (sorts : List Sort) (b : List Value) (t u : Term) → is_some (of_ints (sort_of names sorts t) (sort_of names sorts u)) ≡ true →
          (val sorts b t ≡ val' sorts b t) × (val sorts b u ≡ val' sorts b u)
      ints_same sorts b t u k = let p = ints_known (sort_of names sorts t) (sort_of names sorts u) k in (same_value sorts b t p.0, same_value sorts b u p.1)

      kept_layer : (y : FormulaLayer) (sorts : List Sort) → keeps_step names entries (map-Formula Formula (List Sort → Bool) keeps (inside y)) sorts ≡ true → (b : List Value) →
          layer_truth says var init const (inside y) b ↔ layer_truth says' var' init' const' (inside y) b
      kept_layer Formula-F.True sorts k b = (λ h. h, λ h. h)
      kept_layer Formula-F.False sorts k b = (λ h. h, λ h. h)
      kept_layer (Formula-F.Eq t u) sorts k b =
          let p = equal_known (sort_of names sorts t) (sort_of names sorts u) k in along_both (λ v w. v ≡ w) (same_value sorts b t p.0) (same_value sorts b u p.1)
      kept_layer (Formula-F.Less t u) sorts k b = let p = ints_same sorts b t u k in along_both (λ v w. whole v <ℤ whole w) p.0 p.1
      kept_layer (Formula-F.AtMost t u) sorts k b = let p = ints_same sorts b t u k in along_both (λ v w. whole v ≤ℤ whole w) p.0 p.1
      kept_layer (Formula-F.Not f) sorts k b = not_iff (f.1 sorts k b)
      kept_layer (Formula-F.And f g) sorts k b = let p = and_parts (keeps f.0 sorts) _ k in and_iff (f.1 sorts p.0 b) (g.1 sorts p.1 b)
      kept_layer (Formula-F.Or f g) sorts k b = let p = and_parts (keeps f.0 sorts) _ k in not_iff (and_iff (not_iff (f.1 sorts p.0 b)) (not_iff (g.1 sorts p.1 b)))
      kept_layer (Formula-F.Imp f g) sorts k b = let p = and_parts (keeps f.0 sorts) _ k in imp_iff (f.1 sorts p.0 b) (g.1 sorts p.1 b)
      kept_layer (Formula-F.All s f) sorts k b = let p = and_parts (is_sort s) _ k in all_iff _ _ s (λ w. f.1 (s ∷ sorts) p.1 (w ∷ b))
      kept_layer (Formula-F.Any s f) sorts k b = let p = and_parts (is_sort s) _ k in not_iff (all_iff _ _ s (λ w. not_iff (f.1 (s ∷ sorts) p.1 (w ∷ b))))
      kept_layer (Formula-F.App p args) sorts k b =
          let t = taken (parameters_of entries p) _ k in
          let e = same_values sorts b args t.1 in
          one_iff (say p t.0 (map (val sorts b) args)) (subst (says' p) e, subst (says' p) (sym e))

      kept_at : (y : FormulaLayer) → Kept (roll-Formula (inside y))
      kept_at y sorts k b =
          let both = kept_layer y sorts (sym (ap (λ g. g sorts) (fold-roll-Formula (List Sort → Bool) (keeps_step names entries) (inside y))) ∙ k) b in (
            λ h. from_layer says' _ _ _ (inside y) b (both.0 (to_layer says _ _ _ (inside y) b h)),
            λ h. from_layer says _ _ _ (inside y) b (both.1 (to_layer says' _ _ _ (inside y) b h)),
          )

      pub same_truth : (f : Formula) → Kept f
      same_truth = ind-Formula Kept (λ x y is. subst (λ z. Kept (roll-Formula z)) is (kept_at y))
