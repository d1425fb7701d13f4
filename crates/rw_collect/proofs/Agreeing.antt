-- A formula that keeps the rules of sorts keeps them by other rules that say the same of the names and the predicates that stand in it.
use Rattle.std.proofs.Common.{◌≡◌, ℕ, Bool, true, false, ◌||◌, ◌&&◌, List, [], ◌∷◌, map, find, Option, Some, None, refl, sym, ap, ◌∙◌, subst, true≢false}
use Rattle.std.proofs.lemmas.Bool.{and_from, and_parts, or_parts}
use Rattle.std.specs.Prelude.{bytes_eq, is_some, slice_get}
use Rattle.rw_terms.specs.declared.scope.Entry.{Entry}
use Rattle.rw_terms.specs.declared.scope.Head.{Head}
use Rattle.rw_terms.specs.declared.term.Sort.{Sort}
use Rattle.rw_terms.specs.declared.term.Term.{Term}
use Rattle.rw_terms.specs.declared.term.Term.TheOpen.{Term-F}
use Rattle.rw_terms.specs.declared.term.Term.TheViews.{roll-Term}
use Rattle.rw_terms.specs.declared.term.Term.TheFolds.{fold-Term, map-Term, ind-Term, fold-roll-Term}
use Rattle.rw_terms.specs.declared.term.Formula.{Formula}
use Rattle.rw_terms.specs.declared.term.Formula.TheOpen.{Formula-F}
use Rattle.rw_terms.specs.declared.term.Formula.TheViews.{roll-Formula}
use Rattle.rw_terms.specs.declared.term.Formula.TheFolds.{fold-Formula, map-Formula, ind-Formula, fold-roll-Formula}
use Rattle.rw_terms.specs.Mentions.{mentions_step, mentions, terms_mention, formula_mentions_step, formula_mentions}
use Rattle.rw_terms.specs.Sorts.{variable_sort, constant_sort, is_literal}
use Rattle.rw_terms.specs.Named.{Named}
use Rattle.rw_terms.specs.Formed.{is_sort, is_head}
use Rattle.rw_terms.specs.Rules.{of_literal, of_int, of_ints, of_read, of_put, is_of, are_of, may_equal_of, applies, sort_step, sort_in, keeps_step, keeps_rules}
use Rattle.rw_goals.proofs.Sorted.{Known, int_known, ints_known, read_known, put_known}
use Rattle.rw_faults.specs.Faults.{unknown_predicate, predicate_step, predicate_unknown_in}
use Rattle.rw_goals.specs.declared.library.Item.{Item}
use Rattle.rw_goals.specs.Library.{parameters_of}
use Rattle.rw_goals.specs.Sorting as goals
use Rattle.rw_library.specs.Naming.{applies_step, applies as stands}
use Rattle.rw_collect.proofs.Bits.{first_none}

of_known : (s : Sort) (o : Option Sort) → is_of s o ≡ true → Known o
of_known s None e = absurd (true≢false (sym e))
of_known s (Some t) e = refl

equal_known : (o p : Option Sort) → may_equal_of o p ≡ true → Known o × Known p
equal_known None p e = absurd (true≢false (sym e))
equal_known (Some s) p e = (refl, of_known s p e)

-- where it is asked, a test fails
abbrev pub Not : Bool → Bool → Type 0
Not asked b = asked ≡ true → b ≡ false

pub not_left : (asked a b : Bool) → Not asked (a || b) → Not asked a
not_left asked a b n on = (or_parts a b (n on)).0

pub not_right : (asked a b : Bool) → Not asked (a || b) → Not asked b
not_right asked a b n on = (or_parts a b (n on)).1

-- the sort of a part by the sorts of variables and of constants
abbrev pub by_names : (List ℕ → Option Sort) → (List ℕ → Option Sort) → List Sort → Term-F (Option Sort) → Option Sort
by_names v c binders (Term-F.Lit n) = of_literal (is_literal n)
by_names v c binders (Term-F.Var x) = v x
by_names v c binders (Term-F.Init x) = v x
by_names v c binders (Term-F.Const x) = c x
by_names v c binders (Term-F.Bound k) = slice_get binders k
by_names v c binders (Term-F.Neg a) = of_int a
by_names v c binders (Term-F.Add a b) = of_ints a b
by_names v c binders (Term-F.Sub a b) = of_ints a b
by_names v c binders (Term-F.Mul a b) = of_ints a b
by_names v c binders (Term-F.Div a b) = of_ints a b
by_names v c binders (Term-F.Mod a b) = of_ints a b
by_names v c binders (Term-F.Read a i) = of_read a i
by_names v c binders (Term-F.Put a i e) = of_put a i e
by_names v c binders (Term-F.Fun f args) = None

-- whether a formula keeps the rules, by the sorts of terms and by what predicates take
abbrev pub by_sorts : (List Sort → Term → Option Sort) → (List ℕ → List (Option Sort) → Bool) → Formula-F (List Sort → Bool) → List Sort → Bool
by_sorts sort take Formula-F.True binders = true
by_sorts sort take Formula-F.False binders = true
by_sorts sort take (Formula-F.Eq t u) binders = may_equal_of (sort binders t) (sort binders u)
by_sorts sort take (Formula-F.Less t u) binders = is_some (of_ints (sort binders t) (sort binders u))
by_sorts sort take (Formula-F.AtMost t u) binders = is_some (of_ints (sort binders t) (sort binders u))
by_sorts sort take (Formula-F.Not f) binders = f binders
by_sorts sort take (Formula-F.And f g) binders = f binders && g binders
by_sorts sort take (Formula-F.Or f g) binders = f binders && g binders
by_sorts sort take (Formula-F.Imp f g) binders = f binders && g binders
by_sorts sort take (Formula-F.All s f) binders = is_sort s && f (s ∷ binders)
by_sorts sort take (Formula-F.Any s f) binders = is_sort s && f (s ∷ binders)
by_sorts sort take (Formula-F.App p args) binders = take p (map (sort binders) args)

-- of the parts of a formula, and of the predicate of an application
abbrev pub OfParts : (Formula → Type 0) → (List ℕ → Type 0) → Formula-F Formula → Type 0
OfParts Ok Allowed Formula-F.True = Unit {0}
OfParts Ok Allowed Formula-F.False = Unit {0}
OfParts Ok Allowed (Formula-F.Eq t u) = Unit {0}
OfParts Ok Allowed (Formula-F.Less t u) = Unit {0}
OfParts Ok Allowed (Formula-F.AtMost t u) = Unit {0}
OfParts Ok Allowed (Formula-F.Not f) = Ok f
OfParts Ok Allowed (Formula-F.And f g) = Ok f × Ok g
OfParts Ok Allowed (Formula-F.Or f g) = Ok f × Ok g
OfParts Ok Allowed (Formula-F.Imp f g) = Ok f × Ok g
OfParts Ok Allowed (Formula-F.All s f) = Ok f
OfParts Ok Allowed (Formula-F.Any s f) = Ok f
OfParts Ok Allowed (Formula-F.App q ts) = Allowed q

-- what is so of a formula is so of its parts, and the predicates in it are allowed
abbrev pub Opens : (Formula → Type 0) → (List ℕ → Type 0) → Type 0
Opens Ok Allowed = (y : Formula-F Formula) → Ok (roll-Formula y) → OfParts Ok Allowed y

-- the rules of a scope and of heads
module _ (scope : List Entry) (heads : List Head) where
  -- the other rules, which know the names but one that is left out, if one is, and the predicates that are allowed
  pub record Others (v c : List ℕ → Option Sort) (take : List ℕ → List (Option Sort) → Bool) (less : Bool) (x : List ℕ) (Allowed : List ℕ → Type 0) : Type 0 where
    pub variables : (y : List ℕ) → Not less (bytes_eq x y) → Known (variable_sort scope y) → v y ≡ variable_sort scope y
    pub constants : (y : List ℕ) → Not less (bytes_eq x y) → Known (constant_sort scope y) → c y ≡ constant_sort scope y
    pub predicates : (q : List ℕ) (sorts : List (Option Sort)) → Allowed q → applies (find (is_head q) heads) sorts ≡ true → take q sorts ≡ true

  module _ (v c : List ℕ → Option Sort) (take : List ℕ → List (Option Sort) → Bool) (less : Bool) (x : List ℕ) (Allowed : List ℕ → Type 0) (others : Others v c take less x Allowed)
      (step : List Sort → Term-F (Option Sort) → Option Sort) (same_step : (b : List Sort) (y : Term-F (Option Sort)) → step b y ≡ by_names v c b y) where
    module _ (b : List Sort) where
      abbrev old : Term → Option Sort
      old = sort_in scope b

      abbrev new : Term → Option Sort
      new = fold-Term (Option Sort) (step b)

      abbrev Same : Term → Type 0
      Same t = Not less (mentions x t) → Known (old t) → new t ≡ old t

      abbrev Layer : Type 0
      Layer = Term-F ((t : Term) × Same t)

      abbrev under : Layer → Term-F Term
      under = map-Term ((t : Term) × Same t) Term (λ e. e.0)

      abbrev goes : Term-F (Option Sort) → Option Sort
      goes = by_names v c b

      abbrev Free : Layer → Type 0
      Free y = Not less (mentions_step x (map-Term Term Bool (mentions x) (under y)))

      one : (a : (t : Term) × Same t) → Not less (mentions x a.0) → Known (of_int (old a.0)) → of_int (new a.0) ≡ of_int (old a.0)
      one a n k = ap of_int (a.1 n (int_known (old a.0) k))

      two : (a d : (t : Term) × Same t) → Not less (mentions x a.0 || mentions x d.0) → Known (of_ints (old a.0) (old d.0)) → of_ints (new a.0) (new d.0) ≡ of_ints (old a.0) (old d.0)
      two a d n k =
          let parts = ints_known (old a.0) (old d.0) k in
          λ i. of_ints (a.1 (not_left less (mentions x a.0) (mentions x d.0) n) parts.0 i) (d.1 (not_right less (mentions x a.0) (mentions x d.0) n) parts.1 i)

      same_layer : (y : Layer) → Free y → Known (sort_step scope b (map-Term Term (Option Sort) old (under y))) →
          goes (map-Term Term (Option Sort) new (under y)) ≡ sort_step scope b (map-Term Term (Option Sort) old (under y))
      same_layer (Term-F.Lit m) n k = refl
      same_layer (Term-F.Var y) n k = others.variables y n k
      same_layer (Term-F.Init y) n k = others.variables y n k
      same_layer (Term-F.Const y) n k = others.constants y n k
      same_layer (Term-F.Bound j) n k = refl
      same_layer (Term-F.Neg a) n k = one a n k
      same_layer (Term-F.Add a d) n k = two a d n k
      same_layer (Term-F.Sub a d) n k = two a d n k
      same_layer (Term-F.Mul a d) n k = two a d n k
      same_layer (Term-F.Div a d) n k = two a d n k
      same_layer (Term-F.Mod a d) n k = two a d n k
      same_layer (Term-F.Read a d) n k =
          let parts = read_known (old a.0) (old d.0) k in
          λ i. of_read (a.1 (not_left less (mentions x a.0) (mentions x d.0) n) parts.0 i) (d.1 (not_right less (mentions x a.0) (mentions x d.0) n) parts.1 i)
      same_layer (Term-F.Put a d e) n k =
          let parts = put_known (old a.0) (old d.0) (old e.0) k in
          let first = not_left less (mentions x a.0 || mentions x d.0) (mentions x e.0) n in
          λ i. of_put (a.1 (not_left less (mentions x a.0) (mentions x d.0) first) parts.0 i) (d.1 (not_right less (mentions x a.0) (mentions x d.0) first) parts.1 i)
          (e.1 (not_right less (mentions x a.0 || mentions x d.0) (mentions x e.0) n) parts.2 i)
      same_layer (Term-F.Fun f args) n k = absurd (true≢false (sym k))

      same_at : (y : Layer) → Same (roll-Term (under y))
      same_at y n k =
          let is = fold-roll-Term (Option Sort) (sort_step scope b) (under y) in
          fold-roll-Term (Option Sort) (step b) (under y)
          ∙ same_step b (map-Term Term (Option Sort) new (under y))
          ∙ same_layer y (λ on. sym (fold-roll-Term Bool (mentions_step x) (under y)) ∙ n on) (sym (ap is_some is) ∙ k)
          ∙ sym is

      same_sort_of : (t : Term) → Same t
      same_sort_of = ind-Term Same (λ u y is. subst (λ z. Same (roll-Term z)) is (same_at y))

      same_sorts_of : (ss : List Sort) (ts : List Term) → Not less (terms_mention x ts) → are_of ss (map old ts) ≡ true → map new ts ≡ map old ts
      same_sorts_of ss [] n e = refl
      same_sorts_of [] (t ∷ ts) n e = absurd (true≢false (sym e))
      same_sorts_of (s ∷ ss) (t ∷ ts) n e =
          let parts = and_parts (is_of s (old t)) (are_of ss (map old ts)) e in
          let here = same_sort_of t (not_left less (mentions x t) (terms_mention x ts) n) (of_known s (old t) parts.0) in
          let rest = same_sorts_of ss ts (not_right less (mentions x t) (terms_mention x ts) n) parts.1 in
          λ i. here i ∷ rest i

      applied : (o : Option Head) (ts : List Term) → Not less (terms_mention x ts) → applies o (map old ts) ≡ true → map new ts ≡ map old ts
      applied None ts n e = absurd (true≢false (sym e))
      applied (Some head) ts n e = same_sorts_of head.sorts ts n e

      equal : (t u : Term) → Not less (mentions x t || mentions x u) → may_equal_of (old t) (old u) ≡ true → may_equal_of (new t) (new u) ≡ true
      equal t u n e =
          let parts = equal_known (old t) (old u) e in
          (λ i. may_equal_of (same_sort_of t (not_left less (mentions x t) (mentions x u) n) parts.0 i) (same_sort_of u (not_right less (mentions x t) (mentions x u) n) parts.1 i)) ∙ e

      compared : (t u : Term) → Not less (mentions x t || mentions x u) → is_some (of_ints (old t) (old u)) ≡ true → is_some (of_ints (new t) (new u)) ≡ true
      compared t u n e =
          let parts = ints_known (old t) (old u) e in
          (λ i. is_some (of_ints (same_sort_of t (not_left less (mentions x t) (mentions x u) n) parts.0 i) (same_sort_of u (not_right less (mentions x t) (mentions x u) n) parts.1 i))) ∙ e

    module _ (Ok : Formula → Type 0) (opens : Opens Ok Allowed) (keep : Formula-F (List Sort → Bool) → List Sort → Bool) (same_keep : (y : Formula-F (List Sort → Bool)) (b : List Sort) → by_sorts new take y b ≡ true → keep y b ≡ true) where
      abbrev before : Formula → List Sort → Bool
      before = keeps_rules scope heads

      abbrev after : Formula → List Sort → Bool
      after = fold-Formula (List Sort → Bool) keep

      abbrev Kept : Formula → Type 0
      Kept f = Not less (formula_mentions x f) → Ok f → (b : List Sort) → before f b ≡ true → after f b ≡ true

      abbrev Part : Type 0
      Part = (f : Formula) × Kept f

      abbrev inside : Formula-F Part → Formula-F Formula
      inside = map-Formula Part Formula (λ e. e.0)

      joined : (f g : Part) → Not less (formula_mentions x f.0 || formula_mentions x g.0) → Ok f.0 × Ok g.0 → (b : List Sort) → (before f.0 b && before g.0 b) ≡ true → (after f.0 b && after g.0 b) ≡ true
      joined f g n m b e =
          let parts = and_parts (before f.0 b) (before g.0 b) e in
          and_from (after f.0 b) (after g.0 b)
          (f.1 (not_left less (formula_mentions x f.0) (formula_mentions x g.0) n) m.0 b parts.0)
          (g.1 (not_right less (formula_mentions x f.0) (formula_mentions x g.0) n) m.1 b parts.1)

      bound : (s : Sort) (f : Part) → Not less (formula_mentions x f.0) → Ok f.0 → (b : List Sort) → (is_sort s && before f.0 (s ∷ b)) ≡ true → (is_sort s && after f.0 (s ∷ b)) ≡ true
      bound s f n m b e = let parts = and_parts (is_sort s) (before f.0 (s ∷ b)) e in and_from (is_sort s) (after f.0 (s ∷ b)) parts.0 (f.1 n m (s ∷ b) parts.1)

      kept_layer : (y : Formula-F Part) → Not less (formula_mentions_step x (map-Formula Formula Bool (formula_mentions x) (inside y))) → OfParts Ok Allowed (inside y) → (b : List Sort) →
          keeps_step scope heads (map-Formula Formula (List Sort → Bool) before (inside y)) b ≡ true → by_sorts new take (map-Formula Formula (List Sort → Bool) after (inside y)) b ≡ true
      kept_layer Formula-F.True n m b e = refl
      kept_layer Formula-F.False n m b e = refl
      kept_layer (Formula-F.Eq t u) n m b e = equal b t u n e
      kept_layer (Formula-F.Less t u) n m b e = compared b t u n e
      kept_layer (Formula-F.AtMost t u) n m b e = compared b t u n e
      kept_layer (Formula-F.Not f) n m b e = f.1 n m b e
      kept_layer (Formula-F.And f g) n m b e = joined f g n m b e
      kept_layer (Formula-F.Or f g) n m b e = joined f g n m b e
      kept_layer (Formula-F.Imp f g) n m b e = joined f g n m b e
      kept_layer (Formula-F.All s f) n m b e = bound s f n m b e
      kept_layer (Formula-F.Any s f) n m b e = bound s f n m b e
      kept_layer (Formula-F.App q ts) n m b e = ap (take q) (applied b (find (is_head q) heads) ts n e) ∙ others.predicates q (map (old b) ts) m e

      kept_at : (y : Formula-F Part) → Kept (roll-Formula (inside y))
      kept_at y n m b e =
          (λ i. fold-roll-Formula (List Sort → Bool) keep (inside y) i b)
          ∙ same_keep (map-Formula Formula (List Sort → Bool) after (inside y)) b
          (kept_layer y (λ on. sym (fold-roll-Formula Bool (formula_mentions_step x) (inside y)) ∙ n on) (opens (inside y) m) b
          (sym (λ i. fold-roll-Formula (List Sort → Bool) (keeps_step scope heads) (inside y) i b) ∙ e))

      pub kept : (f : Formula) → Kept f
      kept = ind-Formula Kept (λ u y is. subst (λ z. Kept (roll-Formula z)) is (kept_at y))

-- the rules of another scope and of other heads
module _ (scope : List Entry) where
  scope_step : (b : List Sort) (y : Term-F (Option Sort)) → sort_step scope b y ≡ by_names (variable_sort scope) (constant_sort scope) b y
  scope_step b (Term-F.Lit n) = refl
  scope_step b (Term-F.Var x) = refl
  scope_step b (Term-F.Init x) = refl
  scope_step b (Term-F.Const x) = refl
  scope_step b (Term-F.Bound k) = refl
  scope_step b (Term-F.Neg a) = refl
  scope_step b (Term-F.Add a d) = refl
  scope_step b (Term-F.Sub a d) = refl
  scope_step b (Term-F.Mul a d) = refl
  scope_step b (Term-F.Div a d) = refl
  scope_step b (Term-F.Mod a d) = refl
  scope_step b (Term-F.Read a d) = refl
  scope_step b (Term-F.Put a d e) = refl
  scope_step b (Term-F.Fun f args) = refl

  module _ (heads : List Head) where
    abbrev pub take_heads : List ℕ → List (Option Sort) → Bool
    take_heads q sorts = applies (find (is_head q) heads) sorts

    heads_keep : (y : Formula-F (List Sort → Bool)) (b : List Sort) → by_sorts (sort_in scope) take_heads y b ≡ true → keeps_step scope heads y b ≡ true
    heads_keep Formula-F.True b e = e
    heads_keep Formula-F.False b e = e
    heads_keep (Formula-F.Eq t u) b e = e
    heads_keep (Formula-F.Less t u) b e = e
    heads_keep (Formula-F.AtMost t u) b e = e
    heads_keep (Formula-F.Not f) b e = e
    heads_keep (Formula-F.And f g) b e = e
    heads_keep (Formula-F.Or f g) b e = e
    heads_keep (Formula-F.Imp f g) b e = e
    heads_keep (Formula-F.All s f) b e = e
    heads_keep (Formula-F.Any s f) b e = e
    heads_keep (Formula-F.App q ts) b e = e

pub keeps_otherwise : (scope inner : List Entry) (heads more : List Head) (less : Bool) (x : List ℕ) (Allowed : List ℕ → Type 0) →
    Others scope heads (variable_sort inner) (constant_sort inner) (take_heads inner more) less x Allowed → (Ok : Formula → Type 0) → Opens Ok Allowed →
    (f : Formula) → Not less (formula_mentions x f) → Ok f → keeps_rules scope heads f [] ≡ true → keeps_rules inner more f [] ≡ true
keeps_otherwise scope inner heads more less x Allowed others Ok opens f n m e =
    kept scope heads (variable_sort inner) (constant_sort inner) (take_heads inner more) less x Allowed others (sort_step inner) (scope_step inner) Ok opens (keeps_step inner more) (heads_keep inner more) f n m [] e

-- the rules of a goal's names and of entries
module _ (names : List Named) where
  names_step : (b : List Sort) (y : Term-F (Option Sort)) → goals.sort_step names b y ≡ by_names (goals.name_sort names) (goals.name_sort names) b y
  names_step b (Term-F.Lit n) = refl
  names_step b (Term-F.Var x) = refl
  names_step b (Term-F.Init x) = refl
  names_step b (Term-F.Const x) = refl
  names_step b (Term-F.Bound k) = refl
  names_step b (Term-F.Neg a) = refl
  names_step b (Term-F.Add a d) = refl
  names_step b (Term-F.Sub a d) = refl
  names_step b (Term-F.Mul a d) = refl
  names_step b (Term-F.Div a d) = refl
  names_step b (Term-F.Mod a d) = refl
  names_step b (Term-F.Read a d) = refl
  names_step b (Term-F.Put a d e) = refl
  names_step b (Term-F.Fun f args) = refl

  module _ (entries : List Item) where
    abbrev pub take_entries : List ℕ → List (Option Sort) → Bool
    take_entries q sorts = goals.takes (parameters_of entries q) sorts

    entries_keep : (y : Formula-F (List Sort → Bool)) (b : List Sort) → by_sorts (goals.sort_of names) take_entries y b ≡ true → goals.keeps_step names entries y b ≡ true
    entries_keep Formula-F.True b e = e
    entries_keep Formula-F.False b e = e
    entries_keep (Formula-F.Eq t u) b e = e
    entries_keep (Formula-F.Less t u) b e = e
    entries_keep (Formula-F.AtMost t u) b e = e
    entries_keep (Formula-F.Not f) b e = e
    entries_keep (Formula-F.And f g) b e = e
    entries_keep (Formula-F.Or f g) b e = e
    entries_keep (Formula-F.Imp f g) b e = e
    entries_keep (Formula-F.All s f) b e = e
    entries_keep (Formula-F.Any s f) b e = e
    entries_keep (Formula-F.App q ts) b e = e

pub keeps_by_names : (scope : List Entry) (heads : List Head) (names : List Named) (entries : List Item) (less : Bool) (x : List ℕ) (Allowed : List ℕ → Type 0) →
    Others scope heads (goals.name_sort names) (goals.name_sort names) (take_entries names entries) less x Allowed → (Ok : Formula → Type 0) → Opens Ok Allowed →
    (f : Formula) → Not less (formula_mentions x f) → Ok f → keeps_rules scope heads f [] ≡ true → goals.keeps_rules names entries f [] ≡ true
keeps_by_names scope heads names entries less x Allowed others Ok opens f n m e =
    kept scope heads (goals.name_sort names) (goals.name_sort names) (take_entries names entries) less x Allowed others (goals.sort_step names) (names_step names) Ok opens (goals.keeps_step names entries)
    (entries_keep names entries) f n m [] e

-- all formulas, where each predicate is allowed
abbrev pub Any : Formula → Type 0
Any f = Unit {0}

abbrev pub All : List ℕ → Type 0
All q = Unit {0}

pub any_opens : Opens Any All
any_opens Formula-F.True e = tt
any_opens Formula-F.False e = tt
any_opens (Formula-F.Eq t u) e = tt
any_opens (Formula-F.Less t u) e = tt
any_opens (Formula-F.AtMost t u) e = tt
any_opens (Formula-F.Not f) e = tt
any_opens (Formula-F.And f g) e = (tt, tt)
any_opens (Formula-F.Or f g) e = (tt, tt)
any_opens (Formula-F.Imp f g) e = (tt, tt)
any_opens (Formula-F.All s f) e = tt
any_opens (Formula-F.Any s f) e = tt
any_opens (Formula-F.App q ts) e = tt

-- where it is asked, the predicate does not stand in the formula
pub unused_opens : (asked : Bool) (p : List ℕ) → Opens (λ f. Not asked (stands p f)) (λ q. Not asked (bytes_eq q p))
unused_opens asked p y e = go y (λ on. sym (fold-roll-Formula Bool (applies_step p) y) ∙ e on)
  where
    go : (y : Formula-F Formula) → Not asked (applies_step p (map-Formula Formula Bool (stands p) y)) → OfParts (λ f. Not asked (stands p f)) (λ q. Not asked (bytes_eq q p)) y
    go Formula-F.True e = tt
    go Formula-F.False e = tt
    go (Formula-F.Eq t u) e = tt
    go (Formula-F.Less t u) e = tt
    go (Formula-F.AtMost t u) e = tt
    go (Formula-F.Not f) e = e
    go (Formula-F.And f g) e = (not_left asked (stands p f) (stands p g) e, not_right asked (stands p f) (stands p g) e)
    go (Formula-F.Or f g) e = (not_left asked (stands p f) (stands p g) e, not_right asked (stands p f) (stands p g) e)
    go (Formula-F.Imp f g) e = (not_left asked (stands p f) (stands p g) e, not_right asked (stands p f) (stands p g) e)
    go (Formula-F.All s f) e = e
    go (Formula-F.Any s f) e = e
    go (Formula-F.App q ts) e = e

-- each predicate in the formula has a head
pub known_opens : (heads : List Head) → Opens (λ f. predicate_unknown_in heads f ≡ None) (λ q. is_some (find (is_head q) heads) ≡ true)
known_opens heads y e = go y (sym (fold-roll-Formula (Option (List ℕ)) (predicate_step heads) y) ∙ e)
  where
    found : (o : Option Head) (q : List ℕ) → unknown_predicate o q None ≡ None → is_some o ≡ true
    found None q e = absurd (cc)
    found (Some h) q e = refl

    go : (y : Formula-F Formula) → predicate_step heads (map-Formula Formula (Option (List ℕ)) (predicate_unknown_in heads) y) ≡ None → OfParts (λ f. predicate_unknown_in heads f ≡ None) (λ q. is_some (find (is_head q) heads) ≡ true) y
    go Formula-F.True e = tt
    go Formula-F.False e = tt
    go (Formula-F.Eq t u) e = tt
    go (Formula-F.Less t u) e = tt
    go (Formula-F.AtMost t u) e = tt
    go (Formula-F.Not f) e = e
    go (Formula-F.And f g) e = first_none (predicate_unknown_in heads f) (predicate_unknown_in heads g) e
    go (Formula-F.Or f g) e = first_none (predicate_unknown_in heads f) (predicate_unknown_in heads g) e
    go (Formula-F.Imp f g) e = first_none (predicate_unknown_in heads f) (predicate_unknown_in heads g) e
    go (Formula-F.All s f) e = e
    go (Formula-F.Any s f) e = e
    go (Formula-F.App q ts) e = found (find (is_head q) heads) q e
