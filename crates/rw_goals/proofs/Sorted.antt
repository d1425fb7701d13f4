-- A term that keeps the rules of sorts over a goal's names has values of its sort, and no binder matters to it.
use Rattle.std.proofs.Common.{◌≡◌, ℕ, Bool, true, false, ℤ, pos, negsuc, List, [], ◌∷◌, length, Option, Some, None, find, refl, sym, ◌∙◌, ap, subst, true≢false, length-set}
use Rattle.std.specs.Prelude.{slice_get, is_some}
use Rattle.std.specs.Option.{option_map}
use Rattle.rw_terms.specs.declared.term.Sort.{Sort}
use Rattle.rw_terms.specs.declared.term.Sort.TheVariants.{Int, Array}
use Rattle.rw_terms.specs.declared.term.Term.{Term}
use Rattle.rw_terms.specs.declared.term.Term.TheOpen.{Term-F}
use Rattle.rw_terms.specs.declared.term.Term.TheViews.{roll-Term}
use Rattle.rw_terms.specs.declared.term.Term.TheFolds.{map-Term, ind-Term, fold-roll-Term}
use Rattle.rw_terms.specs.State.{Value, Whole, Cells, whole, cells, State, given, value_in, HasSort}
use Rattle.rw_terms.specs.Value.{value_step, value, put_at}
use Rattle.rw_terms.specs.Named.{Named, is_named}
use Rattle.rw_terms.specs.Validity.{FitsNamed, FitsNames}
use Rattle.rw_terms.specs.Sorts.{is_literal}
use Rattle.rw_terms.specs.Rules.{of_literal, of_int, of_ints, of_read, of_put, instead}
use Rattle.rw_goals.specs.Sorting.{name_sort, sort_step, sort_of}

abbrev Claim : Option Sort → Value → Type 0
Claim o v = (sort : Sort) → o ≡ Some sort → HasSort v sort

whole_sort : (z : ℤ) → Claim (Some Int) (Whole z)
whole_sort z sort e = let q : Int ≡ sort = cc in subst (HasSort (Whole z)) q tt

-- the value of a name has its sort
named_sort : (o : Option Named) (v : Option Value) → FitsNamed o v → Claim (option_map (λ n. n.1) o) (given v)
named_sort None v f sort e = absurd (cc)
named_sort (Some n) None f sort e = absurd f
named_sort (Some n) (Some v) f sort e = let q : n.1 ≡ sort = cc in subst (HasSort v) q f

literal_sort : (b : Bool) (z : ℤ) → Claim (of_literal b) (Whole z)
literal_sort true z sort e = whole_sort z sort e
literal_sort false z sort e = absurd (cc)

int_sort : (o : Option Sort) (z : ℤ) → Claim (of_int o) (Whole z)
int_sort None z sort e = absurd (cc)
int_sort (Some Int) z sort e = whole_sort z sort e
int_sort (Some (Array n)) z sort e = absurd (cc)

ints_sort : (o p : Option Sort) (z : ℤ) → Claim (of_ints o p) (Whole z)
ints_sort None p z sort e = absurd (cc)
ints_sort (Some Int) p z sort e = int_sort p z sort e
ints_sort (Some (Array n)) p z sort e = absurd (cc)

read_sort : (o p : Option Sort) (z : ℤ) → Claim (of_read o p) (Whole z)
read_sort None p z sort e = absurd (cc)
read_sort (Some Int) p z sort e = absurd (cc)
read_sort (Some (Array n)) p z sort e = int_sort p z sort e

length-put_at : (l : List ℤ) (i z : ℤ) → length (put_at l i z) ≡ length l
length-put_at l (pos i) z = simp length-set
length-put_at l (negsuc i) z = refl

cells_sort : (v i z : Value) (n : ℕ) → HasSort v (Array n) → HasSort (Cells (put_at (cells v) (whole i) (whole z))) (Array n)
cells_sort (Whole w) i z n h = absurd h
cells_sort (Cells l) i z n h = length-put_at l (whole i) (whole z) ∙ h

instead_sort : (o : Option Sort) (v : Value) (s : Sort) → HasSort v s → Claim (instead s o) v
instead_sort None v s h sort e = absurd (cc)
instead_sort (Some t) v s h sort e = let q : s ≡ sort = cc in subst (HasSort v) q h

put_sort : (o p q : Option Sort) (v i z : Value) → Claim o v → Claim (of_put o p q) (Cells (put_at (cells v) (whole i) (whole z)))
put_sort None p q v i z h sort e = absurd (cc)
put_sort (Some Int) p q v i z h sort e = absurd (cc)
put_sort (Some (Array n)) p q v i z h sort e = instead_sort (of_ints p q) (Cells (put_at (cells v) (whole i) (whole z))) (Array n) (cells_sort v i z n (h (Array n) refl)) sort e

none_at : (l : List Sort) (k : ℕ) → l ≡ [] → slice_get l k ≡ None
none_at [] k e = refl
none_at (x ∷ xs) k e = absurd (cc)

abbrev pub no_binders : List Sort
no_binders = []

pub none_there : (k : ℕ) → slice_get no_binders k ≡ None
none_there k = none_at no_binders k refl

never : (o : Option Sort) (sort : Sort) → o ≡ None → o ≡ Some sort → ⊥
never o sort n e = let q : None ≡ Some sort = sym n ∙ e in absurd (cc)

-- what has a sort is made of parts that have one
abbrev pub Known : Option Sort → Type 0
Known o = is_some o ≡ true

pub int_known : (o : Option Sort) → Known (of_int o) → Known o
int_known None k = absurd (true≢false (sym k))
int_known (Some s) k = refl

pub ints_known : (o p : Option Sort) → Known (of_ints o p) → Known o × Known p
ints_known None p k = absurd (true≢false (sym k))
ints_known (Some Int) p k = (refl, int_known p k)
ints_known (Some (Array n)) p k = absurd (true≢false (sym k))

pub read_known : (o p : Option Sort) → Known (of_read o p) → Known o × Known p
read_known None p k = absurd (true≢false (sym k))
read_known (Some Int) p k = absurd (true≢false (sym k))
read_known (Some (Array n)) p k = (refl, int_known p k)

instead_known : (s : Sort) (o : Option Sort) → Known (instead s o) → Known o
instead_known s None k = absurd (true≢false (sym k))
instead_known s (Some t) k = refl

pub put_known : (o p q : Option Sort) → Known (of_put o p q) → Known o × Known p × Known q
put_known None p q k = absurd (true≢false (sym k))
put_known (Some Int) p q k = absurd (true≢false (sym k))
put_known (Some (Array n)) p q k = let r = ints_known p q (instead_known (Array n) (of_ints p q) k) in (refl, r.0, r.1)

module _ (names : List Named) (s0 s : State) where
  abbrev step : List Value → Term-F Value → Value
  step b = value_step (value_in s) (value_in s0) (value_in s) b

  abbrev sorts : Term → Option Sort
  sorts = sort_of names []

  module _ (fits0 : FitsNames names s0) (fits : FitsNames names s) where
    abbrev Kept : Term → Type 0
    Kept t = Claim (sorts t) (value s0 s [] t)

    abbrev Layer : Type 0
    Layer = Term-F ((t : Term) × Kept t)

    abbrev under : Layer → Term-F Term
    under = map-Term ((t : Term) × Kept t) Term (λ e. e.0)

    -- the integer that the layer counts as
    abbrev number : Layer → ℤ
    number y = whole (step [] (map-Term Term Value (value s0 s []) (under y)))

    kept_layer : (y : Layer) → Claim (sort_step names [] (map-Term Term (Option Sort) sorts (under y))) (step [] (map-Term Term Value (value s0 s []) (under y)))
    kept_layer (Term-F.Lit n) = literal_sort (is_literal n) n
    kept_layer (Term-F.Var x) = named_sort (find (is_named x) names) (s x) (fits x)
    kept_layer (Term-F.Init x) = named_sort (find (is_named x) names) (s0 x) (fits0 x)
    kept_layer (Term-F.Const x) = named_sort (find (is_named x) names) (s x) (fits x)
    kept_layer (Term-F.Bound k) = λ sort e. absurd (never (slice_get no_binders k) sort (none_there k) e)
    kept_layer (Term-F.Neg a) = int_sort _ (number (Term-F.Neg a))
    kept_layer (Term-F.Add a c) = ints_sort _ _ (number (Term-F.Add a c))
    kept_layer (Term-F.Sub a c) = ints_sort _ _ (number (Term-F.Sub a c))
    kept_layer (Term-F.Mul a c) = ints_sort _ _ (number (Term-F.Mul a c))
    kept_layer (Term-F.Div a c) = ints_sort _ _ (number (Term-F.Div a c))
    kept_layer (Term-F.Mod a c) = ints_sort _ _ (number (Term-F.Mod a c))
    kept_layer (Term-F.Read a i) = read_sort _ _ (number (Term-F.Read a i))
    kept_layer (Term-F.Put a i z) = put_sort (sorts a.0) (sorts i.0) (sorts z.0) (value s0 s [] a.0) (value s0 s [] i.0) (value s0 s [] z.0) a.1
    kept_layer (Term-F.Fun f args) = λ sort e. absurd (cc)

    kept_at : (y : Layer) → Kept (roll-Term (under y))
    kept_at y =
        subst (λ o. Claim o (value s0 s [] (roll-Term (under y)))) (sym (fold-roll-Term (Option Sort) (sort_step names []) (under y)))
        (subst (Claim (sort_step names [] (map-Term Term (Option Sort) sorts (under y)))) (sym (fold-roll-Term Value (step []) (under y))) (kept_layer y))

    pub has_sort : (t : Term) (sort : Sort) → sorts t ≡ Some sort → HasSort (value s0 s [] t) sort
    has_sort = ind-Term Kept (λ x y is. subst (λ z. Kept (roll-Term z)) is (kept_at y))

  module _ (b : List Value) where
    abbrev Same : Term → Type 0
    Same t = Known (sorts t) → value s0 s b t ≡ value s0 s [] t

    abbrev SameLayer : Type 0
    SameLayer = Term-F ((t : Term) × Same t)

    abbrev below : SameLayer → Term-F Term
    below = map-Term ((t : Term) × Same t) Term (λ e. e.0)

    same_layer : (y : SameLayer) → Known (sort_step names [] (map-Term Term (Option Sort) sorts (below y))) →
        step b (map-Term Term Value (value s0 s b) (below y)) ≡ step [] (map-Term Term Value (value s0 s []) (below y))
    same_layer (Term-F.Lit n) k = refl
    same_layer (Term-F.Var x) k = refl
    same_layer (Term-F.Init x) k = refl
    same_layer (Term-F.Const x) k = refl
    same_layer (Term-F.Bound j) k = absurd (true≢false (sym k ∙ ap is_some (none_there j)))
    same_layer (Term-F.Neg a) k = λ i. step [] (Term-F.Neg (a.1 (int_known _ k) i))
    same_layer (Term-F.Add a c) k = let p = ints_known (sorts a.0) (sorts c.0) k in λ i. step [] (Term-F.Add (a.1 p.0 i) (c.1 p.1 i))
    same_layer (Term-F.Sub a c) k = let p = ints_known (sorts a.0) (sorts c.0) k in λ i. step [] (Term-F.Sub (a.1 p.0 i) (c.1 p.1 i))
    same_layer (Term-F.Mul a c) k = let p = ints_known (sorts a.0) (sorts c.0) k in λ i. step [] (Term-F.Mul (a.1 p.0 i) (c.1 p.1 i))
    same_layer (Term-F.Div a c) k = let p = ints_known (sorts a.0) (sorts c.0) k in λ i. step [] (Term-F.Div (a.1 p.0 i) (c.1 p.1 i))
    same_layer (Term-F.Mod a c) k = let p = ints_known (sorts a.0) (sorts c.0) k in λ i. step [] (Term-F.Mod (a.1 p.0 i) (c.1 p.1 i))
    same_layer (Term-F.Read a c) k = let p = read_known (sorts a.0) (sorts c.0) k in λ i. step [] (Term-F.Read (a.1 p.0 i) (c.1 p.1 i))
    same_layer (Term-F.Put a c d) k = let p = put_known (sorts a.0) (sorts c.0) (sorts d.0) k in λ i. step [] (Term-F.Put (a.1 p.0 i) (c.1 p.1 i) (d.1 p.2 i))
    same_layer (Term-F.Fun f args) k = absurd (true≢false (sym k))

    same_at : (y : SameLayer) → Same (roll-Term (below y))
    same_at y k =
        fold-roll-Term Value (step b) (below y)
        ∙ same_layer y (sym (ap is_some (fold-roll-Term (Option Sort) (sort_step names []) (below y))) ∙ k)
        ∙ sym (fold-roll-Term Value (step []) (below y))

    pub no_binder : (t : Term) → Known (sorts t) → value s0 s b t ≡ value s0 s [] t
    no_binder = ind-Term Same (λ x y is. subst (λ z. Same (roll-Term z)) is (same_at y))
