-- The tests of sameness decide equality.
use Rattle.std.proofs.Common.{◌≡◌, ℕ, Bool, true, false, ℤ, pos, negsuc, List, [], ◌∷◌, map, refl, sym, ◌∙◌, ap, subst, true≢false, nat_eq, bytes_eq}
use Rattle.std.proofs.lemmas.Bool.{and_from, and_parts}
use Rattle.std.proofs.lemmas.Bool.Decides.{Decides-eqb}
use Rattle.std.proofs.lemmas.Slice.Eq.{bytes_eq-Decides}
use Rattle.rw_terms.specs.declared.term.Sort.{Sort}
use Rattle.rw_terms.specs.declared.term.Sort.TheVariants.{Int, Array}
use Rattle.rw_terms.specs.declared.term.Term.{Term}
use Rattle.rw_terms.specs.declared.term.Term.TheOpen.{Term-F}
use Rattle.rw_terms.specs.declared.term.Term.TheViews.{roll-Term, out-Term, out-roll-Term, roll-out-Term}
use Rattle.rw_terms.specs.declared.term.Term.TheFolds.{map-Term, ind-Term, fold-roll-Term}
use Rattle.rw_terms.specs.declared.term.Formula.{Formula}
use Rattle.rw_terms.specs.declared.term.Formula.TheOpen.{Formula-F}
use Rattle.rw_terms.specs.declared.term.Formula.TheViews.{roll-Formula, out-Formula, out-roll-Formula, roll-out-Formula}
use Rattle.rw_terms.specs.declared.term.Formula.TheFolds.{map-Formula, ind-Formula, fold-roll-Formula}
use Rattle.rw_terms.specs.Formed.{same_sort}
use Rattle.rw_terms.specs.Same.{same_int, all_same, same_term_layer, same_term, same_layer, same_formula}

nat_told : (m n : ℕ) → nat_eq m n ≡ true → m ≡ n
nat_told m n e = (Decides-eqb m n).0 e

nat_self : (n : ℕ) → nat_eq n n ≡ true
nat_self n = (Decides-eqb n n).1 refl

bytes_told : (x y : List ℕ) → bytes_eq x y ≡ true → x ≡ y
bytes_told x y e = (bytes_eq-Decides x y).0 e

bytes_self : (x : List ℕ) → bytes_eq x x ≡ true
bytes_self x = (bytes_eq-Decides x x).1 refl

int_told : (m n : ℤ) → same_int m n ≡ true → m ≡ n
int_told (pos m) (pos n) e = ap pos (nat_told m n e)
int_told (negsuc m) (negsuc n) e = ap negsuc (nat_told m n e)
int_told (pos m) (negsuc n) e = absurd (true≢false (sym e))
int_told (negsuc m) (pos n) e = absurd (true≢false (sym e))

int_self : (n : ℤ) → same_int n n ≡ true
int_self (pos n) = nat_self n
int_self (negsuc n) = nat_self n

pub sort_told : (s t : Sort) → same_sort s t ≡ true → s ≡ t
sort_told Int Int e = refl
sort_told (Array m) (Array n) e = ap Array (nat_told m n e)
sort_told Int (Array n) e = absurd (true≢false (sym e))
sort_told (Array m) Int e = absurd (true≢false (sym e))

pub sort_self : (s : Sort) → same_sort s s ≡ true
sort_self Int = refl
sort_self (Array n) = nat_self n

abbrev Told : Term → Type 0
Told t = (u : Term) → same_term t u ≡ true → t ≡ u

abbrev Self : Term → Type 0
Self t = same_term t t ≡ true

abbrev TermLayer : Type 0
TermLayer = Term-F ((t : Term) × (Told t × Self t))

abbrev under : TermLayer → Term-F Term
under = map-Term ((t : Term) × (Told t × Self t)) Term (λ e. e.0)

abbrev term_tests : TermLayer → Term-F (Term → Bool)
term_tests y = map-Term Term (Term → Bool) same_term (under y)

args_told : (ts : List ((t : Term) × (Told t × Self t))) (us : List Term) → all_same (map same_term (map (λ e. e.0) ts)) us ≡ true → map (λ e. e.0) ts ≡ us
args_told [] [] e = refl
args_told (t ∷ ts) (u ∷ us) e = let h = t.1.0 u (and_parts _ _ e).0 in let k = args_told ts us (and_parts (same_term t.0 u) _ e).1 in λ i. h i ∷ k i
args_told [] (u ∷ us) e = absurd (true≢false (sym e))
args_told (t ∷ ts) [] e = absurd (true≢false (sym e))

args_self : (ts : List ((t : Term) × (Told t × Self t))) → all_same (map same_term (map (λ e. e.0) ts)) (map (λ e. e.0) ts) ≡ true
args_self [] = refl
args_self (t ∷ ts) = and_from _ _ t.1.1 (args_self ts)

term_told_layer : (y : TermLayer) (v : Term-F Term) → same_term_layer (term_tests y) v ≡ true → under y ≡ v
term_told_layer (Term-F.Lit m) (Term-F.Lit n) e = ap Term-F.Lit (int_told m n e)
term_told_layer (Term-F.Var x) (Term-F.Var y) e = ap Term-F.Var (bytes_told x y e)
term_told_layer (Term-F.Init x) (Term-F.Init y) e = ap Term-F.Init (bytes_told x y e)
term_told_layer (Term-F.Const x) (Term-F.Const y) e = ap Term-F.Const (bytes_told x y e)
term_told_layer (Term-F.Bound k) (Term-F.Bound l) e = ap Term-F.Bound (nat_told k l e)
term_told_layer (Term-F.Neg a) (Term-F.Neg d) e = ap Term-F.Neg (a.1.0 d e)
term_told_layer (Term-F.Add a b) (Term-F.Add d f) e = let h = a.1.0 d (and_parts _ _ e).0 in let k = b.1.0 f (and_parts (same_term a.0 d) _ e).1 in λ i. Term-F.Add (h i) (k i)
term_told_layer (Term-F.Sub a b) (Term-F.Sub d f) e = let h = a.1.0 d (and_parts _ _ e).0 in let k = b.1.0 f (and_parts (same_term a.0 d) _ e).1 in λ i. Term-F.Sub (h i) (k i)
term_told_layer (Term-F.Mul a b) (Term-F.Mul d f) e = let h = a.1.0 d (and_parts _ _ e).0 in let k = b.1.0 f (and_parts (same_term a.0 d) _ e).1 in λ i. Term-F.Mul (h i) (k i)
term_told_layer (Term-F.Div a b) (Term-F.Div d f) e = let h = a.1.0 d (and_parts _ _ e).0 in let k = b.1.0 f (and_parts (same_term a.0 d) _ e).1 in λ i. Term-F.Div (h i) (k i)
term_told_layer (Term-F.Mod a b) (Term-F.Mod d f) e = let h = a.1.0 d (and_parts _ _ e).0 in let k = b.1.0 f (and_parts (same_term a.0 d) _ e).1 in λ i. Term-F.Mod (h i) (k i)
term_told_layer (Term-F.Read a b) (Term-F.Read d f) e = let h = a.1.0 d (and_parts _ _ e).0 in let k = b.1.0 f (and_parts (same_term a.0 d) _ e).1 in λ i. Term-F.Read (h i) (k i)
term_told_layer (Term-F.Put a b c) (Term-F.Put d f g) e =
    let rest = (and_parts (same_term a.0 d) _ e).1 in
    let h = a.1.0 d (and_parts _ _ e).0 in
    let k = b.1.0 f (and_parts _ _ rest).0 in
    let l = c.1.0 g (and_parts (same_term b.0 f) _ rest).1 in
    λ i. Term-F.Put (h i) (k i) (l i)
term_told_layer (Term-F.Fun f args) (Term-F.Fun g more) e =
    let h = bytes_told f g (and_parts _ _ e).0 in
    let k = args_told args more (and_parts (bytes_eq f g) _ e).1 in
    λ i. Term-F.Fun (h i) (k i)
term_told_layer _ _ e = absurd (true≢false (sym e))

term_self_layer : (y : TermLayer) → same_term_layer (term_tests y) (under y) ≡ true
term_self_layer (Term-F.Lit n) = int_self n
term_self_layer (Term-F.Var x) = bytes_self x
term_self_layer (Term-F.Init x) = bytes_self x
term_self_layer (Term-F.Const x) = bytes_self x
term_self_layer (Term-F.Bound k) = nat_self k
term_self_layer (Term-F.Neg a) = a.1.1
term_self_layer (Term-F.Add a b) = and_from _ _ a.1.1 b.1.1
term_self_layer (Term-F.Sub a b) = and_from _ _ a.1.1 b.1.1
term_self_layer (Term-F.Mul a b) = and_from _ _ a.1.1 b.1.1
term_self_layer (Term-F.Div a b) = and_from _ _ a.1.1 b.1.1
term_self_layer (Term-F.Mod a b) = and_from _ _ a.1.1 b.1.1
term_self_layer (Term-F.Read a b) = and_from _ _ a.1.1 b.1.1
term_self_layer (Term-F.Put a b c) = and_from _ _ a.1.1 (and_from _ _ b.1.1 c.1.1)
term_self_layer (Term-F.Fun f args) = and_from _ _ (bytes_self f) (args_self args)

term_at : (y : TermLayer) → Told (roll-Term (under y)) × Self (roll-Term (under y))
term_at y =
    let is = fold-roll-Term (Term → Bool) (λ x u. same_term_layer x (out-Term u)) (under y) in (
      λ u e. ap roll-Term (term_told_layer y (out-Term u) (sym (λ i. is i u) ∙ e)) ∙ roll-out-Term u,
      (λ i. is i (roll-Term (under y))) ∙ ap (same_term_layer (term_tests y)) (out-roll-Term (under y)) ∙ term_self_layer y,
    )

term_both : (t : Term) → Told t × Self t
term_both = ind-Term (λ t. Told t × Self t) (λ x y is. subst (λ z. Told (roll-Term z) × Self (roll-Term z)) is (term_at y))

pub term_told : (t u : Term) → same_term t u ≡ true → t ≡ u
term_told t = (term_both t).0

pub term_self : (t u : Term) → t ≡ u → same_term t u ≡ true
term_self t u e = subst (λ z. same_term t z ≡ true) e (term_both t).1

pub terms_told : (ts us : List Term) → all_same (map same_term ts) us ≡ true → ts ≡ us
terms_told [] [] e = refl
terms_told (t ∷ ts) (u ∷ us) e = let h = term_told t u (and_parts _ _ e).0 in let k = terms_told ts us (and_parts (same_term t u) _ e).1 in λ i. h i ∷ k i
terms_told [] (u ∷ us) e = absurd (true≢false (sym e))
terms_told (t ∷ ts) [] e = absurd (true≢false (sym e))

pub terms_self : (ts : List Term) → all_same (map same_term ts) ts ≡ true
terms_self [] = refl
terms_self (t ∷ ts) = and_from _ _ (term_self t t refl) (terms_self ts)

abbrev FormulaTold : Formula → Type 0
FormulaTold f = ((g : Formula) → same_formula f g ≡ true → f ≡ g) × (same_formula f f ≡ true)

abbrev Layer : Type 0
Layer = Formula-F ((f : Formula) × FormulaTold f)

abbrev inside : Layer → Formula-F Formula
inside = map-Formula ((f : Formula) × FormulaTold f) Formula (λ e. e.0)

abbrev tests : Layer → Formula-F (Formula → Bool)
tests y = map-Formula Formula (Formula → Bool) same_formula (inside y)

told_layer : (y : Layer) (v : Formula-F Formula) → same_layer (tests y) v ≡ true → inside y ≡ v
told_layer Formula-F.True Formula-F.True e = refl
told_layer Formula-F.False Formula-F.False e = refl
told_layer (Formula-F.Eq a b) (Formula-F.Eq d f) e = let h = term_told a d (and_parts _ _ e).0 in let k = term_told b f (and_parts (same_term a d) _ e).1 in λ i. Formula-F.Eq (h i) (k i)
told_layer (Formula-F.Less a b) (Formula-F.Less d f) e = let h = term_told a d (and_parts _ _ e).0 in let k = term_told b f (and_parts (same_term a d) _ e).1 in λ i. Formula-F.Less (h i) (k i)
told_layer (Formula-F.AtMost a b) (Formula-F.AtMost d f) e = let h = term_told a d (and_parts _ _ e).0 in let k = term_told b f (and_parts (same_term a d) _ e).1 in λ i. Formula-F.AtMost (h i) (k i)
told_layer (Formula-F.Not f) (Formula-F.Not h) e = ap Formula-F.Not (f.1.0 h e)
told_layer (Formula-F.And f g) (Formula-F.And d k) e = let p = f.1.0 d (and_parts _ _ e).0 in let q = g.1.0 k (and_parts (same_formula f.0 d) _ e).1 in λ i. Formula-F.And (p i) (q i)
told_layer (Formula-F.Or f g) (Formula-F.Or d k) e = let p = f.1.0 d (and_parts _ _ e).0 in let q = g.1.0 k (and_parts (same_formula f.0 d) _ e).1 in λ i. Formula-F.Or (p i) (q i)
told_layer (Formula-F.Imp f g) (Formula-F.Imp d k) e = let p = f.1.0 d (and_parts _ _ e).0 in let q = g.1.0 k (and_parts (same_formula f.0 d) _ e).1 in λ i. Formula-F.Imp (p i) (q i)
told_layer (Formula-F.All s f) (Formula-F.All t h) e = let p = sort_told s t (and_parts _ _ e).0 in let q = f.1.0 h (and_parts (same_sort s t) _ e).1 in λ i. Formula-F.All (p i) (q i)
told_layer (Formula-F.Any s f) (Formula-F.Any t h) e = let p = sort_told s t (and_parts _ _ e).0 in let q = f.1.0 h (and_parts (same_sort s t) _ e).1 in λ i. Formula-F.Any (p i) (q i)
told_layer (Formula-F.App p args) (Formula-F.App r more) e = let h = bytes_told p r (and_parts _ _ e).0 in let k = terms_told args more (and_parts (bytes_eq p r) _ e).1 in λ i. Formula-F.App (h i) (k i)
told_layer _ _ e = absurd (true≢false (sym e))

self_layer : (y : Layer) → same_layer (tests y) (inside y) ≡ true
self_layer Formula-F.True = refl
self_layer Formula-F.False = refl
self_layer (Formula-F.Eq a b) = and_from _ _ (term_self a a refl) (term_self b b refl)
self_layer (Formula-F.Less a b) = and_from _ _ (term_self a a refl) (term_self b b refl)
self_layer (Formula-F.AtMost a b) = and_from _ _ (term_self a a refl) (term_self b b refl)
self_layer (Formula-F.Not f) = f.1.1
self_layer (Formula-F.And f g) = and_from _ _ f.1.1 g.1.1
self_layer (Formula-F.Or f g) = and_from _ _ f.1.1 g.1.1
self_layer (Formula-F.Imp f g) = and_from _ _ f.1.1 g.1.1
self_layer (Formula-F.All s f) = and_from _ _ (sort_self s) f.1.1
self_layer (Formula-F.Any s f) = and_from _ _ (sort_self s) f.1.1
self_layer (Formula-F.App p args) = and_from _ _ (bytes_self p) (terms_self args)

formula_at : (y : Layer) → FormulaTold (roll-Formula (inside y))
formula_at y =
    let is = fold-roll-Formula (Formula → Bool) (λ x u. same_layer x (out-Formula u)) (inside y) in (
      λ u e. ap roll-Formula (told_layer y (out-Formula u) (sym (λ i. is i u) ∙ e)) ∙ roll-out-Formula u,
      (λ i. is i (roll-Formula (inside y))) ∙ ap (same_layer (tests y)) (out-roll-Formula (inside y)) ∙ self_layer y,
    )

formula_both : (f : Formula) → FormulaTold f
formula_both = ind-Formula FormulaTold (λ x y is. subst (λ z. FormulaTold (roll-Formula z)) is (formula_at y))

pub formula_told : (f g : Formula) → same_formula f g ≡ true → f ≡ g
formula_told f = (formula_both f).0

pub formula_self : (f g : Formula) → f ≡ g → same_formula f g ≡ true
formula_self f g e = subst (λ z. same_formula f z ≡ true) e (formula_both f).1
