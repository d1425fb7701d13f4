-- What tokens spell is readable.
use Rattle.std.proofs.Common.{◌≡◌, ℕ, suc, ◌<◌, Bool, true, false, cond, List, [], ◌∷◌, ◌++◌, length, Option, Some, None, refl, ap, ◌∙◌, subst, arith, pos, map}
use Rattle.std.specs.Prelude.{◌&&◌, not, option_map}
use Rattle.std.proofs.lemmas.Bool.{and_parts, and_from, lt-ltb}
use Rattle.rw_terms.specs.declared.term.Term.{Term}
use Rattle.rw_terms.specs.declared.term.Term.TheOpen.{Term-F}
use Rattle.rw_terms.specs.declared.term.Term.TheViews.{roll-Term}
use Rattle.rw_terms.specs.declared.term.Term.TheFolds.{map-Term, fold-roll-Term}
use Rattle.rw_terms.specs.declared.term.Formula.{Formula}
use Rattle.rw_terms.specs.declared.term.Formula.TheOpen.{Formula-F}
use Rattle.rw_terms.specs.declared.term.Formula.TheViews.{roll-Formula}
use Rattle.rw_terms.specs.declared.term.Formula.TheFolds.{map-Formula, fold-roll-Formula}
use Rattle.rw_terms.specs.AllOf.{all_of}
use Rattle.rw_syntax.specs.declared.token.Infix.{Infix}
use Rattle.rw_syntax.specs.declared.token.Infix.TheVariants as infixes
use Rattle.rw_syntax.specs.declared.token.Quantifier.TheVariants as quantifiers
use Rattle.rw_syntax.specs.declared.token.Token.{Token}
use Rattle.rw_syntax.specs.declared.frame.Part.{Part}
use Rattle.rw_syntax.specs.declared.frame.Part.TheVariants as parts
use Rattle.rw_syntax.specs.declared.frame.Binder.{Binder}
use Rattle.rw_syntax.specs.declared.frame.Binder.TheVariants as binders
use Rattle.rw_syntax.specs.declared.frame.Prefix.{Prefix}
use Rattle.rw_syntax.specs.declared.frame.Prefix.TheVariants as prefixes
use Rattle.rw_syntax.specs.declared.frame.Head.{Head}
use Rattle.rw_syntax.specs.declared.frame.Head.TheVariants as heads
use Rattle.rw_syntax.specs.Grammar.{Leaf, number, word, initial, place, truth, Tree, leaf, prefix, binary, group, index, call, Trees, none, more, is_upper, is_sort, is_binder, is_known, is_prefix, find, same_binder, inner, named, bound_or, leaf_part, as_term, as_formula, prefixed, joined, put_of, applied, part, values, IsFormed, AreFormed, Reads}
use Rattle.rw_printer.specs.Readable.{some_and_all, readable_term_step, readable_term, readable_step, readable_formula}

abbrev pub IsGood : ℕ → Part → Type 0
IsGood n (parts.Term t) = readable_term t n ≡ true
IsGood n (parts.Formula f) = readable_formula f n ≡ true

term_good : (x : Term-F Term) (n : ℕ) → readable_term_step (map-Term Term (ℕ → Bool) readable_term x) n ≡ true → readable_term (roll-Term x) n ≡ true
term_good x n p = ap (λ f. f n) (fold-roll-Term (ℕ → Bool) readable_term_step x) ∙ p

formula_good : (x : Formula-F Formula) (n : ℕ) → readable_step (map-Formula Formula (ℕ → Bool) readable_formula x) n ≡ true → readable_formula (roll-Formula x) n ≡ true
formula_good x n p = ap (λ f. f n) (fold-roll-Formula (ℕ → Bool) readable_step x) ∙ p

pub as_term_good : (n : ℕ) (v : Part) → IsGood n v → readable_term (as_term v) n ≡ true
as_term_good n (parts.Term t) g = g
as_term_good n (parts.Formula f) g = term_good (Term-F.Lit (pos 0)) n refl

pub as_formula_good : (n : ℕ) (v : Part) → IsGood n v → readable_formula (as_formula v) n ≡ true
as_formula_good n (parts.Term t) g = formula_good Formula-F.True n refl
as_formula_good n (parts.Formula f) g = g

two_terms : (n : ℕ) (a b : Part) → IsGood n a → IsGood n b → (readable_term (as_term a) n && readable_term (as_term b) n) ≡ true
two_terms n a b x y = and_from (readable_term (as_term a) n) (readable_term (as_term b) n) (as_term_good n a x) (as_term_good n b y)

two_formulas : (n : ℕ) (a b : Part) → IsGood n a → IsGood n b → (readable_formula (as_formula a) n && readable_formula (as_formula b) n) ≡ true
two_formulas n a b x y = and_from (readable_formula (as_formula a) n) (readable_formula (as_formula b) n) (as_formula_good n a x) (as_formula_good n b y)

joined_good : (op : Infix) (n : ℕ) (a b : Part) → IsGood n a → IsGood n b → IsGood n (joined op a b)
joined_good infixes.Implies n a b x y = formula_good (Formula-F.Imp (as_formula a) (as_formula b)) n (two_formulas n a b x y)
joined_good infixes.Or n a b x y = formula_good (Formula-F.Or (as_formula a) (as_formula b)) n (two_formulas n a b x y)
joined_good infixes.And n a b x y = formula_good (Formula-F.And (as_formula a) (as_formula b)) n (two_formulas n a b x y)
joined_good infixes.Equal n a b x y = formula_good (Formula-F.Eq (as_term a) (as_term b)) n (two_terms n a b x y)
joined_good infixes.Unequal n a b x y = formula_good (Formula-F.Not (roll-Formula (Formula-F.Eq (as_term a) (as_term b)))) n (formula_good (Formula-F.Eq (as_term a) (as_term b)) n (two_terms n a b x y))
joined_good infixes.Less n a b x y = formula_good (Formula-F.Less (as_term a) (as_term b)) n (two_terms n a b x y)
joined_good infixes.AtMost n a b x y = formula_good (Formula-F.AtMost (as_term a) (as_term b)) n (two_terms n a b x y)
joined_good infixes.Greater n a b x y = formula_good (Formula-F.Less (as_term b) (as_term a)) n (two_terms n b a y x)
joined_good infixes.AtLeast n a b x y = formula_good (Formula-F.AtMost (as_term b) (as_term a)) n (two_terms n b a y x)
joined_good infixes.Plus n a b x y = term_good (Term-F.Add (as_term a) (as_term b)) n (two_terms n a b x y)
joined_good infixes.Minus n a b x y = term_good (Term-F.Sub (as_term a) (as_term b)) n (two_terms n a b x y)
joined_good infixes.Times n a b x y = term_good (Term-F.Mul (as_term a) (as_term b)) n (two_terms n a b x y)
joined_good infixes.Div n a b x y = term_good (Term-F.Div (as_term a) (as_term b)) n (two_terms n a b x y)
joined_good infixes.Mod n a b x y = term_good (Term-F.Mod (as_term a) (as_term b)) n (two_terms n a b x y)

sort_of_prefix : (a b : Bool) → cond a b false ≡ true → b ≡ true
sort_of_prefix true b e = e
sort_of_prefix false b e = absurd (cc)

prefixed_good : (p : Prefix) (env : List Binder) (v : Part) → is_prefix p ≡ true → IsGood (length (inner p env)) v → IsGood (length env) (prefixed p v)
prefixed_good prefixes.Minus env v h g = term_good (Term-F.Neg (as_term v)) (length env) (as_term_good (length env) v g)
prefixed_good prefixes.Not env v h g = formula_good (Formula-F.Not (as_formula v)) (length env) (as_formula_good (length env) v g)
prefixed_good (prefixes.Bind quantifiers.All b s) env v h g = formula_good (Formula-F.All s (as_formula v)) (length env) (and_from (is_sort s) (readable_formula (as_formula v) (suc (length env))) (sort_of_prefix (is_binder b) (is_sort s) h) (as_formula_good (suc (length env)) v g))
prefixed_good (prefixes.Bind quantifiers.Any b s) env v h g = formula_good (Formula-F.Any s (as_formula v)) (length env) (and_from (is_sort s) (readable_formula (as_formula v) (suc (length env))) (sort_of_prefix (is_binder b) (is_sort s) h) (as_formula_good (suc (length env)) v g))

deeper : (t : Bool) (n : ℕ) (o : Option ℕ) (k : ℕ) → ((j : ℕ) → o ≡ Some j → j < n) → cond t (Some 0) (option_map suc o) ≡ Some k → k < suc n
deeper true n o k r h = let z : 0 ≡ k = cc in omega arith
deeper false n None k r h = absurd (cc)
deeper false n (Some j) k r h = let m = r j refl in let z : suc j ≡ k = cc in omega arith

find_within : (b : Binder) (env : List Binder) (k : ℕ) → find b env ≡ Some k → k < length env
find_within b [] k e = absurd (cc)
find_within b (c ∷ cs) k e = deeper (same_binder b c) (length cs) (find b cs) k (λ j f. find_within b cs j f) e

found_good : (env : List Binder) (b : Binder) (t : Term) → (find b env ≡ None → readable_term t (length env) ≡ true) → IsGood (length env) (bound_or t (find b env))
found_good env b t g = go (find b env) refl
  where
    go : (o : Option ℕ) → find b env ≡ o → IsGood (length env) (bound_or t o)
    go None e = g e
    go (Some k) e = term_good (Term-F.Bound k) (length env) (lt-ltb k (length env) (find_within b env k e))

named_good : (w : List ℕ) (n : ℕ) → readable_term (named w) n ≡ true
named_good w n = go (is_upper w) refl
  where
    go : (u : Bool) → is_upper w ≡ u → readable_term (cond u (roll-Term (Term-F.Const w)) (roll-Term (Term-F.Var w))) n ≡ true
    go true e = term_good (Term-F.Const w) n e
    go false e = term_good (Term-F.Var w) n (ap not e)

leaf_good : (l : Leaf) (env : List Binder) → is_known env l ≡ true → IsGood (length env) (leaf_part env l)
leaf_good (number n) env h = term_good (Term-F.Lit (pos n)) (length env) h
leaf_good (word w) env h = found_good env (binders.Named w) (named w) (λ e. named_good w (length env))
leaf_good (initial w) env h = term_good (Term-F.Init w) (length env) h
leaf_good (place n) env h = found_good env (binders.Numbered n) (roll-Term (Term-F.Lit (pos 0))) (λ e. term_good (Term-F.Lit (pos 0)) (length env) refl)
leaf_good (truth true) env h = formula_good Formula-F.True (length env) refl
leaf_good (truth false) env h = formula_good Formula-F.False (length env) refl

abbrev AreGood : ℕ → List Term → Type 0
AreGood n ts = all_of (map (λ a. a n) (map readable_term ts)) ≡ true

one_more : (n : ℕ) (ts : List Term) (t : Term) → AreGood n ts → readable_term t n ≡ true → AreGood n (ts ++ t ∷ [])
one_more n [] t g h = and_from (readable_term t n) true h refl
one_more n (k ∷ ks) t g h =
    let q = and_parts (readable_term k n) (all_of (map (λ a. a n) (map readable_term ks))) g in
    and_from (readable_term k n) (all_of (map (λ a. a n) (map readable_term (ks ++ t ∷ [])))) q.0 (one_more n ks t q.1 h)

some_more : (n : ℕ) (ts : List Term) (t : Term) → AreGood n ts → readable_term t n ≡ true → some_and_all (map (λ a. a n) (map readable_term (ts ++ t ∷ []))) ≡ true
some_more n [] t g h = one_more n [] t g h
some_more n (k ∷ ks) t g h = one_more n (k ∷ ks) t g h

put_good : (n : ℕ) (ts : List Term) (e : Term) → AreGood n ts → readable_term e n ≡ true → IsGood n (put_of ts e)
put_good n [] e g h = h
put_good n (a ∷ []) e g h = h
put_good n (a ∷ i ∷ []) e g h =
    let q = and_parts (readable_term a n) (readable_term i n && true) g in
    let r = and_parts (readable_term i n) true q.1 in
    term_good (Term-F.Put a i e) n (and_from (readable_term a n) (readable_term i n && readable_term e n) q.0 (and_from (readable_term i n) (readable_term e n) r.0 h))
put_good n (a ∷ i ∷ j ∷ ts) e g h = h

applied_good : (hd : Head) (n : ℕ) (ts : List Term) (v : Part) → AreGood n ts → IsGood n v → IsGood n (applied hd ts v)
applied_good heads.Put n ts v g h = put_good n ts (as_term v) g (as_term_good n v h)
applied_good (heads.Named w) n ts v g h = go (is_upper w) refl
  where
    args : List Term
    args = ts ++ as_term v ∷ []

    all : some_and_all (map (λ a. a n) (map readable_term args)) ≡ true
    all = some_more n ts (as_term v) g (as_term_good n v h)

    go : (u : Bool) → is_upper w ≡ u → IsGood n (cond u (parts.Formula (roll-Formula (Formula-F.App w args))) (parts.Term (roll-Term (Term-F.Fun w args))))
    go true e = formula_good (Formula-F.App w args) n (and_from (is_upper w) (some_and_all (map (λ a. a n) (map readable_term args))) e all)
    go false e = term_good (Term-F.Fun w args) n (and_from (not (is_upper w)) (some_and_all (map (λ a. a n) (map readable_term args))) (ap not e) all)

mutual
  pub good : (t : Tree) (env : List Binder) → IsFormed env t → IsGood (length env) (part env t)
  good (leaf l) env f = leaf_good l env f
  good (prefix p t) env f = prefixed_good p env (part (inner p env) t) f.0 (good t (inner p env) f.2)
  good (binary op l r) env f = joined_good op (length env) (part env l) (part env r) (good l env f.2) (good r env f.3)
  good (group t) env f = good t env f
  good (index t u) env f = term_good (Term-F.Read (as_term (part env t)) (as_term (part env u))) (length env) (two_terms (length env) (part env t) (part env u) (good t env f.2) (good u env f.3))
  good (call h ts t) env f = applied_good h (length env) (values env ts) (part env t) (goods ts env f.1) (good t env f.3)

  goods : (ts : Trees) (env : List Binder) → AreFormed env ts → AreGood (length env) (values env ts)
  goods none env f = refl
  goods (more ts t) env f = one_more (length env) (values env ts) (as_term (part env t)) (goods ts env f.0) (as_term_good (length env) (part env t) (good t env f.2))

pub terms_readable : (ts : List Token) (t : Term) → Reads 6 ts (parts.Term t) → readable_term t 0 ≡ true
terms_readable ts t r = subst (IsGood 0) r.value (good r.tree [] r.formed)

pub formulas_readable : (ts : List Token) (f : Formula) → Reads 1 ts (parts.Formula f) → readable_formula f 0 ≡ true
formulas_readable ts f r = subst (IsGood 0) r.value (good r.tree [] r.formed)
