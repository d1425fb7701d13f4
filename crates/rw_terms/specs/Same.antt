-- Whether two terms or formulas are one, as a test.
use Rattle.std.specs.Prelude.{Bool, true, false, ◌&&◌, ℤ, pos, negsuc, nat_eq, List, [], ◌∷◌, map, bytes_eq}
use Rattle.rw_terms.specs.declared.term.Term.{Term}
use Rattle.rw_terms.specs.declared.term.Term.TheOpen.{Term-F}
use Rattle.rw_terms.specs.declared.term.Term.TheViews.{out-Term}
use Rattle.rw_terms.specs.declared.term.Term.TheFolds.{fold-Term}
use Rattle.rw_terms.specs.declared.term.Formula.{Formula}
use Rattle.rw_terms.specs.declared.term.Formula.TheOpen.{Formula-F}
use Rattle.rw_terms.specs.declared.term.Formula.TheViews.{out-Formula}
use Rattle.rw_terms.specs.declared.term.Formula.TheFolds.{fold-Formula}
use Rattle.rw_terms.specs.Formed.{same_sort}

-- the same integer
abbrev pub same_int : ℤ → ℤ → Bool
same_int (pos m) (pos n) = nat_eq m n
same_int (negsuc m) (negsuc n) = nat_eq m n
same_int _ _ = false

-- as many tests as terms, and each test passes the term in its place
abbrev pub all_same : List (Term → Bool) → List Term → Bool
all_same [] [] = true
all_same (t ∷ ts) (u ∷ us) = t u && all_same ts us
all_same _ _ = false

-- the same outermost part, with parts that pass their tests
abbrev pub same_term_layer : Term-F (Term → Bool) → Term-F Term → Bool
same_term_layer (Term-F.Lit m) (Term-F.Lit n) = same_int m n
same_term_layer (Term-F.Var x) (Term-F.Var y) = bytes_eq x y
same_term_layer (Term-F.Init x) (Term-F.Init y) = bytes_eq x y
same_term_layer (Term-F.Const x) (Term-F.Const y) = bytes_eq x y
same_term_layer (Term-F.Bound k) (Term-F.Bound l) = nat_eq k l
same_term_layer (Term-F.Neg a) (Term-F.Neg d) = a d
same_term_layer (Term-F.Add a b) (Term-F.Add d e) = a d && b e
same_term_layer (Term-F.Sub a b) (Term-F.Sub d e) = a d && b e
same_term_layer (Term-F.Mul a b) (Term-F.Mul d e) = a d && b e
same_term_layer (Term-F.Div a b) (Term-F.Div d e) = a d && b e
same_term_layer (Term-F.Mod a b) (Term-F.Mod d e) = a d && b e
same_term_layer (Term-F.Read a b) (Term-F.Read d e) = a d && b e
same_term_layer (Term-F.Put a b c) (Term-F.Put d e f) = a d && (b e && c f)
same_term_layer (Term-F.Fun f args) (Term-F.Fun g more) = bytes_eq f g && all_same args more
same_term_layer _ _ = false

-- the same term
abbrev pub same_term : Term → Term → Bool
same_term = fold-Term (Term → Bool) (λ x u. same_term_layer x (out-Term u))

-- the same outermost part of a formula
abbrev pub same_layer : Formula-F (Formula → Bool) → Formula-F Formula → Bool
same_layer Formula-F.True Formula-F.True = true
same_layer Formula-F.False Formula-F.False = true
same_layer (Formula-F.Eq a b) (Formula-F.Eq d e) = same_term a d && same_term b e
same_layer (Formula-F.Less a b) (Formula-F.Less d e) = same_term a d && same_term b e
same_layer (Formula-F.AtMost a b) (Formula-F.AtMost d e) = same_term a d && same_term b e
same_layer (Formula-F.Not f) (Formula-F.Not h) = f h
same_layer (Formula-F.And f g) (Formula-F.And h k) = f h && g k
same_layer (Formula-F.Or f g) (Formula-F.Or h k) = f h && g k
same_layer (Formula-F.Imp f g) (Formula-F.Imp h k) = f h && g k
same_layer (Formula-F.All s f) (Formula-F.All t h) = same_sort s t && f h
same_layer (Formula-F.Any s f) (Formula-F.Any t h) = same_sort s t && f h
same_layer (Formula-F.App p args) (Formula-F.App q more) = bytes_eq p q && all_same (map same_term args) more
same_layer _ _ = false

-- the same formula
abbrev pub same_formula : Formula → Formula → Bool
same_formula = fold-Formula (Formula → Bool) (λ x g. same_layer x (out-Formula g))
