-- The polynomial of a term.
use Rattle.std.specs.Prelude.{Bool, true, false, cond, ◌&&◌, ℤ, pos, List, [], ◌∷◌, map}
use Rattle.rw_terms.specs.declared.term.Term.{Term}
use Rattle.rw_terms.specs.declared.term.Term.TheVariants.{Var, Init, Const, Div, Mod, Read, Fun}
use Rattle.rw_terms.specs.declared.term.Term.TheOpen.{Term-F}
use Rattle.rw_terms.specs.declared.term.Term.TheFolds.{fold-Term, para-Term}
use Rattle.rw_arith.specs.declared.poly.Summand.{Summand}
use Rattle.rw_arith.specs.declared.poly.Expansion.{Expansion}
use Rattle.rw_arith.specs.declared.poly.Expansion.TheVariants.{Polynomial, Unfit}
use Rattle.rw_arith.specs.Polynomials.{is_zero, sum, negated, difference, product}

-- a number, which is no summand where it is 0
abbrev pub constant : ℤ → Expansion
constant n = Polynomial (cond (is_zero n) [] (record { times = n; atoms = [] } ∷ []))

-- an atom as a polynomial
abbrev pub atom : Term → Expansion
atom t = Polynomial (record { times = pos 1; atoms = t ∷ [] } ∷ [])

-- The atoms are names, quotients, rests, reads and function applications; a `put` and a binder have no polynomial.
abbrev pub expand_step : Term-F (Term × Expansion) → Expansion
expand_step (Term-F.Lit n) = constant n
expand_step (Term-F.Var x) = atom (Var x)
expand_step (Term-F.Init x) = atom (Init x)
expand_step (Term-F.Const x) = atom (Const x)
expand_step (Term-F.Bound _) = Unfit
expand_step (Term-F.Neg a) = negated a.1
expand_step (Term-F.Add a b) = sum a.1 b.1
expand_step (Term-F.Sub a b) = difference a.1 b.1
expand_step (Term-F.Mul a b) = product a.1 b.1
expand_step (Term-F.Div a b) = atom (Div a.0 b.0)
expand_step (Term-F.Mod a b) = atom (Mod a.0 b.0)
expand_step (Term-F.Read a i) = atom (Read a.0 i.0)
expand_step (Term-F.Put _ _ _) = Unfit
expand_step (Term-F.Fun f args) = atom (Fun f (map (λ a. a.0) args))

-- expanded from the inside, the left operand first
abbrev pub expanded : Term → Expansion
expanded = para-Term Expansion expand_step

-- no `put` and no binder outside an atom
abbrev pub is_polynomial_step : Term-F Bool → Bool
is_polynomial_step (Term-F.Lit _) = true
is_polynomial_step (Term-F.Var _) = true
is_polynomial_step (Term-F.Init _) = true
is_polynomial_step (Term-F.Const _) = true
is_polynomial_step (Term-F.Bound _) = false
is_polynomial_step (Term-F.Neg a) = a
is_polynomial_step (Term-F.Add a b) = a && b
is_polynomial_step (Term-F.Sub a b) = a && b
is_polynomial_step (Term-F.Mul a b) = a && b
is_polynomial_step (Term-F.Div _ _) = true
is_polynomial_step (Term-F.Mod _ _) = true
is_polynomial_step (Term-F.Read _ _) = true
is_polynomial_step (Term-F.Put _ _ _) = false
is_polynomial_step (Term-F.Fun _ _) = true

-- whether no `put` and no binder stands outside an atom
abbrev pub is_polynomial : Term → Bool
is_polynomial = fold-Term Bool is_polynomial_step
