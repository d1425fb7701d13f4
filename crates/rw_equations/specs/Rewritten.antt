-- A term put for each outermost part that is another.
use Rattle.std.specs.Prelude.{Bool, true, false, map}
use Rattle.rw_terms.specs.declared.term.Term.{Term}
use Rattle.rw_terms.specs.declared.term.Term.TheVariants.{Lit, Var, Init, Const, Bound, Neg, Add, Sub, Mul, Div, Mod, Read, Put, Fun}
use Rattle.rw_terms.specs.declared.term.Term.TheOpen.{Term-F}
use Rattle.rw_terms.specs.declared.term.Term.TheViews.{out-Term}
use Rattle.rw_terms.specs.declared.term.Term.TheFolds.{para-Term}
use Rattle.rw_terms.specs.declared.term.Formula.{Formula}
use Rattle.rw_terms.specs.declared.term.Formula.TheVariants as formula
use Rattle.rw_terms.specs.declared.term.Formula.TheOpen.{Formula-F}
use Rattle.rw_terms.specs.declared.term.Formula.TheFolds.{fold-Formula}
use Rattle.rw_terms.specs.Same.{same_term}

-- the term of these parts
abbrev pub assembled : {X : Type 0} → (X → Term) → Term-F X → Term
assembled p (Term-F.Lit n) = Lit n
assembled p (Term-F.Var x) = Var x
assembled p (Term-F.Init x) = Init x
assembled p (Term-F.Const x) = Const x
assembled p (Term-F.Bound k) = Bound k
assembled p (Term-F.Neg a) = Neg (p a)
assembled p (Term-F.Add a b) = Add (p a) (p b)
assembled p (Term-F.Sub a b) = Sub (p a) (p b)
assembled p (Term-F.Mul a b) = Mul (p a) (p b)
assembled p (Term-F.Div a b) = Div (p a) (p b)
assembled p (Term-F.Mod a b) = Mod (p a) (p b)
assembled p (Term-F.Read a i) = Read (p a) (p i)
assembled p (Term-F.Put a i e) = Put (p a) (p i) (p e)
assembled p (Term-F.Fun f args) = Fun f (map p args)

-- the first at true, and else the second
abbrev pub chosen : Bool → Term → Term → Term
chosen true t u = t
chosen false t u = u

module _ (old new : Term) where
  -- a part that is the old term becomes the new one, and any other is made of its parts
  abbrev pub rewritten_step : Term-F (Term × Term) → Term
  rewritten_step x = chosen (same_term old (assembled (λ e. e.0) x)) new (assembled (λ e. e.1) x)

  -- the term with the new one for each outermost old one
  abbrev pub rewritten_term : Term → Term
  rewritten_term = para-Term Term rewritten_step

  -- the same of the parts alone
  abbrev pub parts_rewritten : Term → Term
  parts_rewritten t = assembled rewritten_term (out-Term t)

  -- a formula from its parts, with its own terms rewritten
  abbrev pub rewritten_formula_step : Formula-F Formula → Formula
  rewritten_formula_step Formula-F.True = formula.True
  rewritten_formula_step Formula-F.False = formula.False
  rewritten_formula_step (Formula-F.Eq t u) = formula.Eq (rewritten_term t) (rewritten_term u)
  rewritten_formula_step (Formula-F.Less t u) = formula.Less (rewritten_term t) (rewritten_term u)
  rewritten_formula_step (Formula-F.AtMost t u) = formula.AtMost (rewritten_term t) (rewritten_term u)
  rewritten_formula_step (Formula-F.Not f) = formula.Not f
  rewritten_formula_step (Formula-F.And f g) = formula.And f g
  rewritten_formula_step (Formula-F.Or f g) = formula.Or f g
  rewritten_formula_step (Formula-F.Imp f g) = formula.Imp f g
  rewritten_formula_step (Formula-F.All sort f) = formula.All sort f
  rewritten_formula_step (Formula-F.Any sort f) = formula.Any sort f
  rewritten_formula_step (Formula-F.App p args) = formula.App p (map rewritten_term args)

  -- the formula with the new term for each outermost old one
  abbrev pub rewritten_formula : Formula → Formula
  rewritten_formula = fold-Formula Formula rewritten_formula_step
