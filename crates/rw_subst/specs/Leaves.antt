-- A term and a formula built again, with a term put for each name and each binder.
use Rattle.std.specs.Prelude.{ℕ, suc, List, map}
use Rattle.rw_terms.specs.declared.term.Term.{Term}
use Rattle.rw_terms.specs.declared.term.Term.TheVariants.{Lit, Neg, Add, Sub, Mul, Div, Mod, Read, Put, Fun}
use Rattle.rw_terms.specs.declared.term.Term.TheOpen.{Term-F}
use Rattle.rw_terms.specs.declared.term.Term.TheFolds.{fold-Term}
use Rattle.rw_terms.specs.declared.term.Formula.{Formula}
use Rattle.rw_terms.specs.declared.term.Formula.TheVariants as formula
use Rattle.rw_terms.specs.declared.term.Formula.TheOpen.{Formula-F}
use Rattle.rw_terms.specs.declared.term.Formula.TheFolds.{fold-Formula}
use Rattle.rw_subst.specs.declared.slot.Form.{Form}
use Rattle.rw_subst.specs.declared.slot.Form.TheVariants as form

-- what is put for a name in a form, and for a binder, where so many binders are around it
pub record Leaves : Type 0 where
  pub name : ℕ → Form → List ℕ → Term
  pub binder : ℕ → ℕ → Term

module _ (leaves : Leaves) where
  abbrev pub rebuilt_step : ℕ → Term-F Term → Term
  rebuilt_step k (Term-F.Lit n) = Lit n
  rebuilt_step k (Term-F.Var x) = leaves.name k form.Variable x
  rebuilt_step k (Term-F.Init x) = leaves.name k form.Initial x
  rebuilt_step k (Term-F.Const x) = leaves.name k form.Constant x
  rebuilt_step k (Term-F.Bound j) = leaves.binder k j
  rebuilt_step k (Term-F.Neg a) = Neg a
  rebuilt_step k (Term-F.Add a b) = Add a b
  rebuilt_step k (Term-F.Sub a b) = Sub a b
  rebuilt_step k (Term-F.Mul a b) = Mul a b
  rebuilt_step k (Term-F.Div a b) = Div a b
  rebuilt_step k (Term-F.Mod a b) = Mod a b
  rebuilt_step k (Term-F.Read a i) = Read a i
  rebuilt_step k (Term-F.Put a i e) = Put a i e
  rebuilt_step k (Term-F.Fun f args) = Fun f args

  abbrev pub rebuilt_term : ℕ → Term → Term
  rebuilt_term k = fold-Term Term (rebuilt_step k)

  abbrev pub rebuilt_formula_step : Formula-F (ℕ → Formula) → ℕ → Formula
  rebuilt_formula_step Formula-F.True k = formula.True
  rebuilt_formula_step Formula-F.False k = formula.False
  rebuilt_formula_step (Formula-F.Eq t u) k = formula.Eq (rebuilt_term k t) (rebuilt_term k u)
  rebuilt_formula_step (Formula-F.Less t u) k = formula.Less (rebuilt_term k t) (rebuilt_term k u)
  rebuilt_formula_step (Formula-F.AtMost t u) k = formula.AtMost (rebuilt_term k t) (rebuilt_term k u)
  rebuilt_formula_step (Formula-F.Not f) k = formula.Not (f k)
  rebuilt_formula_step (Formula-F.And f g) k = formula.And (f k) (g k)
  rebuilt_formula_step (Formula-F.Or f g) k = formula.Or (f k) (g k)
  rebuilt_formula_step (Formula-F.Imp f g) k = formula.Imp (f k) (g k)
  rebuilt_formula_step (Formula-F.All sort f) k = formula.All sort (f (suc k))
  rebuilt_formula_step (Formula-F.Any sort f) k = formula.Any sort (f (suc k))
  rebuilt_formula_step (Formula-F.App p args) k = formula.App p (map (rebuilt_term k) args)

  abbrev pub rebuilt_formula : Formula → ℕ → Formula
  rebuilt_formula = fold-Formula (ℕ → Formula) rebuilt_formula_step
