-- Which programs are code.
use Rattle.std.specs.Prelude.{Bool, true, false, ◌&&◌, List, [], ◌∷◌, map}
use Rattle.rw_terms.specs.declared.term.Term.{Term}
use Rattle.rw_terms.specs.declared.term.Term.TheOpen.{Term-F}
use Rattle.rw_terms.specs.declared.term.Term.TheFolds.{fold-Term}
use Rattle.rw_terms.specs.declared.term.Formula.{Formula}
use Rattle.rw_terms.specs.declared.term.Formula.TheOpen.{Formula-F}
use Rattle.rw_terms.specs.declared.term.Formula.TheFolds.{fold-Formula}
use Rattle.rw_terms.specs.AllOf.{all_of}
use Rattle.rw_programs.specs.declared.prog.Arm.{Arm}
use Rattle.rw_programs.specs.declared.prog.Prog.{Prog, Spec, Kid, Skip, Assign, If', Do', Call, OpCall, Row_of-Arm, end_of-Arm, more_of-Arm}
use Rattle.rw_programs.specs.Made.{Seq, Block, Con, ModBlock}

-- one layer of a term, from what its parts are
abbrev pub plain_step : Term-F Bool → Bool
plain_step (Term-F.Lit _) = true
plain_step (Term-F.Var _) = true
plain_step (Term-F.Init _) = false
plain_step (Term-F.Const _) = false
plain_step (Term-F.Bound _) = true
plain_step (Term-F.Neg a) = a
plain_step (Term-F.Add a b) = a && b
plain_step (Term-F.Sub a b) = a && b
plain_step (Term-F.Mul a b) = a && b
plain_step (Term-F.Div a b) = a && b
plain_step (Term-F.Mod a b) = a && b
plain_step (Term-F.Read a i) = a && i
plain_step (Term-F.Put a i e) = a && (i && e)
plain_step (Term-F.Fun _ args) = all_of args

-- no initial variable and no constant is in the term
abbrev pub is_plain : Term → Bool
is_plain = fold-Term Bool plain_step

-- so in each of the terms
abbrev pub are_plain : List Term → Bool
are_plain ts = all_of (map is_plain ts)

-- one layer of a guard, from what its parts are
abbrev pub guard_step : Formula-F Bool → Bool
guard_step Formula-F.True = true
guard_step Formula-F.False = true
guard_step (Formula-F.Eq t u) = is_plain t && is_plain u
guard_step (Formula-F.Less t u) = is_plain t && is_plain u
guard_step (Formula-F.AtMost t u) = is_plain t && is_plain u
guard_step (Formula-F.Not f) = f
guard_step (Formula-F.And f g) = f && g
guard_step (Formula-F.Or f g) = f && g
guard_step (Formula-F.Imp f g) = f && g
guard_step (Formula-F.All _ _) = false
guard_step (Formula-F.Any _ _) = false
guard_step (Formula-F.App _ _) = false

-- no initial variable, constant, predicate or quantifier is in the guard
abbrev pub is_guard : Formula → Bool
is_guard = fold-Formula Bool guard_step

abbrev mutual
  -- no specification, kid or block of constants is in the program, and its terms, guards and variants are those of code
  pub is_code : Prog → Bool
  is_code (Spec w) = false
  is_code (Kid n) = false
  is_code Skip = true
  is_code (Assign names terms) = are_plain terms
  is_code (Seq c d) = is_code c && is_code d
  is_code (If' shape arms) = are_code arms
  is_code (Do' variant shape arms) = is_plain variant && are_code arms
  is_code (Block x sort c) = is_code c
  is_code (Con pins c) = false
  is_code (Call f args names) = are_plain args
  is_code (OpCall m o args names) = are_plain args
  is_code (ModBlock m c) = is_code c

  -- the same of guards and the programs behind them
  pub are_code : {m : _} → Row_of-Arm m → Bool
  are_code end_of-Arm = true
  are_code (more_of-Arm g c rest) = is_guard g && (is_code c && are_code rest)

-- the same of a list of guards and programs
abbrev pub arms_are_code : List Arm → Bool
arms_are_code [] = true
arms_are_code (a ∷ rest) = is_guard a.guard && (is_code a.body && arms_are_code rest)
