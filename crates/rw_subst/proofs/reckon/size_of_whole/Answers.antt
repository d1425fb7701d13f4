use Rattle.std.proofs.Common.{arith}
use Rattle.rw_subst.specs.Leaves.{rebuilt_formula}
use Rattle.rw_subst.specs.Rules.{leaves_of}
use Rattle.rw_subst.proofs.Sizes.{formula_depth_within, formula_as_deep}
use Rattle.rw_subst.proofs.reckon.size_of_whole.Goals as goal

pub returns-then-depth-eq4294967295-clause-weight : goal.returns-then-depth-eq4294967295-clause-weight
returns-then-depth-eq4294967295-clause-weight c =
    omega (
      arith,
      formula_as_deep (leaves_of c.args.rule.now) c.args.formula.now 0,
      formula_depth_within (rebuilt_formula (leaves_of c.args.rule.now) c.args.formula.now 0),
    )

pub returns-then-depth-eq4294967295-clause-depth : goal.returns-then-depth-eq4294967295-clause-depth
returns-then-depth-eq4294967295-clause-depth c = omega (arith, formula_as_deep (leaves_of c.args.rule.now) c.args.formula.now 0)
