use Rattle.std.proofs.Common.{arith}
use Rattle.rw_subst.specs.Rules.{leaves_of}
use Rattle.rw_subst.proofs.Sizes.{formula_as_deep}
use Rattle.rw_subst.proofs.replace.rebuilt.Goals as goal

pub build-requires : goal.build-requires
build-requires c = omega (arith, formula_as_deep (leaves_of c.args.rule.now) c.args.formula.now 0, c.in_ok-fit.ensures.ok.1)
