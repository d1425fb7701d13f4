use Rattle.rw_subst.proofs.Joining.{nonzero_size}
use Rattle.rw_subst.proofs.counting.size_of_nonzero.Goals as goal

pub returns : goal.returns
returns c = nonzero_size c.args.divisor.now c.above.result c.size_of_comparison.result c.size_of_comparison.ensures.compared c.above.ensures.weight c.above.ensures.depth
