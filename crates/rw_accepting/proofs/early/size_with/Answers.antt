use Rattle.std.proofs.Common.{arith}
use Rattle.rw_accepting.proofs.Sizes.{few_taken}
use Rattle.rw_accepting.proofs.early.size_with.Goals as goal

pub sizes-requires : goal.sizes-requires
sizes-requires c = few_taken c.args.node.now c.args.kids c.as_slice-old.result.now c.as_slice-old.ensures c.requires.few

pub overflow_add-result : goal.overflow_add-result
overflow_add-result c =
    let few = few_taken c.args.node.now c.args.kids c.as_slice-old.result.now c.as_slice-old.ensures c.requires.few in
    let is = c.sizes.ensures in omega (arith, few, is)
