use Rattle.std.proofs.Common.{refl, arith}
use Rattle.std.specs.Option.{option_copied}
use Rattle.rw_trees.proofs.Kids.{item_at}
use Rattle.rw_derivation.specs.Seen.{seen}
use Rattle.rw_derivation.proofs.Weighing.{kid_next_weighed, node_sums}
use Rattle.rw_derivation.proofs.weight.+weights.Goals as goal

pub kids_weight-loop-i-preserved : goal.kids_weight-loop-i-preserved
kids_weight-loop-i-preserved t c = record {
  fits = let sum = c.saturating_add-sum.ensures in omega (arith, sum);
  is = λ path. kid_next_weighed (seen c.args.around.now) _ c.loop-i.sum c.in_ok-weight.weight c.saturating_add-sum.result _ c.args.kids.now c.args.children.now c.loop-i.i path c.index-kids-i.result (option_copied c.at.result)
      (item_at _ _ _ _ refl c.index-kids-i.is c.loop-i-test.true) c.at.ensures c.in_ok-weight.ensures c.saturating_add-sum.ensures (c.loop-i.invariant.is path);
}

pub node_weight-returns : goal.node_weight-returns
node_weight-returns t c = λ path.
    node_sums (seen c.args.around.now) _ c.args.node.now (option_copied c.args.given) path c.in_ok-derived.derived c.as_slice.result.now c.as_slice-2.result.now c.as_slice-children.result.now c.given_weight-own.result c.sequents_weight-owed.result c.in_ok-below.below c.saturating_add.result c.saturating_add-2.result
    c.in_ok-derived.ensures c.as_slice.ensures c.as_slice-2.ensures c.as_slice-children.ensures
    c.given_weight-own.ensures c.sequents_weight-owed.ensures (c.in_ok-below.ensures path) c.saturating_add.ensures c.saturating_add-2.ensures
