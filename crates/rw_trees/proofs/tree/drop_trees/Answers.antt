use Rattle.std.proofs.Common.{◌≡◌, ◌+◌, ◌<◌, suc, length, remove, Some, sym, ap, ◌∙◌, arith}
use Rattle.std.specs.List.{slice_get}
use Rattle.std.proofs.lemmas.List.Edits.{length-remove}
use Rattle.rw_trees.specs.declared.node.Tree.{Tree}
use Rattle.rw_edits.specs.Names.{goes_with}
use Rattle.rw_trees.proofs.Kids.{item_at}
use Rattle.rw_trees.proofs.Dropped.{left, tree_stays, tree_goes}
use Rattle.rw_trees.proofs.tree.drop_trees.Goals as goal
use Rattle.rw_trees.proofs.tree.drop_trees.Goals.{then-goes_with, else-goes_with}

pub loop-seen-preserved : goal.loop-seen-preserved
loop-seen-preserved c =
    let within : c.loop-seen.at < length c.loop-seen.trees = omega (arith, c.loop-seen.invariant.count, c.loop-seen-test.true, c.len-seen-end.ensures) in
    let there : slice_get c.loop-seen.trees c.loop-seen.at ≡ Some c.index-as_slice-at.result = item_at c.loop-seen.trees c.as_slice.result.now c.loop-seen.at c.index-as_slice-at.result c.as_slice.ensures c.index-as_slice-at.is within in
    let test : goes_with c.args.name.now c.index-as_slice-at.result.name ≡ c.goes_with.result = ap (λ (t : Tree). goes_with c.args.name.now t.name) c.index-as_slice-at.is ∙ sym c.goes_with.ensures in
    let shorter : length (remove c.loop-seen.trees c.loop-seen.at) + 1 ≡ length c.loop-seen.trees = length-remove c.loop-seen.trees c.loop-seen.at within in
    elim c.if-goes_with.branch [
      | then-goes_with w ↦ (let now : c.if-goes_with.trees ≡ remove c.loop-seen.trees c.loop-seen.at = w.trees-is ∙ w.remove.ensures.rest in
          let size : length c.if-goes_with.trees ≡ length (remove c.loop-seen.trees c.loop-seen.at) = ap length now in record {
            trees = ap (left c.args.name.now c.if-goes_with.at) now ∙ ap (λ i. left c.args.name.now i (remove c.loop-seen.trees c.loop-seen.at)) w.at-is
                ∙ tree_goes c.args.name.now c.loop-seen.at c.loop-seen.trees c.index-as_slice-at.result there (test ∙ w.if-goes_with.true) ∙ c.loop-seen.invariant.trees;
            count = omega (arith, c.loop-seen.invariant.count, size, shorter, w.at-is);
          })
      | else-goes_with w ↦ (let next : c.if-goes_with.at ≡ suc c.loop-seen.at = w.at-is ∙ omega arith in
          let size : length c.if-goes_with.trees ≡ length c.loop-seen.trees = ap length w.trees-is in record {
            trees = ap (left c.args.name.now c.if-goes_with.at) w.trees-is ∙ ap (λ i. left c.args.name.now i c.loop-seen.trees) next
                ∙ tree_stays c.args.name.now c.loop-seen.at c.loop-seen.trees c.index-as_slice-at.result there (test ∙ w.if-goes_with.false) ∙ c.loop-seen.invariant.trees;
            count = omega (arith, c.loop-seen.invariant.count, size, next);
          })
    ]
