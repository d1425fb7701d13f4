use Rattle.std.proofs.Common.{◌≡◌, ◌<◌, length, set, Some, IsSome, sym, ap, ◌∙◌, subst}
use Rattle.std.specs.List.{slice_get}
use Rattle.rw_trees.specs.Nodes.{look, changed, renewed}
use Rattle.rw_trees.specs.Parts.{tree_place}
use Rattle.rw_trees.proofs.Placed.{place_within, node_at, set_in}
use Rattle.rw_trees.proofs.tree.graft.Goals as goal

pub item_mut-tree-requires : goal.item_mut-tree-requires
item_mut-tree-requires c =
    let place : c.tree_place.result ≡ tree_place c.args.trees.now c.args.place.now.tree = c.tree_place.ensures ∙ ap (λ ts. tree_place ts c.args.place.now.tree) c.as_slice.ensures in
    subst (λ i. i < length c.args.trees.now) (sym place) (place_within c.args.place.now c.args.trees.now c.requires.there)

pub graft-requires : goal.graft-requires
graft-requires c =
    let place : c.tree_place.result ≡ tree_place c.args.trees.now c.args.place.now.tree = c.tree_place.ensures ∙ ap (λ ts. tree_place ts c.args.place.now.tree) c.as_slice.ensures in
    let at : slice_get c.args.trees.now (tree_place c.args.trees.now c.args.place.now.tree) ≡ Some c.item_mut-tree.result.now = ap (slice_get c.args.trees.now) (sym place) ∙ c.item_mut-tree.ensures.value in
    subst IsSome (node_at c.args.place.now c.args.trees.now c.item_mut-tree.result.now at ∙ ap (look c.item_mut-tree.result.now.top) (sym c.as_slice-2.ensures)) c.requires.there

pub returns-clause-trees : goal.returns-clause-trees
returns-clause-trees c =
    let place : c.tree_place.result ≡ tree_place c.args.trees.now c.args.place.now.tree = c.tree_place.ensures ∙ ap (λ ts. tree_place ts c.args.place.now.tree) c.as_slice.ensures in
    let at : slice_get c.args.trees.now (tree_place c.args.trees.now c.args.place.now.tree) ≡ Some c.item_mut-tree.result.now = ap (slice_get c.args.trees.now) (sym place) ∙ c.item_mut-tree.ensures.value in
    let top : c.graft.new.self ≡ changed (renewed c.args.fresh.now) c.item_mut-tree.result.now.top c.args.place.now.path.kids = c.graft.ensures.node ∙ ap (changed (renewed c.args.fresh.now) c.item_mut-tree.result.now.top) c.as_slice-2.ensures in
    ap (λ i. set c.args.trees.now i (record { name = c.item_mut-tree.result.now.name; top = c.graft.new.self })) place
    ∙ ap (λ n. set c.args.trees.now (tree_place c.args.trees.now c.args.place.now.tree) (record { name = c.item_mut-tree.result.now.name; top = n })) top
    ∙ set_in c.args.place.now.tree (λ n. changed (renewed c.args.fresh.now) n c.args.place.now.path.kids) c.args.trees.now c.item_mut-tree.result.now c.requires.apart at

pub returns-clause-rest : goal.returns-clause-rest
returns-clause-rest c =
    let place : c.tree_place.result ≡ tree_place c.args.trees.now c.args.place.now.tree = c.tree_place.ensures ∙ ap (λ ts. tree_place ts c.args.place.now.tree) c.as_slice.ensures in
    let at : slice_get c.args.trees.now (tree_place c.args.trees.now c.args.place.now.tree) ≡ Some c.item_mut-tree.result.now = ap (slice_get c.args.trees.now) (sym place) ∙ c.item_mut-tree.ensures.value in
    λ m there. c.graft.ensures.rest m (ap (look c.item_mut-tree.result.now.top) c.as_slice-2.ensures ∙ sym (node_at c.args.place.now c.args.trees.now c.item_mut-tree.result.now at) ∙ there)
