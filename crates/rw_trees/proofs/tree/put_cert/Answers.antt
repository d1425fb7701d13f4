use Rattle.std.proofs.Common.{◌≡◌, ◌<◌, length, set, Some, sym, ap, ◌∙◌, subst}
use Rattle.std.specs.List.{slice_get}
use Rattle.rw_trees.specs.Nodes.{has_obligation, changed, with_cert}
use Rattle.rw_trees.specs.Parts.{tree_place}
use Rattle.rw_trees.proofs.Placed.{obligation_within, obligation_at, set_in}
use Rattle.rw_trees.proofs.tree.put_cert.Goals as goal

pub item_mut-tree-requires : goal.item_mut-tree-requires
item_mut-tree-requires c =
    let place : c.tree_place.result ≡ tree_place c.args.trees.now c.args.place.now.tree = c.tree_place.ensures ∙ ap (λ ts. tree_place ts c.args.place.now.tree) c.as_slice.ensures in
    subst (λ i. i < length c.args.trees.now) (sym place) (obligation_within c.args.place.now c.args.k c.args.trees.now c.requires.there)

pub put_cert-requires : goal.put_cert-requires
put_cert-requires c =
    let place : c.tree_place.result ≡ tree_place c.args.trees.now c.args.place.now.tree = c.tree_place.ensures ∙ ap (λ ts. tree_place ts c.args.place.now.tree) c.as_slice.ensures in
    let at : slice_get c.args.trees.now (tree_place c.args.trees.now c.args.place.now.tree) ≡ Some c.item_mut-tree.result.now = ap (slice_get c.args.trees.now) (sym place) ∙ c.item_mut-tree.ensures.value in
    ap (λ p. has_obligation c.item_mut-tree.result.now.top p c.args.k) c.as_slice-2.ensures ∙ sym (obligation_at c.args.place.now c.args.k c.args.trees.now c.item_mut-tree.result.now at) ∙ c.requires.there

pub returns : goal.returns
returns c =
    let place : c.tree_place.result ≡ tree_place c.args.trees.now c.args.place.now.tree = c.tree_place.ensures ∙ ap (λ ts. tree_place ts c.args.place.now.tree) c.as_slice.ensures in
    let at : slice_get c.args.trees.now (tree_place c.args.trees.now c.args.place.now.tree) ≡ Some c.item_mut-tree.result.now = ap (slice_get c.args.trees.now) (sym place) ∙ c.item_mut-tree.ensures.value in
    let top : c.put_cert.new.self ≡ changed (with_cert c.args.k c.args.cert) c.item_mut-tree.result.now.top c.args.place.now.path.kids = c.put_cert.ensures ∙ ap (changed (with_cert c.args.k c.args.cert) c.item_mut-tree.result.now.top) c.as_slice-2.ensures in
    ap (λ i. set c.args.trees.now i (record { name = c.item_mut-tree.result.now.name; top = c.put_cert.new.self })) place
    ∙ ap (λ n. set c.args.trees.now (tree_place c.args.trees.now c.args.place.now.tree) (record { name = c.item_mut-tree.result.now.name; top = n })) top
    ∙ set_in c.args.place.now.tree (λ n. changed (with_cert c.args.k c.args.cert) n c.args.place.now.path.kids) c.args.trees.now c.item_mut-tree.result.now c.requires.apart at
