-- How many nodes there are with a step.
use Rattle.std.proofs.Common.{◌≡◌, ℕ, zero, suc, ◌+◌, ◌-◌, ◌≤◌, ◌<◌, List, [], ◌∷◌, length, map, take, ap, arith, Some}
use Rattle.rw_edits.specs.declared.edit.Step.{Step}
use Rattle.rw_trees.specs.declared.node.Node.{Node, out-Node}
use Rattle.rw_edits.specs.Counts.{kids_of}
use Rattle.rw_trees.specs.Nodes.{look, renewed, fresh_node, size, total}
use Rattle.rw_trees.specs.Parts.{set_step}
use Rattle.rw_trees.proofs.Counts.{size-out, size_changed, size_renewed, size_look}

-- a node within a tree of few nodes has few
pub few_within : (main node : Node) (path : List ℕ) → look main path ≡ Some node → size main ≤ 2048 → size node ≤ 2048
few_within main node path there few = let less : size node ≤ size main = size_look main node path there in omega (arith, less, few)

-- the nodes of the tree but for those of the node, and those of the node with the step
pub nodes_after : (main node : Node) (path : List ℕ) (s : Step) → look main path ≡ Some node →
    size main - size node + (1 + total (map size (take (kids_of s) (out-Node node).kids)) + (kids_of s - length (out-Node node).kids)) ≡ size (set_step path (Some s) main)
nodes_after main node path s there =
    let change : size (set_step path (Some s) main) + size node ≡ size main + size (renewed (fresh_node (Some s)) node) = size_changed (renewed (fresh_node (Some s))) main node path there in
    let with_step : size (renewed (fresh_node (Some s)) node) ≡ suc (total (map size (take (kids_of s) (out-Node node).kids)) + (kids_of s - length (out-Node node).kids)) = size_renewed (Some s) node in
    let less : size node ≤ size main = size_look main node path there in
    omega (arith, change, with_step, less)

-- a node within a tree has no more nodes
pub less_within : (main node : Node) (path : List ℕ) → look main path ≡ Some node → size node ≤ size main
less_within main node path there = size_look main node path there

total_take : (k : ℕ) (xs : List Node) → total (map size (take k xs)) ≤ total (map size xs)
total_take zero [] = omega arith
total_take zero (x ∷ xs) = omega arith
total_take (suc k) [] = omega arith
total_take (suc k) (x ∷ xs) = let rest : total (map size (take k xs)) ≤ total (map size xs) = total_take k xs in omega (arith, rest)

-- the kids that stay are fewer than the nodes of a tree
pub few_taken : (node : Node) (k : ℕ) (kids : List Node) → kids ≡ (out-Node node).kids → size node ≤ 2048 → total (map size (take k kids)) < 2048
few_taken node k kids is few =
    let all : size node ≡ suc (total (map size (out-Node node).kids)) = size-out node in
    let same : total (map size kids) ≡ total (map size (out-Node node).kids) = ap (λ ks. total (map size ks)) is in
    let some : total (map size (take k kids)) ≤ total (map size kids) = total_take k kids in
    omega (arith, all, same, some, few)
