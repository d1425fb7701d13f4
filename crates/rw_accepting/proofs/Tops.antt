-- The trees of a project by their names.
use Rattle.std.proofs.Common.{◌≡◌, ℕ, ◌≤◌, Bool, true, false, if◌then◌else◌, List, [], ◌∷◌, Option, Some, None, sym, ap, ◌∙◌}
use Rattle.std.specs.Option.{is_some, option_and_then}
use Rattle.rw_terms.specs.Validity.{Each}
use Rattle.rw_edits.specs.declared.edit.Place.{Place}
use Rattle.rw_edits.specs.declared.edit.TreeName.{TreeName}
use Rattle.rw_edits.specs.Names.{is_tree}
use Rattle.rw_trees.specs.declared.node.Node.{Node}
use Rattle.rw_trees.specs.declared.node.Tree.{Tree}
use Rattle.rw_trees.specs.Nodes.{size, look}
use Rattle.rw_trees.specs.Parts.{top_of, node_of}

-- each tree has few nodes, and so has that of a name
pub top_few : (trees : List Tree) (t : TreeName) (n : Node) → Each (λ (u : Tree). size u.top ≤ 2048) trees → top_of trees t ≡ Some n → size n ≤ 2048
top_few [] t n few e = absurd (cc)
top_few (u ∷ us) t n few e = go (is_tree t u.name) e (top_few us t n few.1)
  where
    go : (b : Bool) → (if b then Some u.top else top_of us t) ≡ Some n → (top_of us t ≡ Some n → size n ≤ 2048) → size n ≤ 2048
    go true is rest = let same : u.top ≡ n = cc in rw (sym same) few.0
    go false is rest = rest is

-- the node of a place stands in the tree of its name
pub top_look : (trees : List Tree) (q : Place) (n : Node) → top_of trees q.tree ≡ Some n → is_some (node_of trees q) ≡ is_some (look n q.path.kids)
top_look trees q n e = ap (λ top. is_some (option_and_then (λ m. look m q.path.kids) top)) e
