-- A step that is refused puts all back.
use Rattle.std.proofs.Common.{◌≡◌, ℕ, List, ap, ◌∙◌, Some, IsSome}
use Rattle.std.specs.Option.{option_map, is_some}
use Rattle.rw_nodes.specs.declared.node.Node.{Node}
use Rattle.rw_nodes.specs.declared.parts.Parts.{Parts}
use Rattle.rw_nodes.specs.Nodes.{look, changed, renewed}
use Rattle.rw_nodes.proofs.Grafts.{grafted_back, look_changed}
use Rattle.rw_nodes.proofs.Making.{found}

-- the parts with another main tree
abbrev pub with_main : Parts → Node → Parts
with_main parts n = record parts { main = n }

-- the node is there after a change too
pub still_there : (f : Node → Node) (n : Node) (path : List ℕ) → IsSome (look n path) → IsSome (look (changed f n path) path)
still_there f n path h =
    let t = found n path h in
    ap is_some (look_changed f n path ∙ ap (option_map f) t.1)

-- a second graft puts back what the first one took
pub put_back : (parts : Parts) (path : List ℕ) (fresh rest : Node) → IsSome (look parts.main path) → ((m : Node) → look parts.main path ≡ Some m → rest ≡ renewed m fresh) →
    with_main parts (changed (renewed rest) (changed (renewed fresh) parts.main path) path) ≡ parts
put_back parts path fresh rest there is =
    let t = found parts.main path there in
    ap (with_main parts) (ap (λ o. changed (renewed o) (changed (renewed fresh) parts.main path) path) (is t.0 t.1) ∙ grafted_back parts.main t.0 fresh path t.1)
