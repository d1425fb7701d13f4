-- The kids of a node that is shaped as its step says.
use Rattle.std.proofs.Common.{◌≡◌, ℕ, suc, ◌<◌, List, ◌∷◌, length, get_or, refl, ap, ◌∙◌, Some}
use Rattle.std.specs.Option.{option_and_then}
use Rattle.std.specs.List.{slice_get}
use Rattle.std.proofs.lemmas.Option.{slice_get_read}
use Rattle.rw_trees.specs.declared.node.Node.{Node, out-Node}
use Rattle.rw_trees.specs.Nodes.{Layer, seen}
use Rattle.rw_trees.proofs.Changes.{seen_kid}

-- what is seen from a kid is seen from the node
pub down : (n kid : Node) (i : ℕ) → slice_get (out-Node n).kids i ≡ Some kid → (p : List ℕ) → seen n (suc i ∷ p) ≡ seen kid p
down n kid i is p = seen_kid n (suc i) p ∙ ap (option_and_then (λ m. seen m p)) is

-- a fact of each layer holds of those of a kid
pub kid_each : (Q : Layer → Type 0) (n kid : Node) (i : ℕ) → ((p : List ℕ) (y : Layer) → seen n p ≡ Some y → Q y) → slice_get (out-Node n).kids i ≡ Some kid → (p : List ℕ) (y : Layer) → seen kid p ≡ Some y → Q y
kid_each Q n kid i h is p y e = h (suc i ∷ p) y (down n kid i is p ∙ e)

pub item_at : {A : Type 0} (xs ys : List A) (i : ℕ) (x : A) → ys ≡ xs → x ≡ get_or ys i x → i < length xs → slice_get xs i ≡ Some x
item_at xs ys i x e is h = slice_get_read xs (length xs) i x refl h (is ∙ ap (λ zs. get_or zs i x) e)
