-- What is seen in a tree after a change of one node.
use Rattle.std.proofs.Common.{◌≡◌, ℕ, List, refl, ap, ◌∙◌, Option, Some, None}
use Rattle.std.specs.Option.{option_and_then}
use Rattle.rw_trees.specs.declared.node.Node.{Node}
use Rattle.rw_trees.specs.Nodes.{look, changed, Layer, seen}
use Rattle.rw_trees.specs.Edits.{behind}
use Rattle.rw_trees.proofs.Changes.{seen_before, seen_behind, seen_split}

-- what is seen after a change at a path, where the node there is this new one
abbrev pub seen_after : Node → Option (List ℕ) → Option Layer → Option Layer
seen_after new None old = old
seen_after new (Some r) old = seen new r

module _ (f : Node → Node) (n : Node) (q : List ℕ) (m : Node) (there : look n q ≡ Some m) where
  by_rest : (p : List ℕ) (o : Option (List ℕ)) → behind q p ≡ o → seen (changed f n q) p ≡ seen_after (f m) o (seen n p)
  by_rest p None e = seen_before f n q p e
  by_rest p (Some r) e = seen_behind f n q p r e ∙ ap (option_and_then (λ n. seen (f n) r)) there

  pub changed_seen : (p : List ℕ) → seen (changed f n q) p ≡ seen_after (f m) (behind q p) (seen n p)
  changed_seen p = by_rest p (behind q p) refl

  pub split_seen : (p r : List ℕ) → behind q p ≡ Some r → seen n p ≡ seen m r
  split_seen p r e = seen_split n q p r e ∙ ap (option_and_then (λ n. seen n r)) there
