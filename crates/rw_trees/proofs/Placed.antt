-- A change of the tree of a name, where it stands.
use Rattle.std.proofs.Common.{◌≡◌, ℕ, suc, ◌<◌, Bool, true, false, if◌then◌else◌, List, [], ◌∷◌, map, length, set, Some, IsSome, refl, sym, ap, ◌∙◌, subst, arith}
use Rattle.std.specs.List.{slice_get}
use Rattle.std.specs.Option.{option_and_then}
use Rattle.rw_edits.specs.declared.edit.Place.{Place}
use Rattle.rw_edits.specs.declared.edit.TreeName.{TreeName}
use Rattle.rw_trees.specs.declared.node.Node.{Node}
use Rattle.rw_trees.specs.declared.node.Tree.{Tree}
use Rattle.rw_edits.specs.Names.{is_tree, has_tree, AreApart}
use Rattle.rw_trees.specs.Nodes.{look, has_obligation}
use Rattle.rw_trees.specs.Parts.{tree_name, tree_place, top_of, node_of, obligation_in, has_obligation_at, changed_if, in_tree}
use Rattle.rw_trees.proofs.Named.{or_left, or_right, same_tree}

in_none : (t : TreeName) (f : Node → Node) (ts : List Tree) → has_tree t (map tree_name ts) ≡ false → in_tree t f ts ≡ ts
in_none t f [] h = refl
in_none t f (u ∷ ts) h =
    ap (λ b. changed_if b f u ∷ in_tree t f ts) (or_left (is_tree t u.name) _ h)
    ∙ ap (λ us. u ∷ us) (in_none t f ts (or_right (is_tree t u.name) _ h))

-- where no other has the name, a change of the first is a change of all
pub set_in : (t : TreeName) (f : Node → Node) (ts : List Tree) (u : Tree) → AreApart (map tree_name ts) → slice_get ts (tree_place ts t) ≡ Some u → set ts (tree_place ts t) (record { name = u.name; top = f u.top }) ≡ in_tree t f ts
set_in t f [] u a e = absurd (cc)
set_in t f (v ∷ ts) u a e = go (is_tree t v.name) refl e (λ k. set_in t f ts u a.1 k) where
  go : (b : Bool) → is_tree t v.name ≡ b → slice_get (v ∷ ts) (if b then 0 else suc (tree_place ts t)) ≡ Some u → (slice_get ts (tree_place ts t) ≡ Some u → set ts (tree_place ts t) (record { name = u.name; top = f u.top }) ≡ in_tree t f ts) →
      set (v ∷ ts) (if b then 0 else suc (tree_place ts t)) (record { name = u.name; top = f u.top }) ≡ changed_if b f v ∷ in_tree t f ts
  go true is e rest =
      let same : v ≡ u = cc in
      ap (λ w. record { name = w.name; top = f w.top } ∷ ts) (sym same)
      ∙ ap (λ us. record { name = v.name; top = f v.top } ∷ us) (sym (in_none t f ts (subst (λ x. has_tree x (map tree_name ts) ≡ false) (sym (same_tree t v.name is)) a.0)))
  go false is e rest = ap (λ us. v ∷ us) (rest e)

pub top_at : (t : TreeName) (ts : List Tree) (u : Tree) → slice_get ts (tree_place ts t) ≡ Some u → top_of ts t ≡ Some u.top
top_at t [] u e = absurd (cc)
top_at t (v ∷ ts) u e = go (is_tree t v.name) e (λ k. top_at t ts u k) where
  go : (b : Bool) → slice_get (v ∷ ts) (if b then 0 else suc (tree_place ts t)) ≡ Some u → (slice_get ts (tree_place ts t) ≡ Some u → top_of ts t ≡ Some u.top) → (if b then Some v.top else top_of ts t) ≡ Some u.top
  go true e rest = let same : v ≡ u = cc in ap (λ (w : Tree). Some w.top) same
  go false e rest = rest e

pub place_within : (q : Place) (ts : List Tree) → IsSome (node_of ts q) → tree_place ts q.tree < length ts
place_within q [] h = absurd (cc)
place_within q (v ∷ ts) h = go (is_tree q.tree v.name) h (λ k. place_within q ts k) where
  go : (b : Bool) → IsSome (option_and_then (λ n. look n q.path.kids) (if b then Some v.top else top_of ts q.tree)) → (IsSome (node_of ts q) → tree_place ts q.tree < length ts) → (if b then 0 else suc (tree_place ts q.tree)) < suc (length ts)
  go true h rest = omega arith
  go false h rest = let within : tree_place ts q.tree < length ts = rest h in omega (arith, within)

-- the node of a place is one of the tree that stands there
pub node_at : (q : Place) (ts : List Tree) (u : Tree) → slice_get ts (tree_place ts q.tree) ≡ Some u → node_of ts q ≡ look u.top q.path.kids
node_at q ts u e = ap (option_and_then (λ n. look n q.path.kids)) (top_at q.tree ts u e)

pub obligation_within : (q : Place) (k : ℕ) (ts : List Tree) → has_obligation_at ts q k ≡ true → tree_place ts q.tree < length ts
obligation_within q k [] h = absurd (cc)
obligation_within q k (v ∷ ts) h = go (is_tree q.tree v.name) h (λ g. obligation_within q k ts g) where
  go : (b : Bool) → obligation_in (if b then Some v.top else top_of ts q.tree) q.path.kids k ≡ true → (has_obligation_at ts q k ≡ true → tree_place ts q.tree < length ts) → (if b then 0 else suc (tree_place ts q.tree)) < suc (length ts)
  go true h rest = omega arith
  go false h rest = let within : tree_place ts q.tree < length ts = rest h in omega (arith, within)

pub obligation_at : (q : Place) (k : ℕ) (ts : List Tree) (u : Tree) → slice_get ts (tree_place ts q.tree) ≡ Some u → has_obligation_at ts q k ≡ has_obligation u.top q.path.kids k
obligation_at q k ts u e = ap (λ o. obligation_in o q.path.kids k) (top_at q.tree ts u e)
