-- The first user in a tree, node by node.
use Rattle.std.proofs.Common.{◌≡◌, ℕ, ◌+◌, zero, suc, ◌||◌, if◌then◌else◌, List, [], ◌∷◌, ◌++◌, map, drop, length, ◌≤◌, refl, sym, ap, ◌∙◌, arith, Bool, false, Some}
use Rattle.std.specs.Option.{option_or}
use Rattle.std.specs.List.{slice_get, list_any}
use Rattle.rw_trees.specs.declared.node.Node.{Node, out-Node, fold_out-Node}
use Rattle.rw_trees.specs.Nodes.{size, total}
use Rattle.rw_trees.proofs.Counts.{kids_fewer}
use Rattle.rw_users.specs.Users.{set_names, proof_names, Users, kids_user, user_step, node_user}

pub user-out : (x : List ℕ) (n : Node) (path : List ℕ) →
    node_user x n path ≡ (if set_names x (out-Node n).step || list_any (proof_names x) (out-Node n).certs then Some path else kids_user x (map (node_user x) (out-Node n).kids) 0 path)
user-out x n path = ap (λ f. f path) (fold_out-Node (Users x) (user_step x) n)

-- the first user of a kid and of those behind it
pub user_next : (x : List ℕ) (kids : List Node) (i k : ℕ) (path : List ℕ) (kid : Node) → slice_get kids i ≡ Some kid →
    kids_user x (map (node_user x) (drop i kids)) k path ≡ option_or (node_user x kid (path ++ (k + 1) ∷ [])) (kids_user x (map (node_user x) (drop (suc i) kids)) (k + 1) path)
user_next x [] i k path kid e = absurd (cc)
user_next x (y ∷ kids) zero k path kid e =
    let is : y ≡ kid = cc in ap (λ z. option_or (node_user x z (path ++ (k + 1) ∷ [])) (kids_user x (map (node_user x) kids) (k + 1) path)) is
user_next x (y ∷ kids) (suc i) k path kid e = user_next x kids i k path kid e

-- where the node is none, the first user is one of its kids, or below
pub user_below : (x : List ℕ) (n : Node) (path : List ℕ) (kids : List Node) (b : Bool) → b ≡ set_names x (out-Node n).step || list_any (proof_names x) (out-Node n).certs → b ≡ false → kids ≡ (out-Node n).kids →
    node_user x n path ≡ kids_user x (map (node_user x) kids) 0 path
user_below x n path kids b is none ek =
    user-out x n path
    ∙ ap (λ (c : Bool). if c then Some path else kids_user x (map (node_user x) (out-Node n).kids) 0 path) (sym is ∙ none)
    ∙ ap (λ ks. kids_user x (map (node_user x) ks) 0 path) (sym ek)

-- there are no more kids than nodes in all
pub lengths : (kids : List Node) → length kids ≤ total (map size kids)
lengths [] = omega arith
lengths (kid ∷ kids) =
    let rest : length kids ≤ total (map size kids) = lengths kids in
    let one : size kid ≡ suc (total (map size (out-Node kid).kids)) = kids_fewer kid (out-Node kid).kids refl in
    omega (arith, rest, one)
