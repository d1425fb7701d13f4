-- A node and those below, one after the other.
use Rattle.std.proofs.Common.{◌≡◌, ℕ, ◌+◌, zero, suc, List, [], ◌∷◌, ◌++◌, map, drop, refl, ap, ◌∙◌, arith, Option, Some}
use Rattle.std.specs.List.{slice_get}
use Rattle.rw_trees.specs.Around.{Around}
use Rattle.rw_programs.specs.declared.applied.Child.{Child}
use Rattle.rw_trees.specs.declared.node.Node.{Node, out-Node, fold_out-Node}
use Rattle.rw_trees.specs.Nodes.{total}
use Rattle.rw_derivation.specs.Derived.{Site, Sites, derived, kid_sites, sites_step, sites}
use Rattle.rw_derivation.specs.Weight.{site_parts}

abbrev pub site_of : Node → Option Child → List ℕ → Site
site_of n given path = record { path = path; given = given; step = (out-Node n).step; certs = (out-Node n).certs }

pub sites-out : (around : Around) (n : Node) (given : Option Child) (path : List ℕ) →
    sites around n given path ≡ site_of n given path ∷ kid_sites (map (sites around) (out-Node n).kids) (derived around given (out-Node n).step).children 0 path
sites-out around n given path = ap (λ f. f given path) (fold_out-Node Sites (sites_step around) n)

-- the sites of a kid, and of those behind it
pub kid_next : (around : Around) (kids : List Node) (children : List Child) (i k : ℕ) (path : List ℕ) (kid : Node) → slice_get kids i ≡ Some kid →
    kid_sites (map (sites around) (drop i kids)) children k path ≡ sites around kid (slice_get children k) (path ++ (k + 1) ∷ []) ++ kid_sites (map (sites around) (drop (suc i) kids)) children (k + 1) path
kid_next around [] children i k path kid e = absurd (cc)
kid_next around (x ∷ kids) children zero k path kid e =
    let is : x ≡ kid = cc in ap (λ y. sites around y (slice_get children k) (path ++ (k + 1) ∷ []) ++ kid_sites (map (sites around) kids) children (k + 1) path) is
kid_next around (x ∷ kids) children (suc i) k path kid e = kid_next around kids children i k path kid e

pub map_append : {A B : Type 0} (f : A → B) (xs ys : List A) → map f (xs ++ ys) ≡ map f xs ++ map f ys
map_append f [] ys = refl
map_append f (x ∷ xs) ys = ap (λ zs. f x ∷ zs) (map_append f xs ys)

pub total_append : (ns ms : List ℕ) → total (ns ++ ms) ≡ total ns + total ms
total_append [] ms = omega arith
total_append (n ∷ ns) ms = let h : total (ns ++ ms) ≡ total ns + total ms = total_append ns ms in omega (arith, h)

abbrev pub weigh : Around → List Site → ℕ
weigh around xs = total (map (site_parts around) xs)

pub weigh_append : (around : Around) (xs ys : List Site) → weigh around (xs ++ ys) ≡ weigh around xs + weigh around ys
weigh_append around xs ys = ap total (map_append (site_parts around) xs ys) ∙ total_append (map (site_parts around) xs) (map (site_parts around) ys)
