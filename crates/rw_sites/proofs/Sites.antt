-- A node and those below, one after the other.
use Rattle.std.proofs.Common.{◌≡◌, ℕ, ◌+◌, zero, suc, List, [], ◌∷◌, ◌++◌, map, drop, refl, ap, ◌∙◌, arith, Option, Some}
use Rattle.std.specs.List.{slice_get}
use Rattle.rw_terms.specs.declared.scope.Head.{Head}
use Rattle.rw_programs.specs.declared.applied.Child.{Child}
use Rattle.rw_nodes.specs.declared.node.Node.{Node, out-Node, fold_out-Node}
use Rattle.rw_nodes.specs.Nodes.{total}
use Rattle.rw_sites.specs.Derived.{Site, Sites, derived, kid_sites, sites_step, sites}
use Rattle.rw_sites.specs.Weight.{site_parts}

abbrev pub site_of : Node → Option Child → List ℕ → Site
site_of n given path = record { path = path; given = given; step = (out-Node n).step; certs = (out-Node n).certs }

pub sites-out : (heads : List Head) (n : Node) (given : Option Child) (path : List ℕ) →
    sites heads n given path ≡ site_of n given path ∷ kid_sites (map (sites heads) (out-Node n).kids) (derived heads given (out-Node n).step).children 0 path
sites-out heads n given path = ap (λ f. f given path) (fold_out-Node Sites (sites_step heads) n)

-- the sites of a kid, and of those behind it
pub kid_next : (heads : List Head) (kids : List Node) (children : List Child) (i k : ℕ) (path : List ℕ) (kid : Node) → slice_get kids i ≡ Some kid →
    kid_sites (map (sites heads) (drop i kids)) children k path ≡ sites heads kid (slice_get children k) (path ++ (k + 1) ∷ []) ++ kid_sites (map (sites heads) (drop (suc i) kids)) children (k + 1) path
kid_next heads [] children i k path kid e = absurd (cc)
kid_next heads (x ∷ kids) children zero k path kid e =
    let is : x ≡ kid = cc in ap (λ y. sites heads y (slice_get children k) (path ++ (k + 1) ∷ []) ++ kid_sites (map (sites heads) kids) children (k + 1) path) is
kid_next heads (x ∷ kids) children (suc i) k path kid e = kid_next heads kids children i k path kid e

pub map_append : {A B : Type 0} (f : A → B) (xs ys : List A) → map f (xs ++ ys) ≡ map f xs ++ map f ys
map_append f [] ys = refl
map_append f (x ∷ xs) ys = ap (λ zs. f x ∷ zs) (map_append f xs ys)

pub total_append : (ns ms : List ℕ) → total (ns ++ ms) ≡ total ns + total ms
total_append [] ms = omega arith
total_append (n ∷ ns) ms = let h : total (ns ++ ms) ≡ total ns + total ms = total_append ns ms in omega (arith, h)

abbrev pub weigh : List Head → List Site → ℕ
weigh heads xs = total (map (site_parts heads) xs)

pub weigh_append : (heads : List Head) (xs ys : List Site) → weigh heads (xs ++ ys) ≡ weigh heads xs + weigh heads ys
weigh_append heads xs ys = ap total (map_append (site_parts heads) xs ys) ∙ total_append (map (site_parts heads) xs) (map (site_parts heads) ys)
