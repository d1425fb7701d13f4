-- The marks of a node and of those below, one after the other.
use Rattle.std.proofs.Common.{◌≡◌, ◌≤◌, ℕ, ◌+◌, suc, subst, List, [], ◌∷◌, ◌++◌, map, drop, sym, ap, ◌∙◌, append_assoc, Option, Some}
use Rattle.std.specs.List.{slice_get}
use Rattle.rw_terms.specs.declared.scope.Head.{Head}
use Rattle.rw_goals.specs.declared.library.Library.{Library}
use Rattle.rw_programs.specs.declared.applied.Child.{Child}
use Rattle.rw_nodes.specs.declared.node.Node.{Node, out-Node}
use Rattle.rw_nodes.specs.Nodes.{certified, total}
use Rattle.rw_sequents.specs.declared.line.Cert.{Cert}
use Rattle.rw_terms.specs.declared.sequent.Sequent.{Sequent}
use Rattle.rw_sites.specs.Derived.{Site, derived, kid_sites, sites}
use Rattle.rw_sites.proofs.Sites.{site_of, sites-out, kid_next, map_append, total_append}
use Rattle.rw_anew.specs.declared.status.NodeMark.{NodeMark}
use Rattle.rw_anew.specs.Anew.{heads_in, mark_of}
use Rattle.rw_anew.specs.Cost.{needs_cost, site_cost, sites_cost}
use Rattle.rw_anew.proofs.Costs.{both_taken, both_within}

module _ (library : Library) where
  -- what was there, the node's mark, and those of its kids
  pub all_marked : (heads : List Head) (n : Node) (given : Option Child) (path : List ℕ) (old pushed new : List NodeMark) (m : NodeMark) (children : List Child) (kids : List Node) →
      pushed ≡ old ++ m ∷ [] → m ≡ mark_of library (site_of n given path) → children ≡ (derived heads given (out-Node n).step).children → kids ≡ (out-Node n).kids →
      new ≡ pushed ++ map (mark_of library) (kid_sites (map (sites heads) kids) children 0 path) → new ≡ old ++ map (mark_of library) (sites heads n given path)
  all_marked heads n given path old pushed new m children kids ep em ec ek en =
      en
      ∙ ap (λ ks. pushed ++ map (mark_of library) (kid_sites (map (sites heads) ks) children 0 path)) ek
      ∙ ap (λ cs. pushed ++ map (mark_of library) (kid_sites (map (sites heads) (out-Node n).kids) cs 0 path)) ec
      ∙ ap (λ ms. ms ++ map (mark_of library) (kid_sites (map (sites heads) (out-Node n).kids) (derived heads given (out-Node n).step).children 0 path)) (ep ∙ ap (λ x. old ++ x ∷ []) em)
      ∙ append_assoc old _ _
      ∙ ap (λ xs. old ++ map (mark_of library) xs) (sym (sites-out heads n given path))

  -- what was there, the marks of a kid, and those of the kids behind it
  pub kid_marked : (heads : List Head) (kids : List Node) (children : List Child) (i : ℕ) (path : List ℕ) (kid : Node) (old new : List NodeMark) → slice_get kids i ≡ Some kid →
      new ≡ old ++ map (mark_of library) (sites heads kid (slice_get children i) (path ++ (i + 1) ∷ [])) →
      new ++ map (mark_of library) (kid_sites (map (sites heads) (drop (suc i) kids)) children (i + 1) path) ≡ old ++ map (mark_of library) (kid_sites (map (sites heads) (drop i kids)) children i path)
  kid_marked heads kids children i path kid old new at en =
      ap (λ ms. ms ++ map (mark_of library) (kid_sites (map (sites heads) (drop (suc i) kids)) children (i + 1) path)) en
      ∙ append_assoc old _ _
      ∙ ap (λ ms. old ++ ms) (sym (map_append (mark_of library) (sites heads kid (slice_get children i) (path ++ (i + 1) ∷ [])) (kid_sites (map (sites heads) (drop (suc i) kids)) children (i + 1) path)))
      ∙ ap (λ xs. old ++ map (mark_of library) xs) (sym (kid_next heads kids children i i path kid at))

  cost_append : (xs ys : List Site) → sites_cost library (xs ++ ys) ≡ sites_cost library xs + sites_cost library ys
  cost_append xs ys = ap total (map_append (site_cost library) xs ys) ∙ total_append (map (site_cost library) xs) (map (site_cost library) ys)

  -- what a kid costs, and those behind it
  pub kid_cost : (heads : List Head) (kids : List Node) (children : List Child) (i : ℕ) (path : List ℕ) (kid : Node) → slice_get kids i ≡ Some kid →
      sites_cost library (kid_sites (map (sites heads) (drop i kids)) children i path)
      ≡ sites_cost library (sites heads kid (slice_get children i) (path ++ (i + 1) ∷ [])) + sites_cost library (kid_sites (map (sites heads) (drop (suc i) kids)) children (i + 1) path)
  kid_cost heads kids children i path kid at = ap (sites_cost library) (kid_next heads kids children i i path kid at) ∙ cost_append _ _

  -- what a node costs, and its kids
  pub node_cost : (heads : List Head) (n : Node) (given : Option Child) (path : List ℕ) → sites_cost library (sites heads n given path)
      ≡ site_cost library (site_of n given path) + sites_cost library (kid_sites (map (sites heads) (out-Node n).kids) (derived heads given (out-Node n).step).children 0 path)
  node_cost heads n given path = ap (sites_cost library) (sites-out heads n given path)

  -- what was counted before, the node's lines and those of its kids
  module _ (heads : List Head) (n : Node) (given : Option Child) (path : List ℕ) (obligations : List Sequent) (certs : List (Option Cert)) (children : List Child) (kids : List Node)
      (eo : obligations ≡ (derived (heads_in library) given (out-Node n).step).obligations) (ec : certs ≡ (out-Node n).certs)
      (eh : children ≡ (derived heads given (out-Node n).step).children) (ek : kids ≡ (out-Node n).kids) where
    own : needs_cost library 1 obligations (certified certs) ≡ site_cost library (site_of n given path)
    own = ap (λ os. needs_cost library 1 os (certified certs)) eo ∙ ap (λ cs. needs_cost library 1 (derived (heads_in library) given (out-Node n).step).obligations (certified cs)) ec

    below : sites_cost library (kid_sites (map (sites heads) kids) children 0 path) ≡ sites_cost library (kid_sites (map (sites heads) (out-Node n).kids) (derived heads given (out-Node n).step).children 0 path)
    below = ap (λ ks. sites_cost library (kid_sites (map (sites heads) ks) children 0 path)) ek ∙ ap (λ cs. sites_cost library (kid_sites (map (sites heads) (out-Node n).kids) cs 0 path)) eh

    whole : needs_cost library 1 obligations (certified certs) + sites_cost library (kid_sites (map (sites heads) kids) children 0 path) ≡ sites_cost library (sites heads n given path)
    whole = ap (λ m. m + sites_cost library (kid_sites (map (sites heads) kids) children 0 path)) own ∙ ap (λ m. site_cost library (site_of n given path) + m) below ∙ sym (node_cost heads n given path)

    pub node_counted : (old mid new : ℕ) → mid ≡ old + needs_cost library 1 obligations (certified certs) → new ≡ mid + sites_cost library (kid_sites (map (sites heads) kids) children 0 path)
        → new ≡ old + sites_cost library (sites heads n given path)
    node_counted old mid new m e = both_taken new mid old _ _ m e ∙ ap (λ x. old + x) whole

    pub node_within : (old mid new : ℕ) → mid ≡ old + needs_cost library 1 obligations (certified certs) → new ≤ mid + sites_cost library (kid_sites (map (sites heads) kids) children 0 path)
        → new ≤ old + sites_cost library (sites heads n given path)
    node_within old mid new m e = subst (λ x. new ≤ old + x) whole (both_within new mid old _ _ m e)
