-- Sums as far as a number tells.
use Rattle.std.proofs.Common.{◌≡◌, ℕ, ◌+◌, List, [], ◌∷◌, ◌++◌, map, min, drop, suc, sym, ap, ◌∙◌, arith, Option, Some}
use Rattle.std.specs.List.{slice_get}
use Rattle.rw_terms.specs.declared.scope.Head.{Head}
use Rattle.rw_library.specs.Entries.{heads_of}
use Rattle.rw_programs.specs.declared.applied.Child.{Child}
use Rattle.rw_nodes.specs.declared.node.Node.{Node, out-Node}
use Rattle.rw_nodes.specs.Nodes.{total}
use Rattle.rw_terms.specs.declared.sequent.Sequent.{Sequent}
use Rattle.rw_sites.specs.declared.derived.Derived.{Derived}
use Rattle.rw_nodes.specs.declared.parts.Parts.{Parts}
use Rattle.rw_sites.specs.Derived.{derived, sites, kid_sites, root_given}
use Rattle.rw_sites.specs.Weight.{given_parts, sequent_parts, parts_weight}
use Rattle.rw_sites.proofs.Sites.{sites-out, kid_next, weigh, weigh_append}

-- a part as far as the number tells, and the rest
pub sum_next : (most sum w own rest : ℕ) → w ≡ min own most → min (min (sum + w) most + rest) most ≡ min (sum + (own + rest)) most
sum_next most sum w own rest e = omega (arith, e)

three_parts : (most g o b gw ow bw : ℕ) → gw ≡ min g most → ow ≡ min o most → bw ≡ min b most → min (min (gw + ow) most + bw) most ≡ min (g + o + b) most
three_parts most g o b gw ow bw eg eo eb = omega (arith, eg, eo, eb)

-- the weight of a node and of all below
pub node_weighed : (heads : List Head) (most : ℕ) (n : Node) (given : Option Child) (path : List ℕ) (gw ow bw : ℕ) →
    gw ≡ min (given_parts given) most → ow ≡ min (total (map sequent_parts (derived heads given (out-Node n).step).obligations)) most →
    bw ≡ min (weigh heads (kid_sites (map (sites heads) (out-Node n).kids) (derived heads given (out-Node n).step).children 0 path)) most →
    min (min (gw + ow) most + bw) most ≡ min (weigh heads (sites heads n given path)) most
node_weighed heads most n given path gw ow bw eg eo eb =
    three_parts most (given_parts given) (total (map sequent_parts (derived heads given (out-Node n).step).obligations)) (weigh heads (kid_sites (map (sites heads) (out-Node n).kids) (derived heads given (out-Node n).step).children 0 path)) gw ow bw eg eo eb
    ∙ ap (λ xs. min (weigh heads xs) most) (sym (sites-out heads n given path))

-- one kid more is weighed
pub kid_weighed : (heads : List Head) (most sum w : ℕ) (kids : List Node) (children : List Child) (i : ℕ) (path : List ℕ) (kid : Node) → slice_get kids i ≡ Some kid →
    ((p : List ℕ) → w ≡ min (weigh heads (sites heads kid (slice_get children i) p)) most) →
    min (min (sum + w) most + weigh heads (kid_sites (map (sites heads) (drop (suc i) kids)) children (i + 1) path)) most ≡ min (sum + weigh heads (kid_sites (map (sites heads) (drop i kids)) children i path)) most
kid_weighed heads most sum w kids children i path kid at is =
    sum_next most sum w (weigh heads (sites heads kid (slice_get children i) (path ++ (i + 1) ∷ []))) (weigh heads (kid_sites (map (sites heads) (drop (suc i) kids)) children (i + 1) path)) (is (path ++ (i + 1) ∷ []))
    ∙ ap (λ n. min (sum + n) most) (sym (weigh_append heads (sites heads kid (slice_get children i) (path ++ (i + 1) ∷ [])) (kid_sites (map (sites heads) (drop (suc i) kids)) children (i + 1) path)))
    ∙ ap (λ xs. min (sum + weigh heads xs) most) (sym (kid_next heads kids children i i path kid at))

-- one kid more is weighed, in the words of the code
pub kid_next_weighed : (heads : List Head) (most sum w more all : ℕ) (kids : List Node) (children : List Child) (i : ℕ) (path : List ℕ) (kid : Node) (given : Option Child) → slice_get kids i ≡ Some kid → given ≡ slice_get children i →
    ((p : List ℕ) → w ≡ min (weigh heads (sites heads kid given p)) most) → more ≡ min (sum + w) most →
    min (sum + weigh heads (kid_sites (map (sites heads) (drop i kids)) children i path)) most ≡ all → min (more + weigh heads (kid_sites (map (sites heads) (drop (i + 1) kids)) children (i + 1) path)) most ≡ all
kid_next_weighed heads most sum w more all kids children i path kid given at is weighed sums before =
    ap (λ n. min (more + weigh heads (kid_sites (map (sites heads) (drop n kids)) children (i + 1) path)) most) next
    ∙ ap (λ s. min (s + weigh heads (kid_sites (map (sites heads) (drop (suc i) kids)) children (i + 1) path)) most) sums
    ∙ kid_weighed heads most sum w kids children i path kid at (λ p. weighed p ∙ ap (λ o. min (weigh heads (sites heads kid o p)) most) is)
    ∙ before
  where
    next : i + 1 ≡ suc i
    next = omega arith

-- a node is weighed, in the words of the code
pub node_sums : (heads : List Head) (most : ℕ) (n : Node) (given : Option Child) (path : List ℕ) (made : Derived) (obligations : List Sequent) (kids : List Node) (children : List Child) (own owed below first last : ℕ) →
    made ≡ derived heads given (out-Node n).step → obligations ≡ made.obligations → kids ≡ (out-Node n).kids → children ≡ made.children →
    own ≡ min (given_parts given) most → owed ≡ min (total (map sequent_parts obligations)) most → below ≡ min (weigh heads (kid_sites (map (sites heads) kids) children 0 path)) most →
    first ≡ min (own + owed) most → last ≡ min (first + below) most → last ≡ min (weigh heads (sites heads n given path)) most
node_sums heads most n given path made obligations kids children own owed below first last em eo ek ec is_own is_owed is_below is_first is_last =
    is_last
    ∙ ap (λ s. min (s + below) most) is_first
    ∙ node_weighed heads most n given path own owed below is_own
    (is_owed ∙ ap (λ qs. min (total (map sequent_parts qs)) most) (eo ∙ ap (λ (d : Derived). d.obligations) em))
    (is_below ∙ ap (λ ks. min (weigh heads (kid_sites (map (sites heads) ks) children 0 path)) most) ek ∙ ap (λ cs. min (weigh heads (kid_sites (map (sites heads) (out-Node n).kids) cs 0 path)) most) (ec ∙ ap (λ (d : Derived). d.children) em))

-- the project is weighed from its root
pub project_weighed : (most w : ℕ) (heads : List Head) (parts : Parts) (given : Option Child) → heads ≡ heads_of parts.library.entries → ((path : List ℕ) → w ≡ min (weigh heads (sites heads parts.main given path)) most) →
    given ≡ root_given parts.globals parts.root → w ≡ min (parts_weight parts) most
unfolding parts_weight
project_weighed most w heads parts given eh h is =
    h []
    ∙ ap (λ g. min (weigh heads (sites heads parts.main g [])) most) is
    ∙ ap (λ hs. min (weigh hs (sites hs parts.main (root_given parts.globals parts.root) [])) most) eh
