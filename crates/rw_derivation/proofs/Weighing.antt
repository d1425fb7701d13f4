-- Sums as far as a number tells.
use Rattle.std.proofs.Common.{◌≡◌, ℕ, ◌+◌, List, [], ◌∷◌, ◌++◌, map, min, drop, suc, sym, ap, ◌∙◌, arith, Option, Some}
use Rattle.std.specs.List.{slice_get}
use Rattle.rw_trees.specs.Around.{Around}
use Rattle.rw_programs.specs.declared.applied.Child.{Child}
use Rattle.rw_trees.specs.declared.node.Node.{Node, out-Node}
use Rattle.rw_trees.specs.Nodes.{total}
use Rattle.rw_terms.specs.declared.sequent.Sequent.{Sequent}
use Rattle.rw_derivation.specs.declared.derived.Derived.{Derived}
use Rattle.rw_trees.specs.declared.node.Tree.{Tree}
use Rattle.rw_programs.specs.declared.prog.Param.{Param}
use Rattle.rw_programs.specs.declared.prog.Spec.{Spec}
use Rattle.rw_derivation.specs.Derived.{derived, sites, kid_sites}
use Rattle.rw_derivation.specs.Given.{tree_given}
use Rattle.rw_derivation.specs.Weight.{given_parts, sequent_parts, tree_weight}
use Rattle.rw_derivation.proofs.Sites.{sites-out, kid_next, weigh, weigh_append}

-- a part as far as the number tells, and the rest
pub sum_next : (most sum w own rest : ℕ) → w ≡ min own most → min (min (sum + w) most + rest) most ≡ min (sum + (own + rest)) most
sum_next most sum w own rest e = omega (arith, e)

three_parts : (most g o b gw ow bw : ℕ) → gw ≡ min g most → ow ≡ min o most → bw ≡ min b most → min (min (gw + ow) most + bw) most ≡ min (g + o + b) most
three_parts most g o b gw ow bw eg eo eb = omega (arith, eg, eo, eb)

-- the weight of a node and of all below
pub node_weighed : (around : Around) (most : ℕ) (n : Node) (given : Option Child) (path : List ℕ) (gw ow bw : ℕ) →
    gw ≡ min (given_parts given) most → ow ≡ min (total (map sequent_parts (derived around given (out-Node n).step).obligations)) most →
    bw ≡ min (weigh around (kid_sites (map (sites around) (out-Node n).kids) (derived around given (out-Node n).step).children 0 path)) most →
    min (min (gw + ow) most + bw) most ≡ min (weigh around (sites around n given path)) most
node_weighed around most n given path gw ow bw eg eo eb =
    three_parts most (given_parts given) (total (map sequent_parts (derived around given (out-Node n).step).obligations)) (weigh around (kid_sites (map (sites around) (out-Node n).kids) (derived around given (out-Node n).step).children 0 path)) gw ow bw eg eo eb
    ∙ ap (λ xs. min (weigh around xs) most) (sym (sites-out around n given path))

-- one kid more is weighed
pub kid_weighed : (around : Around) (most sum w : ℕ) (kids : List Node) (children : List Child) (i : ℕ) (path : List ℕ) (kid : Node) → slice_get kids i ≡ Some kid →
    ((p : List ℕ) → w ≡ min (weigh around (sites around kid (slice_get children i) p)) most) →
    min (min (sum + w) most + weigh around (kid_sites (map (sites around) (drop (suc i) kids)) children (i + 1) path)) most ≡ min (sum + weigh around (kid_sites (map (sites around) (drop i kids)) children i path)) most
kid_weighed around most sum w kids children i path kid at is =
    sum_next most sum w (weigh around (sites around kid (slice_get children i) (path ++ (i + 1) ∷ []))) (weigh around (kid_sites (map (sites around) (drop (suc i) kids)) children (i + 1) path)) (is (path ++ (i + 1) ∷ []))
    ∙ ap (λ n. min (sum + n) most) (sym (weigh_append around (sites around kid (slice_get children i) (path ++ (i + 1) ∷ [])) (kid_sites (map (sites around) (drop (suc i) kids)) children (i + 1) path)))
    ∙ ap (λ xs. min (sum + weigh around xs) most) (sym (kid_next around kids children i i path kid at))

-- one kid more is weighed, in the words of the code
pub kid_next_weighed : (around : Around) (most sum w more all : ℕ) (kids : List Node) (children : List Child) (i : ℕ) (path : List ℕ) (kid : Node) (given : Option Child) → slice_get kids i ≡ Some kid → given ≡ slice_get children i →
    ((p : List ℕ) → w ≡ min (weigh around (sites around kid given p)) most) → more ≡ min (sum + w) most →
    min (sum + weigh around (kid_sites (map (sites around) (drop i kids)) children i path)) most ≡ all → min (more + weigh around (kid_sites (map (sites around) (drop (i + 1) kids)) children (i + 1) path)) most ≡ all
kid_next_weighed around most sum w more all kids children i path kid given at is weighed sums before =
    ap (λ n. min (more + weigh around (kid_sites (map (sites around) (drop n kids)) children (i + 1) path)) most) next
    ∙ ap (λ s. min (s + weigh around (kid_sites (map (sites around) (drop (suc i) kids)) children (i + 1) path)) most) sums
    ∙ kid_weighed around most sum w kids children i path kid at (λ p. weighed p ∙ ap (λ o. min (weigh around (sites around kid o p)) most) is)
    ∙ before
  where
    next : i + 1 ≡ suc i
    next = omega arith

-- a node is weighed, in the words of the code
pub node_sums : (around : Around) (most : ℕ) (n : Node) (given : Option Child) (path : List ℕ) (made : Derived) (obligations : List Sequent) (kids : List Node) (children : List Child) (own owed below first last : ℕ) →
    made ≡ derived around given (out-Node n).step → obligations ≡ made.obligations → kids ≡ (out-Node n).kids → children ≡ made.children →
    own ≡ min (given_parts given) most → owed ≡ min (total (map sequent_parts obligations)) most → below ≡ min (weigh around (kid_sites (map (sites around) kids) children 0 path)) most →
    first ≡ min (own + owed) most → last ≡ min (first + below) most → last ≡ min (weigh around (sites around n given path)) most
node_sums around most n given path made obligations kids children own owed below first last em eo ek ec is_own is_owed is_below is_first is_last =
    is_last
    ∙ ap (λ s. min (s + below) most) is_first
    ∙ node_weighed around most n given path own owed below is_own
    (is_owed ∙ ap (λ qs. min (total (map sequent_parts qs)) most) (eo ∙ ap (λ (d : Derived). d.obligations) em))
    (is_below ∙ ap (λ ks. min (weigh around (kid_sites (map (sites around) ks) children 0 path)) most) ek ∙ ap (λ cs. min (weigh around (kid_sites (map (sites around) (out-Node n).kids) cs 0 path)) most) (ec ∙ ap (λ (d : Derived). d.children) em))

-- a tree is weighed from its root
pub tree_weighed : (most w : ℕ) (around : Around) (globals : List Param) (root : Option Spec) (t : Tree) (given : Option Child) → ((path : List ℕ) → w ≡ min (weigh around (sites around t.top given path)) most) →
    given ≡ tree_given around globals root t.name → w ≡ min (tree_weight around globals root t) most
unfolding tree_weight
tree_weighed most w around globals root t given h is = h [] ∙ ap (λ g. min (weigh around (sites around t.top g [])) most) is
