-- Good edits make trees of at most 2048 nodes, whose certificates have at most 4096 lines.
use Rattle.std.proofs.Common.{◌≡◌, ℕ, suc, ◌≤◌, ◌+◌, ◌-◌, Bool, true, false, not, ◌&&◌, if◌then◌else◌, nat_lt, nat_le, nat_eq, List, [], ◌∷◌, length, map, take, refl, sym, ap, ◌∙◌, subst, arith, Option, Some, None, unwrap_or, IsSome, inl, inr}
use Rattle.std.specs.Option.{option_and_then, is_some}
use Rattle.std.specs.List.{list_all}
use Rattle.std.proofs.lemmas.Bool.Decides.{leb_tells}
use Rattle.rw_terms.specs.Validity.{Each}
use Rattle.rw_faults.specs.Limits.{is_light, is_shallow}
use Rattle.rw_sequents.specs.declared.line.Cert.{Cert}
use Rattle.rw_sequents.specs.Counting.{line_count}
use Rattle.rw_library.specs.Entries.{heads_of}
use Rattle.rw_edits.specs.declared.edit.Step.{Step}
use Rattle.rw_edits.specs.declared.edit.Edit.{Edit}
use Rattle.rw_edits.specs.declared.edit.Edit.TheVariants as edit
use Rattle.rw_edits.specs.declared.edit.Place.{Place}
use Rattle.rw_edits.specs.declared.edit.TreeName.{TreeName}
use Rattle.rw_edits.specs.Names.{is_tree, has_tree}
use Rattle.rw_edits.specs.Counts.{kids_of, kids_in, obligations_in}
use Rattle.rw_trees.specs.declared.node.Node.{Node, out-Node, out-roll-Node}
use Rattle.rw_trees.specs.declared.node.Tree.{Tree}
use Rattle.rw_trees.specs.Table.{entries_of, procs_of, modules_of, trees_of}
use Rattle.rw_trees.specs.Trees.{speaks, of_tree}
use Rattle.rw_trees.specs.Edits.{cert_at, cert_set, cert_dropped, behind, is_node, has_obligation_of}
use Rattle.rw_trees.specs.Nodes.{look, cert_seen, renewed, fresh_node, with_cert, size, total}
use Rattle.rw_trees.specs.Parts.{Makes, MakesTrees, node_of, top_of, tree_of, made_tree, made_trees, parts_of, set_step, set_cert}
use Rattle.rw_trees.proofs.Named.{same_tree}
use Rattle.rw_trees.proofs.Making.{found}
use Rattle.rw_trees.proofs.Counts.{size-out, size_changed, size_renewed}
use Rattle.rw_edit_tests.specs.declared.refusal.EditRefusal.TheVariants as refusal
use Rattle.rw_edit_tests.specs.declared.refusal.Which.TheVariants as which
use Rattle.rw_edit_tests.specs.Refusals.{unknown, unknown_in_step, unknown_in_cert, is_light_term, is_shallow_term, passes, cert_limit, step_limit, tree_limit, text_limit}
use Rattle.rw_accepting.specs.Accepting.{tree_unknown, refusal_of, IsGood}
use Rattle.rw_accepting.specs.Mirror.{AreSound}
use Rattle.rw_accepting.proofs.Same.{at_told, obligation_told, first_told, here, top_made, made_good}

-- what passes no limit has few lines
short_told : (a b : Bool) (c : Cert) → (if a then Some (refusal.Limit which.Weight 1024) else if b then Some (refusal.Limit which.Depth 64) else if nat_le (line_count c.lines) 4096 then None else Some (refusal.Limit which.Lines 4096)) ≡ None → line_count c.lines ≤ 4096
short_told true b c e = absurd (cc)
short_told false true c e = absurd (cc)
short_told false false c e = elim (leb_tells (line_count c.lines) 4096) [
  | inl h ↦ h.1
  | inr h ↦ absurd (let f : Some (refusal.Limit which.Lines 4096) ≡ None = rw h.0 at e in cc)
]

pub is_short : (c : Cert) → cert_limit c ≡ None → line_count c.lines ≤ 4096
is_short c e = short_told (not (list_all (passes is_light is_light_term) c.lines)) (not (list_all (passes is_shallow is_shallow_term) c.lines)) c e

kept : (b : Bool) (old : Option Cert) (c : Cert) → unwrap_or (if b then Some None else None) old ≡ Some c → old ≡ Some c
kept true old c e = absurd (cc)
kept false old c e = e

step_keeps : (s : Option Step) (k : ℕ) (rest : Option (List ℕ)) (old : Option Cert) (c : Cert) → unwrap_or (cert_dropped s k rest) old ≡ Some c → old ≡ Some c
step_keeps s k None old c e = e
step_keeps s k (Some []) old c e = kept (nat_lt (obligations_in s) k) old c e
step_keeps s k (Some (j ∷ rest)) old c e = kept (nat_lt (kids_in s) j) old c e

set_or_kept : (b : Bool) (d : Cert) (rest : Option (List ℕ)) (old : Option Cert) (c : Cert) → line_count d.lines ≤ 4096 → (old ≡ Some c → line_count c.lines ≤ 4096) →
    unwrap_or (if b then cert_set d rest else None) old ≡ Some c → line_count c.lines ≤ 4096
set_or_kept true d None old c short before e = before e
set_or_kept true d (Some []) old c short before e = let same : d ≡ c = cc in subst (λ c. line_count c.lines ≤ 4096) same short
set_or_kept true d (Some (j ∷ rest)) old c short before e = before e
set_or_kept false d rest old c short before e = before e

-- a place that is accepted is a node, and then what is asked there passes
node_asked : (most : ℕ) (l : List Edit) (q : Place) (k : ℕ) (d : Cert) → refusal_of most l (edit.Prove q k d) ≡ None → ((has_tree q.tree (trees_of l) && is_node (of_tree q.tree l) q.path.kids) ≡ true) × (cert_limit d ≡ None)
node_asked most l q k d h =
    let t = at_told (has_tree q.tree (trees_of l) && is_node (of_tree q.tree l) q.path.kids) q _ (first_told (unknown (unknown_in_cert (entries_of l) d)) _ (first_told (tree_unknown l q) _ h).1).1 in
    (t.0, (obligation_told (has_obligation_of (of_tree q.tree l) q.path.kids k) k (cert_limit d) t.1).1)

-- an accepted edit leaves certificates short, in whatever edits it comes
one_more : (most : ℕ) (l : List Edit) (e : Edit) → refusal_of most l e ≡ None → (own : List Edit) (p : List ℕ) (k : ℕ) (c : Cert) → (cert_at own p k ≡ Some c → line_count c.lines ≤ 4096) → cert_at (e ∷ own) p k ≡ Some c → line_count c.lines ≤ 4096
one_more most l (edit.Var x) good own p k c before e = before e
one_more most l (edit.Root w) good own p k c before e = before e
one_more most l (edit.ProveLemma x d) good own p k c before e = before e
one_more most l (edit.Define d) good own p k c before e = before e
one_more most l (edit.Lemma m) good own p k c before e = before e
one_more most l (edit.Proc h) good own p k c before e = before e
one_more most l (edit.Module m) good own p k c before e = before e
one_more most l (edit.Oper x o) good own p k c before e = before e
one_more most l (edit.Drop x) good own p k c before e = before e
one_more most l (edit.Step q s) good own p k c before e = before (step_keeps (Some s) k (behind q.path.kids p) (cert_at own p k) c e)
one_more most l (edit.Clear q) good own p k c before e = before (step_keeps None k (behind q.path.kids p) (cert_at own p k) c e)
one_more most l (edit.Prove q j d) good own p k c before e = set_or_kept (nat_eq j k) d (behind q.path.kids p) (cert_at own p k) c (is_short d (node_asked most l q j d good).1) before e

few_lines : (most : ℕ) (l : List Edit) → IsGood most l → (t : TreeName) (p : List ℕ) (k : ℕ) (c : Cert) → cert_at (of_tree t l) p k ≡ Some c → line_count c.lines ≤ 4096
few_lines most [] good t p k c e = absurd (cc)
few_lines most (e ∷ l) good t p k c is = go (has_tree t (trees_of (e ∷ l))) (speaks t e) is (few_lines most l good.0 t p k c)
  where
    go : (b s : Bool) → cert_at (if b then (if s then e ∷ of_tree t l else of_tree t l) else []) p k ≡ Some c → (cert_at (of_tree t l) p k ≡ Some c → line_count c.lines ≤ 4096) → line_count c.lines ≤ 4096
    go true true h before = one_more most l e good.1 (of_tree t l) p k c before h
    go true false h before = before h
    go false s h before = absurd (cc)

-- a tree within the limits has few nodes
few_told : (p : List ℕ) (kids : ℕ) (after : Node) → tree_limit p kids after ≡ None → size after ≤ 2048
few_told p kids after e = elim (leb_tells 2049 (size after)) [
  | inl h ↦ absurd (let f : Some (refusal.Limit which.Nodes 2048) ≡ None = rw h.0 at e in cc)
  | inr h ↦ omega (arith, h.1)
]

-- a step that is taken away leaves fewer nodes
cleared : (n m : Node) (q : List ℕ) → look n q ≡ Some m → size n ≤ 2048 → size (set_step q None n) ≤ 2048
cleared n m q there few =
    let change : size (set_step q None n) + size m ≡ size n + size (renewed (fresh_node None) m) = size_changed (renewed (fresh_node None)) n m q there in
    let one : size (renewed (fresh_node None) m) ≡ 1 = size_renewed None m ∙ ap suc (none_left (out-Node m).kids) in
    let some : size m ≡ suc (total (map size (out-Node m).kids)) = size-out m in
    omega (arith, change, one, some, few) where
      none_left : (ks : List Node) → total (map size (take 0 ks)) + (0 - length ks) ≡ 0
      none_left [] = omega arith
      none_left (k ∷ ks) = omega arith

certificate_kept : (n m : Node) (q : List ℕ) (k : ℕ) (c : Cert) → look n q ≡ Some m → size n ≤ 2048 → size (set_cert q k c n) ≤ 2048
certificate_kept n m q k c there few =
    let change : size (set_cert q k c n) + size m ≡ size n + size (with_cert k c m) = size_changed (with_cert k c) n m q there in
    let same : size (with_cert k c m) ≡ size m = size-out (with_cert k c m) ∙ simp out-roll-Node (sym (size-out m)) in
    omega (arith, change, same, few)

-- the node of a place that is accepted stands in the tree that its edits make
node_made : (most : ℕ) (l : List Edit) → Makes most l (parts_of most l) → (q : Place) → (has_tree q.tree (trees_of l) && is_node (of_tree q.tree l) q.path.kids) ≡ true → IsSome (look (tree_of (of_tree q.tree l)) q.path.kids)
node_made most l m q is =
    let there : is_some (node_of (made_trees l) q) ≡ true = here most l m q ∙ is in
    sym (ap (λ top. is_some (option_and_then (λ n. look n q.path.kids) top)) (top_made l q (trees_of l) there)) ∙ there

-- the tree with an edit of it has few nodes
one_larger : (most : ℕ) (l : List Edit) → Makes most l (parts_of most l) → (e : Edit) → refusal_of most l e ≡ None → (t : TreeName) → speaks t e ≡ true → size (tree_of (of_tree t l)) ≤ 2048 → size (tree_of (e ∷ of_tree t l)) ≤ 2048
one_larger most l m (edit.Var x) good t s few = few
one_larger most l m (edit.Root w) good t s few = few
one_larger most l m (edit.ProveLemma x d) good t s few = few
one_larger most l m (edit.Define d) good t s few = few
one_larger most l m (edit.Lemma k) good t s few = few
one_larger most l m (edit.Proc h) good t s few = few
one_larger most l m (edit.Module k) good t s few = few
one_larger most l m (edit.Oper x o) good t s few = few
one_larger most l m (edit.Drop x) good t s few = few
one_larger most l m (edit.Step q s) good t is few =
    let asked = (first_told (unknown (unknown_in_step (heads_of (entries_of l)) (procs_of l) (modules_of l) s)) _ (first_told (tree_unknown l q) _ good).1).1 in
    let limits = (first_told (step_limit q.path.kids s (set_step q.path.kids (Some s) (tree_of (of_tree q.tree l)))) _ (at_told (has_tree q.tree (trees_of l) && is_node (of_tree q.tree l) q.path.kids) q _ asked).1).0 in
    subst (λ x. size (set_step q.path.kids (Some s) (tree_of (of_tree x l))) ≤ 2048) (same_tree q.tree t is)
    (few_told q.path.kids (kids_of s) (set_step q.path.kids (Some s) (tree_of (of_tree q.tree l))) (first_told (text_limit s) _ limits).1)
one_larger most l m (edit.Clear q) good t is few =
    let name = same_tree q.tree t is in
    let node = at_told (has_tree q.tree (trees_of l) && is_node (of_tree q.tree l) q.path.kids) q _ (first_told (tree_unknown l q) _ good).1 in
    let n = found (tree_of (of_tree t l)) q.path.kids (subst (λ x. IsSome (look (tree_of (of_tree x l)) q.path.kids)) name (node_made most l m q node.0)) in
    cleared (tree_of (of_tree t l)) n.0 q.path.kids n.1 few
one_larger most l m (edit.Prove q k c) good t is few =
    let name = same_tree q.tree t is in
    let n = found (tree_of (of_tree t l)) q.path.kids (subst (λ x. IsSome (look (tree_of (of_tree x l)) q.path.kids)) name (node_made most l m q (node_asked most l q k c good).0)) in
    certificate_kept (tree_of (of_tree t l)) n.0 q.path.kids k c n.1 few

few_blank : size (tree_of []) ≤ 2048
few_blank = let one : size (tree_of []) ≡ 1 = size-out (tree_of []) ∙ simp out-roll-Node in omega (arith, one)

few_nodes : (most : ℕ) (l : List Edit) → IsGood most l → (t : TreeName) → size (tree_of (of_tree t l)) ≤ 2048
few_nodes most [] good t = few_blank
few_nodes most (e ∷ l) good t = go (has_tree t (trees_of (e ∷ l))) (speaks t e) refl (few_nodes most l good.0 t)
  where
    go : (b s : Bool) → speaks t e ≡ s → size (tree_of (of_tree t l)) ≤ 2048 → size (tree_of (if b then (if s then e ∷ of_tree t l else of_tree t l) else [])) ≤ 2048
    go true true is few = one_larger most l (made_good most l good.0) e good.1 t is few
    go true false is few = few
    go false s is few = few_blank

-- all trees that good edits make are sound
each_sound : (most : ℕ) (l : List Edit) → IsGood most l → (names : List TreeName) → MakesTrees l (map (made_tree l) names) → Each (λ (t : Tree). AreSound t.top) (map (made_tree l) names)
each_sound most l good [] m = tt
each_sound most l good (t ∷ names) m = (
  record {
    each = λ p y e k c is. few_lines most l good t p k c (sym (m.0.certs p k) ∙ ap (option_and_then (cert_seen k)) e ∙ is);
    few = few_nodes most l good t;
  },
  each_sound most l good names m.1,
)

pub sound_made : (most : ℕ) (l : List Edit) → IsGood most l → Each (λ (t : Tree). AreSound t.top) (made_trees l)
sound_made most l good = each_sound most l good (trees_of l) (made_good most l good).tops
