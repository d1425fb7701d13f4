-- The tests by the parts are those by the list that makes them.
use Rattle.std.proofs.Common.{◌≡◌, ℕ, Bool, true, false, ◌&&◌, ◌||◌, if◌then◌else◌, List, [], ◌∷◌, map, refl, sym, ap, ◌∙◌, subst, Option, Some, None}
use Rattle.std.specs.Option.{is_some, option_or, option_and_then}
use Rattle.rw_sequents.specs.declared.line.Cert.{Cert}
use Rattle.rw_goals.specs.declared.library.Definition.{Definition}
use Rattle.rw_goals.specs.declared.library.Lemma.{Lemma}
use Rattle.rw_heads.specs.declared.head.ProcHead.{ProcHead}
use Rattle.rw_heads.specs.Heads.{has_proc, has_module}
use Rattle.rw_library.specs.Entries.{has_entry, has_lemma, has_definition, heads_of}
use Rattle.rw_library.specs.Parameters.{first_repeated}
use Rattle.rw_terms.specs.Named.{Named}
use Rattle.rw_edits.specs.declared.edit.Place.{Place}
use Rattle.rw_edits.specs.declared.edit.Edit.{Edit}
use Rattle.rw_edits.specs.declared.edit.Edit.TheVariants as edit
use Rattle.rw_edits.specs.declared.edit.Step.{Step}
use Rattle.rw_edits.specs.declared.edit.TreeName.{TreeName}
use Rattle.rw_edits.specs.Names.{is_tree, has_tree}
use Rattle.rw_trees.specs.declared.parts.Parts.{Parts}
use Rattle.rw_trees.specs.Table.{entries_of, procs_of, modules_of, order_of, trees_of}
use Rattle.rw_trees.specs.Trees.{of_tree}
use Rattle.rw_trees.specs.Edits.{globals_of, is_node, has_obligation_of}
use Rattle.rw_trees.specs.Nodes.{look}
use Rattle.rw_trees.specs.Parts.{Makes, IsPlaced, tree_name, top_of, node_of, has_obligation_at, tree_of, set_step, made_tree, made_trees, parts_of, applied_to}
use Rattle.rw_trees.proofs.Named.{same_tree, or_left, or_right}
use Rattle.rw_trees.proofs.Tops.{node_there, obligation_there}
use Rattle.rw_trees.proofs.Making.{made_none}
use Rattle.rw_trees.proofs.Onward.{made_on}
use Rattle.rw_trees.proofs.Once.{made_once}
use Rattle.rw_edit_tests.specs.declared.refusal.EditRefusal.{EditRefusal}
use Rattle.rw_edit_tests.specs.declared.refusal.EditRefusal.TheVariants as refusal
use Rattle.rw_edit_tests.specs.Refusals.{unknown, ill_formed, unknown_in_place, unknown_in_step, unknown_in_cert, at_place, at_obligation, step_limit, cert_limit}
use Rattle.rw_edit_tests.specs.Entering.{define_refusal, order_refusal}
use Rattle.rw_edit_tests.proofs.Free.{define_free, lemma_free}
use Rattle.rw_head_tests.specs.Procs.{proc_refusal}
use Rattle.rw_head_tests.specs.Modules.{module_refusal, oper_refusal}
use Rattle.rw_head_tests.proofs.Free.{proc_free, module_free, oper_held}
use Rattle.rw_accepting.specs.Used.{sorts_refusal, drop_refusal}
use Rattle.rw_accepting.specs.Accepting.{full_with, tree_unknown, at_node, refusal_of, IsGood, IsProject, edited}
use Rattle.rw_accepting.specs.Mirror.{limit_in, refusal_in}

-- what an accepted test says
pub at_told : (b : Bool) (q : Place) (ask : Option EditRefusal) → at_place b q ask ≡ None → (b ≡ true) × (ask ≡ None)
at_told true q ask e = (refl, e)
at_told false q ask e = absurd (cc)

pub obligation_told : (b : Bool) (k : ℕ) (ask : Option EditRefusal) → at_obligation b k ask ≡ None → (b ≡ true) × (ask ≡ None)
obligation_told true k ask e = (refl, e)
obligation_told false k ask e = absurd (cc)

pub first_told : (one two : Option EditRefusal) → option_or one two ≡ None → (one ≡ None) × (two ≡ None)
first_told None two e = (refl, e)
first_told (Some r) two e = absurd (cc)

pub both_none : (one two : Option EditRefusal) → one ≡ None → two ≡ None → option_or one two ≡ None
both_none None two a b = b
both_none (Some r) two a b = absurd (cc)

-- the tree of a node is the one that its edits make
pub top_made : (l : List Edit) (q : Place) (names : List TreeName) → is_some (node_of (map (made_tree l) names) q) ≡ true → top_of (map (made_tree l) names) q.tree ≡ Some (tree_of (of_tree q.tree l))
top_made l q [] h = absurd (cc)
top_made l q (t ∷ names) h = go (is_tree q.tree t) refl h (top_made l q names)
  where
    go : (b : Bool) → is_tree q.tree t ≡ b → is_some (option_and_then (λ n. look n q.path.kids) (if b then Some (tree_of (of_tree t l)) else top_of (map (made_tree l) names) q.tree)) ≡ true →
        (is_some (node_of (map (made_tree l) names) q) ≡ true → top_of (map (made_tree l) names) q.tree ≡ Some (tree_of (of_tree q.tree l))) →
        (if b then Some (tree_of (of_tree t l)) else top_of (map (made_tree l) names) q.tree) ≡ Some (tree_of (of_tree q.tree l))
    go true is k rest = ap (λ x. Some (tree_of (of_tree x l))) (sym (same_tree q.tree t is))
    go false is k rest = rest k

module _ (most : ℕ) (l : List Edit) (m : Makes most l (parts_of most l)) where
  -- the nodes of the project are those of the list
  pub here : (q : Place) → is_some (node_of (made_trees l) q) ≡ (has_tree q.tree (trees_of l) && is_node (of_tree q.tree l) q.path.kids)
  here q = node_there l q (made_trees l) m.tops ∙ ap (λ names. has_tree q.tree names && is_node (of_tree q.tree l) q.path.kids) m.names

  -- and so are its obligations
  asked : (q : Place) (k : ℕ) → has_obligation_at (made_trees l) q k ≡ (has_tree q.tree (trees_of l) && (is_node (of_tree q.tree l) q.path.kids && has_obligation_of (of_tree q.tree l) q.path.kids k))
  asked q k = obligation_there l q k (made_trees l) m.tops ∙ ap (λ names. has_tree q.tree names && (is_node (of_tree q.tree l) q.path.kids && has_obligation_of (of_tree q.tree l) q.path.kids k)) m.names

  both : (a b c : Bool) → (a && b) ≡ true → c ≡ true → (a && (b && c)) ≡ true
  both true true c ab is = is
  both true false c ab is = absurd (cc)
  both false b c ab is = absurd (cc)

  -- an accepted edit is placed
  pub placed : (e : Edit) → refusal_of most l e ≡ None → IsPlaced (parts_of most l) e
  placed (edit.Var p) h = tt
  placed (edit.Root w) h = tt
  placed (edit.Step q s) h = here q ∙ (at_told (has_tree q.tree (trees_of l) && is_node (of_tree q.tree l) q.path.kids) q _ (first_told _ _ (first_told (tree_unknown l q) _ h).1).1).0
  placed (edit.Clear q) h = here q ∙ (at_told (has_tree q.tree (trees_of l) && is_node (of_tree q.tree l) q.path.kids) q _ (first_told (tree_unknown l q) _ h).1).0
  placed (edit.Prove q k c) h =
      let t = at_told (has_tree q.tree (trees_of l) && is_node (of_tree q.tree l) q.path.kids) q _ (first_told _ _ (first_told (tree_unknown l q) _ h).1).1 in
      asked q k ∙ both (has_tree q.tree (trees_of l)) (is_node (of_tree q.tree l) q.path.kids) (has_obligation_of (of_tree q.tree l) q.path.kids k) t.0 (obligation_told (has_obligation_of (of_tree q.tree l) q.path.kids k) k (cert_limit c) t.1).0
  placed (edit.ProveLemma x c) h = tt
  placed (edit.Define d) h = define_free (entries_of l) (procs_of l) (modules_of l) (order_of l) d (first_told (define_refusal (entries_of l) (procs_of l) (modules_of l) (order_of l) d) _ h).0
  placed (edit.Lemma k) h = lemma_free (entries_of l) (procs_of l) (modules_of l) (order_of l) k h
  placed (edit.Proc k) h = proc_free (entries_of l) (modules_of l) (order_of l) k (first_told (proc_refusal (entries_of l) (modules_of l) (order_of l) k) _ h).0
  placed (edit.Module k) h = module_free (entries_of l) (procs_of l) (order_of l) k (first_told (module_refusal (entries_of l) (procs_of l) (order_of l) k) _ h).0
  placed (edit.Oper x o) h = oper_held (entries_of l) (modules_of l) x o (first_told (oper_refusal (entries_of l) (modules_of l) x o) _ h).0
  placed (edit.Drop x) h = tt

  -- the project with an accepted edit is that of the longer list
  pub onward : (e : Edit) → refusal_of most l e ≡ None → (applied_to (parts_of most l) e ≡ parts_of most (e ∷ l)) × Makes most (e ∷ l) (parts_of most (e ∷ l))
  onward e h = made_on most l e m (placed e h)

-- good edits make their project
pub made_good : (most : ℕ) (l : List Edit) → IsGood most l → Makes most l (parts_of most l)
made_good most [] good = made_none most
made_good most (e ∷ l) good = (onward most l (made_good most l good.0) e good.1).1

pub parts_same : (most : ℕ) (l : List Edit) (parts : Parts) → IsGood most l → Makes most l parts → parts ≡ parts_of most l
parts_same most l parts good m = made_once most l parts (parts_of most l) m (made_good most l good)

-- edit by edit the list makes its project
pub edited_same : (most : ℕ) (l : List Edit) → IsGood most l → edited most l ≡ parts_of most l
edited_same most [] good = refl
edited_same most (e ∷ l) good = ap (λ ps. applied_to ps e) (edited_same most l good.0) ∙ (onward most l (made_good most l good.0) e good.1).0

or_at : (b : Bool) (q : Place) (one two : Option EditRefusal) → option_or (at_place b q one) two ≡ at_place b q (option_or one two)
or_at true q one two = refl
or_at false q one two = refl

or_or : (one two three : Option EditRefusal) → option_or (option_or one two) three ≡ option_or one (option_or two three)
or_or None two three = refl
or_or (Some r) two three = refl

no_more : (o : Option EditRefusal) → option_or o None ≡ o
no_more None = refl
no_more (Some r) = refl

-- what is asked of an obligation is asked where the node is there
and_asked : (a b c : Bool) (q : Place) (k : ℕ) (ask : Option EditRefusal) → at_place (a && b) q (at_obligation (a && (b && c)) k ask) ≡ at_place (a && b) q (at_obligation c k ask)
and_asked true true c q k ask = refl
and_asked true false c q k ask = refl
and_asked false b c q k ask = refl

-- and so is what is asked of a tree
limit_asked : (l : List Edit) (q : Place) (s : Step) (b : Bool) (rest : Option EditRefusal) → is_some (node_of (made_trees l) q) ≡ b →
    at_place b q (option_or (limit_in (top_of (made_trees l) q.tree) q.path.kids s) rest) ≡ at_place b q (option_or (step_limit q.path.kids s (set_step q.path.kids (Some s) (tree_of (of_tree q.tree l)))) rest)
limit_asked l q s true rest is = ap (λ top. option_or (limit_in top q.path.kids s) rest) (top_made l q (trees_of l) is)
limit_asked l q s false rest is = refl

module _ (most : ℕ) (l : List Edit) (m : Makes most l (parts_of most l)) where
  pub by_parts : (e : Edit) → refusal_in (parts_of most l) e ≡ refusal_of most l e
  by_parts (edit.Var p) = refl
  by_parts (edit.Root w) = refl
  by_parts (edit.Step q s) =
      or_or (tree_unknown l q) _ _
      ∙ ap (option_or (tree_unknown l q))
      (or_or (unknown (unknown_in_step (heads_of (entries_of l)) (procs_of l) (modules_of l) s)) _ _
      ∙ ap (option_or (unknown (unknown_in_step (heads_of (entries_of l)) (procs_of l) (modules_of l) s)))
      (or_at (is_some (node_of (made_trees l) q)) q (limit_in (top_of (made_trees l) q.tree) q.path.kids s) (full_with most l (edit.Step q s))
      ∙ limit_asked l q s (is_some (node_of (made_trees l) q)) (full_with most l (edit.Step q s)) refl
      ∙ ap (λ b. at_place b q (option_or (step_limit q.path.kids s (set_step q.path.kids (Some s) (tree_of (of_tree q.tree l)))) (full_with most l (edit.Step q s)))) (here most l m q)))
  by_parts (edit.Clear q) =
      or_or (tree_unknown l q) _ _
      ∙ ap (option_or (tree_unknown l q))
      (or_at (is_some (node_of (made_trees l) q)) q None (full_with most l (edit.Clear q)) ∙ ap (λ b. at_place b q (full_with most l (edit.Clear q))) (here most l m q))
  by_parts (edit.Prove q k c) =
      no_more _
      ∙ ap (λ o. option_or (tree_unknown l q) (option_or (unknown (unknown_in_cert (entries_of l) c)) o))
      (ap (λ b. at_place b q (at_obligation (has_obligation_at (made_trees l) q k) k (cert_limit c))) (here most l m q)
      ∙ ap (λ b. at_place (has_tree q.tree (trees_of l) && is_node (of_tree q.tree l) q.path.kids) q (at_obligation b k (cert_limit c))) (asked most l m q k)
      ∙ and_asked (has_tree q.tree (trees_of l)) (is_node (of_tree q.tree l) q.path.kids) (has_obligation_of (of_tree q.tree l) q.path.kids k) q k (cert_limit c))
  by_parts (edit.ProveLemma x c) = no_more _
  by_parts (edit.Define d) = refl
  by_parts (edit.Lemma k) = no_more _
  by_parts (edit.Proc k) = refl
  by_parts (edit.Module k) = refl
  by_parts (edit.Oper x o) = refl
  by_parts (edit.Drop x) = no_more _

-- the test by the parts is that by the list
pub refusal_same : (most : ℕ) (l : List Edit) (parts : Parts) → IsGood most l → Makes most l parts → (e : Edit) → refusal_in parts e ≡ refusal_of most l e
refusal_same most l parts good m e = ap (λ ps. refusal_in ps e) (parts_same most l parts good m) ∙ by_parts most l (made_good most l good) e

-- an edit that no test refuses makes the project of the longer list
pub made_applied : (most : ℕ) (l : List Edit) (parts : Parts) → IsGood most l → Makes most l parts → (e : Edit) → refusal_in parts e ≡ None → Makes most (e ∷ l) (applied_to parts e)
made_applied most l parts good m e none =
    let accepted : refusal_of most l e ≡ None = sym (refusal_same most l parts good m e) ∙ none in
    let next = onward most l (made_good most l good) e accepted in
    subst (Makes most (e ∷ l)) (sym (ap (λ ps. applied_to ps e) (parts_same most l parts good m) ∙ next.0)) next.1

-- some list of good edits makes the project with the edit
pub is_project : (most : ℕ) (parts : Parts) (e : Edit) (l : List Edit) → IsGood most l → Makes most l parts → refusal_in parts e ≡ None → IsProject (applied_to parts e)
is_project most parts e l good m none =
    let accepted : refusal_of most l e ≡ None = sym (refusal_same most l parts good m e) ∙ none in
    (most, e ∷ l, (good, accepted), made_applied most l parts good m e none)
