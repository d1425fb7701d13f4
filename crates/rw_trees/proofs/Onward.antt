-- The project that a list makes, and one edit more.
use Rattle.std.proofs.Common.{◌≡◌, ℕ, Bool, true, false, ◌&&◌, ◌||◌, if◌then◌else◌, List, [], ◌∷◌, map, Some, None, IsSome, refl, ap, sym, ◌∙◌, subst}
use Rattle.rw_edits.specs.declared.edit.Edit.{Edit}
use Rattle.rw_edits.specs.declared.edit.Edit.TheVariants as edit
use Rattle.rw_edits.specs.declared.edit.Place.{Place}
use Rattle.rw_edits.specs.declared.edit.TreeName.{TreeName}
use Rattle.rw_edits.specs.Names.{is_tree, has_tree}
use Rattle.rw_trees.specs.Table.{trees_of}
use Rattle.rw_trees.specs.Trees.{speaks, of_tree}
use Rattle.rw_trees.specs.Nodes.{look, has_obligation}
use Rattle.rw_trees.specs.Edits.{is_node, has_obligation_of}
use Rattle.rw_trees.specs.Parts.{MakesTree, MakesTrees, Makes, tree_name, node_of, has_obligation_at, IsPlaced, applied_to, tree_after, tree_of, made_tree, made_trees, parts_of}
use Rattle.rw_trees.proofs.Named.{same_tree}
use Rattle.rw_trees.proofs.Stepped.{steps_set, certs_set, shaped_set, made_blank}
use Rattle.rw_trees.proofs.Certified.{steps_kept, certs_put, shaped_kept}
use Rattle.rw_trees.proofs.There.{nodes_there, obligations_there}
use Rattle.rw_trees.proofs.Tops.{of_there, gone, node_there, obligation_there}
use Rattle.rw_trees.proofs.Making.{found, found_with, both_right, made_by}
use Rattle.rw_trees.proofs.Once.{made_once}

-- the edits of each tree make it
abbrev EachMade : List Edit → Type 0
EachMade l = (t : TreeName) → MakesTree (of_tree t l) (tree_of (of_tree t l))

names_made : (l : List Edit) (ns : List TreeName) → map tree_name (map (made_tree l) ns) ≡ ns
names_made l [] = refl
names_made l (n ∷ ns) = ap (λ ms. n ∷ ms) (names_made l ns)

tops_made : (l : List Edit) → EachMade l → (ns : List TreeName) → MakesTrees l (map (made_tree l) ns)
tops_made l each [] = tt
tops_made l each (n ∷ ns) = (each n, tops_made l each ns)

one_made : (l : List Edit) (t : TreeName) (ns : List TreeName) → MakesTrees l (map (made_tree l) ns) → has_tree t ns ≡ true → MakesTree (of_tree t l) (tree_of (of_tree t l))
one_made l t [] m h = absurd (cc)
one_made l t (n ∷ ns) m h = go (is_tree t n) refl h (λ k. one_made l t ns m.1 k) where
  go : (b : Bool) → is_tree t n ≡ b → (b || has_tree t ns) ≡ true → (has_tree t ns ≡ true → MakesTree (of_tree t l) (tree_of (of_tree t l))) → MakesTree (of_tree t l) (tree_of (of_tree t l))
  go true is h rest = subst (λ x. MakesTree (of_tree x l) (tree_of (of_tree x l))) (sym (same_tree t n is)) m.0
  go false is h rest = rest h

each_made : (l : List Edit) → MakesTrees l (made_trees l) → EachMade l
each_made l m t = go (has_tree t (trees_of l)) refl where
  go : (b : Bool) → has_tree t (trees_of l) ≡ b → MakesTree (of_tree t l) (tree_of (of_tree t l))
  go true is = one_made l t (trees_of l) m is
  go false is = subst (λ k. MakesTree k (tree_of k)) (sym (gone t l is)) made_blank

-- one edit more, of which what it says of a tree makes the tree
each_next : (e : Edit) (l : List Edit) → EachMade l → ((t : TreeName) → speaks t e ≡ true → MakesTree (e ∷ of_tree t l) (tree_after e (tree_of (of_tree t l)))) → EachMade (e ∷ l)
each_next e l each said t = go (has_tree t (trees_of (e ∷ l))) refl (speaks t e) refl where
  go : (b : Bool) → has_tree t (trees_of (e ∷ l)) ≡ b → (c : Bool) → speaks t e ≡ c → MakesTree (of_tree t (e ∷ l)) (tree_of (of_tree t (e ∷ l)))
  go false is c says = subst (λ k. MakesTree k (tree_of k)) (sym (gone t (e ∷ l) is)) made_blank
  go true is true says = subst (λ k. MakesTree k (tree_of k)) (sym (of_there t e l is ∙ ap (λ (b : Bool). if b then e ∷ of_tree t l else of_tree t l) says)) (said t says)
  go true is false says = subst (λ k. MakesTree k (tree_of k)) (sym (of_there t e l is ∙ ap (λ (b : Bool). if b then e ∷ of_tree t l else of_tree t l) says)) (each t)

module _ (limit : ℕ) (l : List Edit) (m : Makes limit l (parts_of limit l)) where
  each_old : EachMade l
  each_old = each_made l m.tops

  node_here : (q : Place) → IsSome (node_of (made_trees l) q) → (t : TreeName) → is_tree q.tree t ≡ true → IsSome (look (tree_of (of_tree t l)) q.path.kids)
  node_here q h t is =
      nodes_there (of_tree t l) (tree_of (of_tree t l)) q.path.kids (each_old t)
      ∙ ap (λ x. is_node (of_tree x l) q.path.kids) (sym (same_tree q.tree t is))
      ∙ both_right (has_tree q.tree (map tree_name (made_trees l))) (is_node (of_tree q.tree l) q.path.kids) (sym (node_there l q (made_trees l) m.tops) ∙ h)

  obligation_here : (q : Place) (k : ℕ) → has_obligation_at (made_trees l) q k ≡ true → (t : TreeName) → is_tree q.tree t ≡ true → has_obligation (tree_of (of_tree t l)) q.path.kids k ≡ true
  obligation_here q k h t is =
      obligations_there (of_tree t l) (tree_of (of_tree t l)) q.path.kids k (each_old t)
      ∙ ap (λ x. is_node (of_tree x l) q.path.kids && has_obligation_of (of_tree x l) q.path.kids k) (sym (same_tree q.tree t is))
      ∙ both_right (has_tree q.tree (map tree_name (made_trees l))) (is_node (of_tree q.tree l) q.path.kids && has_obligation_of (of_tree q.tree l) q.path.kids k) (sym (obligation_there l q k (made_trees l) m.tops) ∙ h)

  each_on : (e : Edit) → IsPlaced (parts_of limit l) e → EachMade (e ∷ l)
  each_on (edit.Var p) h = each_next (edit.Var p) l each_old (λ t says. absurd (cc))
  each_on (edit.Root w) h = each_next (edit.Root w) l each_old (λ t says. absurd (cc))
  each_on (edit.Step q s) h = each_next (edit.Step q s) l each_old (λ t says. let k = of_tree t l in let there = found (tree_of k) q.path.kids (node_here q h t says) in record {
    steps = steps_set k q.path.kids (Some s) (tree_of k) there.0 (each_old t) there.1;
    certs = certs_set k q.path.kids (Some s) (tree_of k) there.0 (each_old t) there.1;
    shaped = shaped_set k q.path.kids (Some s) (tree_of k) there.0 (each_old t) there.1;
  })
  each_on (edit.Clear q) h = each_next (edit.Clear q) l each_old (λ t says. let k = of_tree t l in let there = found (tree_of k) q.path.kids (node_here q h t says) in record {
    steps = steps_set k q.path.kids None (tree_of k) there.0 (each_old t) there.1;
    certs = certs_set k q.path.kids None (tree_of k) there.0 (each_old t) there.1;
    shaped = shaped_set k q.path.kids None (tree_of k) there.0 (each_old t) there.1;
  })
  each_on (edit.Prove q j c) h = each_next (edit.Prove q j c) l each_old (λ t says. let k = of_tree t l in let there = found_with (tree_of k) q.path.kids j (obligation_here q j h t says) in record {
    steps = steps_kept k q.path.kids j c (tree_of k) there.0 (each_old t) there.1 there.2;
    certs = certs_put k q.path.kids j c (tree_of k) there.0 (each_old t) there.1 there.2;
    shaped = shaped_kept k q.path.kids j c (tree_of k) there.0 (each_old t) there.1 there.2;
  })
  each_on (edit.ProveLemma x c) h = each_next (edit.ProveLemma x c) l each_old (λ t says. absurd (cc))
  each_on (edit.Define d) h = each_next (edit.Define d) l each_old (λ t says. absurd (cc))
  each_on (edit.Lemma k) h = each_next (edit.Lemma k) l each_old (λ t says. absurd (cc))
  each_on (edit.Proc k) h = each_next (edit.Proc k) l each_old (λ t says. absurd (cc))
  each_on (edit.Module k) h = each_next (edit.Module k) l each_old (λ t says. absurd (cc))
  each_on (edit.Oper x o) h = each_next (edit.Oper x o) l each_old (λ t says. absurd (cc))
  each_on (edit.Drop x) h = each_next (edit.Drop x) l each_old (λ t says. absurd (cc))

makes_made : (limit : ℕ) (l : List Edit) → EachMade l → Makes limit l (parts_of limit l)
makes_made limit l each = record { globals = refl; root = refl; entries = refl; proofs = refl; procs = refl; modules = refl; order = refl; names = names_made l (trees_of l); tops = tops_made l each (trees_of l); most = refl }

pub made_on : (limit : ℕ) (l : List Edit) (e : Edit) → Makes limit l (parts_of limit l) → IsPlaced (parts_of limit l) e → (applied_to (parts_of limit l) e ≡ parts_of limit (e ∷ l)) × Makes limit (e ∷ l) (parts_of limit (e ∷ l))
made_on limit l e m h =
    let next : Makes limit (e ∷ l) (parts_of limit (e ∷ l)) = makes_made limit (e ∷ l) (each_on limit l m e h) in
    (made_once limit (e ∷ l) (applied_to (parts_of limit l) e) (parts_of limit (e ∷ l)) (made_by limit l (parts_of limit l) m e h) next, next)
