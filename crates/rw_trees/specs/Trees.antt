-- The edits that speak of a tree.
use Rattle.std.specs.Prelude.{Bool, false, if◌then◌else◌, List, [], ◌∷◌}
use Rattle.rw_edits.specs.declared.edit.Edit.{Edit}
use Rattle.rw_edits.specs.declared.edit.Edit.TheVariants as edit
use Rattle.rw_edits.specs.declared.edit.TreeName.{TreeName}
use Rattle.rw_edits.specs.Names.{is_tree, has_tree}
use Rattle.rw_trees.specs.Table.{trees_of}

-- whether an edit is one of a node of the tree
abbrev pub speaks : TreeName → Edit → Bool
speaks t (edit.Var p) = false
speaks t (edit.Root w) = false
speaks t (edit.Step q s) = is_tree q.tree t
speaks t (edit.Clear q) = is_tree q.tree t
speaks t (edit.Prove q k c) = is_tree q.tree t
speaks t (edit.ProveLemma n c) = false
speaks t (edit.Define d) = false
speaks t (edit.Lemma m) = false
speaks t (edit.Proc h) = false
speaks t (edit.Module m) = false
speaks t (edit.Oper x o) = false
speaks t (edit.Drop x) = false

-- the edits of nodes of the tree, back to where the tree was not there
abbrev pub of_tree : TreeName → List Edit → List Edit
of_tree t [] = []
of_tree t (e ∷ l) = if has_tree t (trees_of (e ∷ l)) then (if speaks t e then e ∷ of_tree t l else of_tree t l) else []
