use Rattle.std.proofs.Common.{◌≡◌, [], ◌∷◌, ◌++◌, None, sym, ap, ◌∙◌, subst}
use Rattle.rw_edits.specs.declared.edit.TreeName.TheVariants as tree
use Rattle.rw_trees.specs.Parts.{Makes, blank_tree}
use Rattle.rw_trees.proofs.Making.{made_none}
use Rattle.rw_trees.proofs.parts.Parts.empty.Goals as goal

pub returns : goal.returns
returns c =
    let trees : c.push.new.self ≡ blank_tree tree.Main ∷ [] = c.in_ok-push.ensures.ok ∙ ap (λ ts. ts ++ record { name = tree.Main; top = c.blank.result } ∷ []) c.new-trees.ensures ∙ ap (λ n. record { name = tree.Main; top = n } ∷ []) c.blank.ensures in
    subst (Makes c.args.most []) (λ i. record { globals = sym c.new.ensures i; root = None; library = record { entries = sym c.new-2.ensures i }; proofs = sym c.new-3.ensures i; procs = sym c.new-4.ensures i; modules = sym c.new-5.ensures i; order = sym c.new-6.ensures i; trees = sym trees i; most = c.args.most }) (made_none c.args.most)
