use Rattle.std.proofs.Common.{◌∙◌, refl, sym, ap, arith}
use Rattle.std.specs.Option.{option_copied}
use Rattle.rw_trees.specs.declared.node.Node.{out-Node}
use Rattle.rw_accepting.proofs.Sizes.{few_within, few_taken}
use Rattle.rw_accepting.proofs.early.tree_limit.Goals as goal

pub overflow_add-size : goal.overflow_add-size
overflow_add-size c =
    let node = c.in-Some.node.now in
    let few = few_within c.args.main.now node c.args.path.now (sym c.look.ensures ∙ ap option_copied c.in-Some.is) c.requires.nodes in
    let taken = few_taken node c.kids_of-kids.result (out-Node node).kids refl few in
    let main = c.size.ensures in let with_step = c.size_with.ensures in let kids = c.kids_of-kids.ensures in let most = c.requires.nodes in let guards = c.requires.kids in
    omega (arith, taken, main, with_step, kids, most, guards)
