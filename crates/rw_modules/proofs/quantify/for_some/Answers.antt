use Rattle.rw_subst.specs.declared.slot.Slot.TheVariants as slot
use Rattle.rw_modules.proofs.Large.{some_later}
use Rattle.rw_modules.proofs.quantify.for_some.Goals as goal

pub some_of-requires : goal.some_of-requires
some_of-requires c = some_later (λ x. slot.Var x) c.args.params.now c.args.formula c.names.some c.names.at c.requires.weight c.requires.depth c.names.invariant.made
