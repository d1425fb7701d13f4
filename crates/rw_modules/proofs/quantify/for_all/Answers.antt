use Rattle.rw_subst.specs.declared.slot.Slot.TheVariants as slot
use Rattle.rw_modules.proofs.Large.{all_later}
use Rattle.rw_modules.proofs.quantify.for_all.Goals as goal

pub all_of-requires : goal.all_of-requires
all_of-requires c = all_later (λ x. slot.Init x) c.args.params.now c.args.formula c.names.all c.names.at c.requires.weight c.requires.depth c.names.invariant.made
