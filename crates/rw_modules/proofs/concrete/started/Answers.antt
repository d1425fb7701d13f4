use Rattle.std.proofs.Common.{◌∙◌}
use Rattle.rw_terms.specs.declared.term.Formula.TheVariants as formula
use Rattle.rw_modules.proofs.Room.{room_for, start_room}
use Rattle.rw_modules.proofs.concrete.started.Goals as goal

pub for_some-requires-clause-weight : goal.for_some-requires-clause-weight
for_some-requires-clause-weight c =
    (room_for c.as_slice.result.now c.args.module.now.state c.in_ok-coupled.coupled (formula.And c.args.module.now.start c.args.module.now.coupling) c.as_slice.ensures
    (c.in_ok-coupled.ensures ∙ λ i. formula.And (c.in_ok-start.ensures i) (c.in_ok-coupling.ensures i)) (start_room c.args.module.now c.requires)).0

pub for_some-requires-clause-depth : goal.for_some-requires-clause-depth
for_some-requires-clause-depth c =
    (room_for c.as_slice.result.now c.args.module.now.state c.in_ok-coupled.coupled (formula.And c.args.module.now.start c.args.module.now.coupling) c.as_slice.ensures
    (c.in_ok-coupled.ensures ∙ λ i. formula.And (c.in_ok-start.ensures i) (c.in_ok-coupling.ensures i)) (start_room c.args.module.now c.requires)).1
