use Rattle.rw_modules.proofs.Room.{room_for, pre_room}
use Rattle.rw_modules.proofs.halves.diminished_pre.Goals as goal

pub for_some-requires-clause-weight : goal.for_some-requires-clause-weight
for_some-requires-clause-weight c =
    (room_for c.as_slice.result.now c.args.module.now.state c.in_ok-pre.pre c.args.spec.now.pre c.as_slice.ensures c.in_ok-pre.ensures (pre_room c.args.module.now c.args.spec.now c.requires)).0

pub for_some-requires-clause-depth : goal.for_some-requires-clause-depth
for_some-requires-clause-depth c =
    (room_for c.as_slice.result.now c.args.module.now.state c.in_ok-pre.pre c.args.spec.now.pre c.as_slice.ensures c.in_ok-pre.ensures (pre_room c.args.module.now c.args.spec.now c.requires)).1
