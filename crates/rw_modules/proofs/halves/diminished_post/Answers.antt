use Rattle.rw_modules.proofs.Room.{room_for, gives_room, post_room, old_room, gives_to}
use Rattle.rw_modules.proofs.halves.diminished_post.Goals as goal

pub pre_before-requires : goal.pre_before-requires
pre_before-requires c = old_room c.args.module.now c.args.spec.now c.requires

pub for_some-requires-clause-weight : goal.for_some-requires-clause-weight
for_some-requires-clause-weight c = (room_for c.as_slice.result.now c.args.module.now.state c.in_ok-post.post c.args.spec.now.post c.as_slice.ensures c.in_ok-post.ensures (post_room c.args.module.now c.args.spec.now c.requires)).0

pub for_some-requires-clause-depth : goal.for_some-requires-clause-depth
for_some-requires-clause-depth c = (room_for c.as_slice.result.now c.args.module.now.state c.in_ok-post.post c.args.spec.now.post c.as_slice.ensures c.in_ok-post.ensures (post_room c.args.module.now c.args.spec.now c.requires)).1

pub for_all-requires-clause-weight : goal.for_all-requires-clause-weight
for_all-requires-clause-weight c =
    (room_for c.as_slice-2.result.now c.args.module.now.state c.in_ok-gives.gives _ c.as_slice-2.ensures
    (gives_to c.args.module.now c.args.spec.now c.as_slice.result.now c.in_ok-old.old c.in_ok-post.post c.in_ok-after.after c.in_ok-gives.gives c.in_ok-old.ensures c.as_slice.ensures c.in_ok-post.ensures c.in_ok-after.ensures c.in_ok-gives.ensures)
    (gives_room c.args.module.now c.args.spec.now c.requires)).0

pub for_all-requires-clause-depth : goal.for_all-requires-clause-depth
for_all-requires-clause-depth c =
    (room_for c.as_slice-2.result.now c.args.module.now.state c.in_ok-gives.gives _ c.as_slice-2.ensures
    (gives_to c.args.module.now c.args.spec.now c.as_slice.result.now c.in_ok-old.old c.in_ok-post.post c.in_ok-after.after c.in_ok-gives.gives c.in_ok-old.ensures c.as_slice.ensures c.in_ok-post.ensures c.in_ok-after.ensures c.in_ok-gives.ensures)
    (gives_room c.args.module.now c.args.spec.now c.requires)).1
