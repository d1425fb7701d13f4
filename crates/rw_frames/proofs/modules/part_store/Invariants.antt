use Rattle.std.proofs.Common.{◌≡◌, drop}
use Rattle.rw_frames.specs.Frames.{parts_of}
use Rattle.rw_frames.proofs.modules.part_store.Given as goal

abbrev pub invariant-loop-part : goal.invariant-loop-part
invariant-loop-part l = parts_of (drop l.part-index l.parts) l.name ≡ parts_of l.parts l.name
