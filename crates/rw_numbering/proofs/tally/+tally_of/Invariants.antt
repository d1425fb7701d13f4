use Rattle.std.proofs.Common.{◌≡◌, take}
use Rattle.rw_numbering.specs.Tallies.{arm_tallies}
use Rattle.rw_numbering.proofs.tally.+tally_of.Given as goal

abbrev pub invariant-arm_tallies-loop-arm : goal.invariant-arm_tallies-loop-arm
invariant-arm_tallies-loop-arm l = l.tallies ≡ arm_tallies (take l.arm-index l.arms)
