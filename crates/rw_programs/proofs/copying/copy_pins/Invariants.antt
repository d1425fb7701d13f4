use Rattle.std.proofs.Common.{◌≡◌, take}
use Rattle.rw_programs.proofs.copying.copy_pins.Given as goal

abbrev pub invariant-loop-pin : goal.invariant-loop-pin
invariant-loop-pin l = l.copies ≡ take l.pin-index l.pins
