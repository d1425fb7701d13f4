use Rattle.std.proofs.Common.{◌≡◌, drop}
use Rattle.rw_programs.specs.Scoped.{with_pins}
use Rattle.rw_programs.proofs.scoped.with_pins.Given as goal

abbrev pub invariant-loop-pin : goal.invariant-loop-pin
invariant-loop-pin l = with_pins l.outer l.outer l.fn.pins ≡ with_pins l.outer l.scope (drop l.pin-index l.pins)
