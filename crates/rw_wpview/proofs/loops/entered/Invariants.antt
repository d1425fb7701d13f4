use Rattle.std.proofs.Common.{◌≡◌, take}
use Rattle.rw_wpview.proofs.loops.entered.Given as goal

abbrev pub invariant-loop-known : goal.invariant-loop-known
invariant-loop-known l = l.entries ≡ take l.known-index l.scope
