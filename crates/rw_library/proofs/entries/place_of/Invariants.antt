use Rattle.std.proofs.Common.{◌≡◌, ◌+◌, drop}
use Rattle.rw_library.specs.Entries.{place_of}
use Rattle.rw_library.proofs.entries.place_of.Given as goal

abbrev pub invariant-loop-i : goal.invariant-loop-i
invariant-loop-i l = l.i + place_of (drop l.i l.entries) l.name ≡ place_of l.entries l.name
