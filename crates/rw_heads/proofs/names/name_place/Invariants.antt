use Rattle.std.proofs.Common.{◌≡◌, ◌+◌, drop}
use Rattle.rw_heads.specs.Listed.{name_place}
use Rattle.rw_heads.proofs.names.name_place.Given as goal

abbrev pub invariant-loop-i : goal.invariant-loop-i
invariant-loop-i l = l.i + name_place l.name (drop l.i l.names) ≡ name_place l.name l.names
