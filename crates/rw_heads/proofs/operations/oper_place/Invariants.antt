use Rattle.std.proofs.Common.{◌≡◌, ◌+◌, drop}
use Rattle.rw_heads.specs.Heads.{oper_place}
use Rattle.rw_heads.proofs.operations.oper_place.Given as goal

abbrev pub invariant-loop-i : goal.invariant-loop-i
invariant-loop-i l = l.i + oper_place l.name (drop l.i l.operations) ≡ oper_place l.name l.operations
