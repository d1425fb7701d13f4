use Rattle.std.proofs.Common.{◌≡◌, drop}
use Rattle.rw_heads.specs.Heads.{has_oper}
use Rattle.rw_heads.proofs.operations.has_oper.Given as goal

abbrev pub invariant-loop-oper : goal.invariant-loop-oper
invariant-loop-oper l = has_oper l.name (drop l.oper-index l.operations) ≡ has_oper l.name l.operations
