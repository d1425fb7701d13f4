use Rattle.std.proofs.Common.{◌≡◌, drop}
use Rattle.rw_heads.specs.Heads.{find_oper}
use Rattle.rw_heads.proofs.operations.find_oper.Given as goal

abbrev pub invariant-loop-oper : goal.invariant-loop-oper
invariant-loop-oper l = find_oper l.name (drop l.oper-index l.operations) ≡ find_oper l.name l.operations
