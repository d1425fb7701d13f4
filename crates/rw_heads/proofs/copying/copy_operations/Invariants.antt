use Rattle.std.proofs.Common.{◌≡◌, take}
use Rattle.rw_heads.proofs.copying.copy_operations.Given as goal

abbrev pub invariant-loop-oper : goal.invariant-loop-oper
invariant-loop-oper l = l.copies ≡ take l.oper-index l.operations
