use Rattle.std.proofs.Common.{◌≡◌, drop}
use Rattle.rw_head_tests.specs.Modules.{lost_refusal}
use Rattle.rw_head_tests.proofs.modules.lost_refusal.Given as goal

abbrev pub invariant-loop-oper : goal.invariant-loop-oper
invariant-loop-oper l = lost_refusal l.heads l.module (drop l.oper-index l.operations) ≡ lost_refusal l.heads l.module l.operations
