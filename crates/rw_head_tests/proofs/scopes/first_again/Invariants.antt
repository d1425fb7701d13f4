use Rattle.std.proofs.Common.{◌≡◌, [], take, drop}
use Rattle.rw_head_tests.specs.Procs.{first_again}
use Rattle.rw_head_tests.proofs.scopes.first_again.Given as goal

abbrev pub invariant-loop-i : goal.invariant-loop-i
invariant-loop-i l = first_again (take l.i l.entries) (drop l.i l.entries) ≡ first_again [] l.entries
