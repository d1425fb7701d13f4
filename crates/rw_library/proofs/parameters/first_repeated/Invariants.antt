use Rattle.std.proofs.Common.{◌≡◌, [], take, drop}
use Rattle.rw_library.specs.Parameters.{first_repeated}
use Rattle.rw_library.proofs.parameters.first_repeated.Given as goal

abbrev pub invariant-loop-i : goal.invariant-loop-i
invariant-loop-i l = first_repeated (take l.i l.params) (drop l.i l.params) ≡ first_repeated [] l.params
