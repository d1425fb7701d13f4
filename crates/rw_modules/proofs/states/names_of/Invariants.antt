use Rattle.std.proofs.Common.{◌≡◌, take}
use Rattle.rw_programs.specs.State.{names_of}
use Rattle.rw_modules.proofs.states.names_of.Given as goal

abbrev pub invariant-loop-param : goal.invariant-loop-param
invariant-loop-param l = l.names ≡ names_of (take l.param-index l.params)
