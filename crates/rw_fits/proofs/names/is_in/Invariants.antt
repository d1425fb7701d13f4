use Rattle.std.proofs.Common.{◌≡◌, drop}
use Rattle.rw_programs.specs.State.{is_in}
use Rattle.rw_fits.proofs.names.is_in.Given as goal

abbrev pub invariant-loop-other : goal.invariant-loop-other
invariant-loop-other l = is_in l.name l.fn.names ≡ is_in l.name (drop l.other-index l.names)
