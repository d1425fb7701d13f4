use Rattle.std.proofs.Common.{◌≡◌, drop}
use Rattle.rw_faults.specs.Initial.{is_listed}
use Rattle.rw_faults.proofs.initial.is_listed.Given as goal

abbrev pub invariant-loop-listed : goal.invariant-loop-listed
invariant-loop-listed l = is_listed (drop l.listed-index l.names) l.name ≡ is_listed l.names l.name
