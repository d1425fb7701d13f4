use Rattle.std.proofs.Common.{◌≡◌, drop}
use Rattle.rw_faults.specs.Initial.{is_listed}
use Rattle.rw_derived.specs.Causes.{each_is}
use Rattle.rw_derived.proofs.parts.are_listed.Given as goal

abbrev pub invariant-loop-name : goal.invariant-loop-name
invariant-loop-name l = each_is (is_listed l.frame) l.fn.names ≡ each_is (is_listed l.frame) (drop l.name-index l.names)
