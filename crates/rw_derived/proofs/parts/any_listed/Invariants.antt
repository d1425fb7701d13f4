use Rattle.std.proofs.Common.{◌≡◌, drop}
use Rattle.std.specs.List.{list_any}
use Rattle.rw_faults.specs.Initial.{is_listed}
use Rattle.rw_derived.proofs.parts.any_listed.Given as goal

abbrev pub invariant-loop-name : goal.invariant-loop-name
invariant-loop-name l = list_any (is_listed l.frame) l.fn.names ≡ list_any (is_listed l.frame) (drop l.name-index l.names)
