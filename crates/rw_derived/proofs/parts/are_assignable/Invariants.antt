use Rattle.std.proofs.Common.{◌≡◌, drop}
use Rattle.rw_derived.specs.Causes.{each_is, is_assignable}
use Rattle.rw_derived.proofs.parts.are_assignable.Given as goal

abbrev pub invariant-loop-name : goal.invariant-loop-name
invariant-loop-name l = each_is (is_assignable l.scope l.frame) l.fn.names ≡ each_is (is_assignable l.scope l.frame) (drop l.name-index l.names)
