use Rattle.std.proofs.Common.{◌≡◌, drop}
use Rattle.std.specs.List.{list_any}
use Rattle.rw_derived.specs.Causes.{is_kind, is_fixed_kind}
use Rattle.rw_derived.proofs.parts.any_fixed.Given as goal

abbrev pub invariant-loop-name : goal.invariant-loop-name
invariant-loop-name l = list_any (is_kind is_fixed_kind l.scope) l.fn.names ≡ list_any (is_kind is_fixed_kind l.scope) (drop l.name-index l.names)
