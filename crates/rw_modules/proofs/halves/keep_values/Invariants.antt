use Rattle.std.proofs.Common.{◌≡◌, map, take}
use Rattle.rw_derived.specs.Derived.{keeps_value}
use Rattle.rw_modules.proofs.halves.keep_values.Given as goal

abbrev pub invariant-loop-name : goal.invariant-loop-name
invariant-loop-name l = l.formulas ≡ map keeps_value (take l.name-index l.names)
