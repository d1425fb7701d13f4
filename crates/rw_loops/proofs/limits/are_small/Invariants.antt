use Rattle.std.proofs.Common.{◌≡◌, drop}
use Rattle.std.specs.List.{list_all}
use Rattle.rw_faults.specs.Limits.{is_small}
use Rattle.rw_loops.proofs.limits.are_small.Given as goal

abbrev pub invariant-loop-formula : goal.invariant-loop-formula
invariant-loop-formula l = list_all is_small l.fn.formulas ≡ list_all is_small (drop l.formula-index l.formulas)
