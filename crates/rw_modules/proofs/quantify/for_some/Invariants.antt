use Rattle.std.proofs.Common.{◌≡◌, ◌≤◌, drop, length}
use Rattle.rw_subst.specs.declared.slot.Slot.TheVariants as slot
use Rattle.rw_modules.specs.Quantified.{for_some}
use Rattle.rw_modules.proofs.quantify.for_some.Given as goal

abbrev pub invariant-names : goal.invariant-names
invariant-names l = record {
  within : l.at ≤ length l.params;
  made : l.some ≡ for_some (λ x. slot.Var x) (drop l.at l.params) l.fn.formula;
}

abbrev pub decreases-names : goal.decreases-names
decreases-names l = l.at
