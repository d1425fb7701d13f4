use Rattle.std.proofs.Common.{◌≡◌, ◌≤◌, drop, length}
use Rattle.rw_subst.specs.declared.slot.Slot.TheVariants as slot
use Rattle.rw_modules.specs.Quantified.{for_all}
use Rattle.rw_modules.proofs.quantify.for_all.Given as goal

abbrev pub invariant-names : goal.invariant-names
invariant-names l = record {
  within : l.at ≤ length l.params;
  made : l.all ≡ for_all (λ x. slot.Init x) (drop l.at l.params) l.fn.formula;
}

abbrev pub decreases-names : goal.decreases-names
decreases-names l = l.at
