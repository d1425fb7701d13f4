use Rattle.std.proofs.Common.{subst}
use Rattle.rw_subst.specs.declared.slot.Slot.TheVariants as slot
use Rattle.rw_subst.specs.Replaced.{closed}
use Rattle.rw_derived.specs.Making.{IsLargeRefusal}
use Rattle.rw_wpview.proofs.kept.closed_formula.Goals as goal

pub returns-in-Err-clause-err : goal.returns-in-Err-clause-err
returns-in-Err-clause-err c = subst (λ x. IsLargeRefusal (closed (slot.Var x) c.args.formula.now) c.too_large.result) c.copy.ensures (c.too_large.ensures _ c.in-Err.ensures.large)
