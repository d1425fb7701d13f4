use Rattle.std.proofs.lemmas.Result.{IfErr-at_err}
use Rattle.rw_subst.specs.Limits.{IsFormulaRefusal}
use Rattle.rw_subst.specs.Replaced.{closed}
use Rattle.rw_modules.proofs.Large.{closed_weight, closed_depth, not_refused}
use Rattle.rw_modules.proofs.quantify.closed.Goals as goal

pub unreachable-requires : goal.unreachable-requires
unreachable-requires c =
    let s = c.args.slot.now in
    let f = c.args.formula.now in
    not_refused f (closed s f) c.in-Err-TooLarge.field-0 c.in-Err-TooLarge.field-0-0 (closed_weight s f) (closed_depth s f) c.requires c.in-Err-TooLarge.field-0-is
    (IfErr-at_err (IsFormulaRefusal (closed s f)) c.in-Err-TooLarge.is c.close.ensures.large)
