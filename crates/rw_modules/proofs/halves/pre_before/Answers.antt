use Rattle.std.proofs.Common.{map}
use Rattle.std.proofs.lemmas.Result.{IfErr-at_err}
use Rattle.rw_subst.specs.Limits.{IsFormulaRefusal}
use Rattle.rw_subst.specs.Replaced.{replaced_formula, to_initial}
use Rattle.rw_modules.proofs.Large.{initial_weight, initial_depth, not_refused}
use Rattle.rw_modules.proofs.halves.pre_before.Goals as goal

pub unreachable-requires : goal.unreachable-requires
unreachable-requires c =
    let frame = c.as_slice.result.now in
    let f = c.args.spec.now.pre in
    not_refused f (replaced_formula (map to_initial frame) f) c.in-Err-TooLarge.field-0 c.in-Err-TooLarge.field-0-0 (initial_weight frame f) (initial_depth frame f) c.requires c.in-Err-TooLarge.field-0-is
    (IfErr-at_err (IsFormulaRefusal (replaced_formula (map to_initial frame) f)) c.in-Err-TooLarge.is c.to_initial.ensures.large)
