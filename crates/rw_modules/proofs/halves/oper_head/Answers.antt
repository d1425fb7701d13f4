use Rattle.std.proofs.Common.{◌≡◌, true, IfOk, IfErr, subst, rules}
use Rattle.rw_programs.specs.declared.prog.Spec.{Spec}
use Rattle.rw_modules.specs.Heads.{augmented, diminished}
use Rattle.rw_modules.specs.Refusals.{is_small_spec, IsSpecRefusal}
use Rattle.rw_modules.proofs.halves.oper_head.Goals as goal

pub returns-clause-small : goal.returns-clause-small
returns-clause-small c =
    let is : c.get.result.now ≡ augmented c.args.module.now c.args.spec.now = search rules in
    subst (λ (w : Spec). IfOk c.concrete_part.result (λ _. is_small_spec (diminished c.args.module.now w) ≡ true)) is c.concrete_part.ensures.small

pub returns-clause-err : goal.returns-clause-err
returns-clause-err c =
    let is : c.get.result.now ≡ augmented c.args.module.now c.args.spec.now = search rules in
    subst (λ (w : Spec). IfErr c.concrete_part.result (IsSpecRefusal (diminished c.args.module.now w))) is c.concrete_part.ensures.err
