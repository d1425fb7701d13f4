use Rattle.std.proofs.Common.{◌∙◌, ap}
use Rattle.rw_head_tests.specs.Procs.{is_misplaced}
use Rattle.rw_head_tests.specs.Modules.{after_scope, abstract_in}
use Rattle.rw_head_tests.proofs.operations.is_post_misplaced.Goals as goal

pub returns : goal.returns
returns c =
    let initials = c.as_slice-2.ensures ∙ c.in_ok-initials.ensures ∙ ap (abstract_in c.args.module.now) c.as_slice.ensures in
    c.in_ok-bad.ensures
    ∙ ap (λ s. is_misplaced s c.args.heads.now c.as_slice-2.result.now c.args.oper.now.spec.post) c.in_ok-scope.ensures
    ∙ ap (λ names. is_misplaced (after_scope c.args.module.now c.args.oper.now) c.args.heads.now names c.args.oper.now.spec.post) initials
