use Rattle.std.proofs.Common.{◌∙◌, ap}
use Rattle.rw_edit_tests.specs.Refusals.{ill_formed_part}
use Rattle.rw_edit_tests.proofs.Roots.{unknown_told, part_told, limit_told}
use Rattle.rw_edit_tests.proofs.root.root_refusal.Goals as goal

pub returns-in-Some : goal.returns-in-Some
returns-in-Some c = unknown_told c.args.globals.now c.args.heads.now c.args.spec.now c.root_unknown.result c.root_unknown.ensures c.in-Some.name c.in-Some.is

pub returns-in-Some-2 : goal.returns-in-Some-2
returns-in-Some-2 c =
    part_told c.args.globals.now c.args.heads.now c.args.spec.now c.root_unknown.result c.root_unknown.ensures c.in_ok-part.field-0
    (c.in_ok-part.ensures ∙ ap (λ s. ill_formed_part s c.args.heads.now c.args.spec.now) c.in_ok-scope.ensures) c.in_default.is c.in-Some-2.part c.in-Some-2.is

pub returns : goal.returns
returns c =
    c.past_limit.ensures
    ∙ limit_told c.args.globals.now c.args.heads.now c.args.spec.now c.root_unknown.result c.root_unknown.ensures c.in_ok-part.field-0
    (c.in_ok-part.ensures ∙ ap (λ s. ill_formed_part s c.args.heads.now c.args.spec.now) c.in_ok-scope.ensures) c.in_default.is c.in_default-2.is
