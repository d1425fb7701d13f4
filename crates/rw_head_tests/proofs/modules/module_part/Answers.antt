use Rattle.std.proofs.Common.{[], ◌∙◌, ap}
use Rattle.rw_terms.specs.declared.scope.Kind.TheVariants as kind
use Rattle.rw_edit_tests.specs.Refusals.{is_ill_formed}
use Rattle.rw_head_tests.specs.Procs.{entries_as, is_misplaced}
use Rattle.rw_head_tests.proofs.Parts.{parts_told}
use Rattle.rw_head_tests.proofs.modules.module_part.Goals as goal

pub returns : goal.returns
returns c =
    c.part_of_two.ensures
    ∙ parts_told (c.in_ok-start.ensures ∙ ap (λ s. is_misplaced s c.args.heads.now [] c.args.module.now.start) (c.in_ok-state.ensures ∙ ap (entries_as kind.Module) c.as_slice.ensures))
    (c.in_ok-coupling.ensures ∙ ap (λ s. is_ill_formed s c.args.heads.now [] c.args.module.now.coupling) c.requires)
