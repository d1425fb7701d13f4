use Rattle.std.proofs.Common.{[], ◌∙◌, ap}
use Rattle.rw_terms.specs.declared.scope.Kind.TheVariants as kind
use Rattle.rw_edit_tests.specs.Refusals.{is_ill_formed}
use Rattle.rw_head_tests.specs.Procs.{entries_as, is_misplaced}
use Rattle.rw_head_tests.proofs.Parts.{parts_told}
use Rattle.rw_head_tests.proofs.procs.proc_part.Goals as goal

pub returns : goal.returns
returns c =
    c.part_of_two.ensures
    ∙ parts_told (c.in_ok-pre.ensures ∙ ap (λ s. is_misplaced s c.args.heads.now [] c.args.head.now.pre) (c.in_ok-values.ensures ∙ ap (entries_as kind.Value) c.as_slice.ensures))
    (c.in_ok-post.ensures ∙ ap (λ s. is_ill_formed s c.args.heads.now [] c.args.head.now.post) c.requires)
