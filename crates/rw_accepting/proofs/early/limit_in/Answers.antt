use Rattle.std.proofs.Common.{◌∙◌, sym, ap}
use Rattle.std.specs.Option.{option_copied}
use Rattle.rw_trees.specs.Parts.{top_of}
use Rattle.rw_accepting.proofs.Tops.{top_few}
use Rattle.rw_accepting.proofs.early.limit_in.Goals as goal

pub step_limit-requires : goal.step_limit-requires
step_limit-requires c =
    top_few c.args.parts.now.trees c.args.place.now.tree c.in-Some.top.now c.requires
    (ap (λ ts. top_of ts c.args.place.now.tree) (sym c.as_slice.ensures) ∙ sym c.top_of.ensures ∙ ap option_copied c.in-Some.is)
