use Rattle.std.proofs.Common.{◌∙◌}
use Rattle.std.specs.Option.{option_copied}
use Rattle.rw_derivation.specs.Seen.{seen}
use Rattle.rw_derivation.proofs.Weighing.{tree_weighed}
use Rattle.rw_derivation.proofs.weight.tree_weight.Goals as goal

pub returns : goal.returns
returns c = tree_weighed _ c.in_ok-weight.weight (seen c.args.around.now) c.args.parts.now.globals c.args.parts.now.root c.args.tree.now (option_copied c.as_ref.result) c.in_ok-weight.ensures (c.as_ref.ensures.value ∙ c.in_ok-given.ensures)
