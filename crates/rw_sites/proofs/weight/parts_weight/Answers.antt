use Rattle.std.proofs.Common.{◌∙◌, ap}
use Rattle.rw_library.specs.Entries.{heads_of}
use Rattle.std.specs.Option.{option_copied}
use Rattle.rw_sites.proofs.Weighing.{project_weighed}
use Rattle.rw_sites.proofs.weight.parts_weight.Goals as goal

pub returns : goal.returns
returns c = project_weighed _ c.in_ok-weight.weight c.as_slice-2.result.now c.args.parts.now (option_copied c.as_ref.result) (c.as_slice-2.ensures ∙ c.in_ok-heads.ensures ∙ ap heads_of c.as_slice.ensures) c.in_ok-weight.ensures (c.as_ref.ensures.value ∙ c.in_ok-given.ensures)
