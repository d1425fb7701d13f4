use Rattle.rw_project.proofs.Cutting.{joined}
use Rattle.rw_project.proofs.laws.lines_are_the_text.Goals as goal

pub returns : goal.returns
returns c = joined
