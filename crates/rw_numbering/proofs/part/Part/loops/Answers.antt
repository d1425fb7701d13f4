use Rattle.std.proofs.Common.{ap, ◌∙◌}
use Rattle.rw_numbering.specs.declared.tally.Tally.{out-Tally}
use Rattle.rw_numbering.specs.Loops.{loops}
use Rattle.rw_numbering.proofs.Tallied.{tally_loops}
use Rattle.rw_numbering.proofs.part.Part.loops.Goals as goal

pub returns : goal.returns
returns c = ap (λ t. (out-Tally t).loops) c.self.invariant ∙ tally_loops c.self.inside.prog.now ∙ ap loops c.self.view_is
