use Rattle.rw_programs.specs.State.{no_parts}
use Rattle.rw_programs.proofs.Beside.{with_no_parts}
use Rattle.rw_programs.proofs.Rules.{assign_law}
use Rattle.rw_programs.proofs.laws.assign.Goals as goal

pub returns : goal.returns
returns c = λ fixed scope E p k w pre post names terms fit s fits.
    assign_law fixed no_parts scope E p k w pre post names terms fit s (with_no_parts scope s fits)
