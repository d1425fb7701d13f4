use Rattle.rw_programs.specs.State.{no_parts}
use Rattle.rw_programs.proofs.Beside.{with_no_parts, without_parts}
use Rattle.rw_programs.proofs.Rules.{weaken_law}
use Rattle.rw_programs.proofs.laws.weaken.Goals as goal

pub returns : goal.returns
returns c = λ fixed scope E p k w pre post f b follows kid s fits.
    weaken_law fixed no_parts scope E p k w pre post f b follows (λ t on. kid t (without_parts scope t on)) s (with_no_parts scope s fits)
