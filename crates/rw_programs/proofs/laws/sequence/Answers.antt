use Rattle.rw_programs.specs.State.{no_parts}
use Rattle.rw_programs.proofs.Beside.{with_no_parts, without_parts}
use Rattle.rw_programs.proofs.Rules.{seq_law}
use Rattle.rw_programs.proofs.laws.sequence.Goals as goal

pub returns : goal.returns
returns c = λ fixed scope E p k w pre mid post b d keeps fm fp one two s fits.
    seq_law fixed no_parts scope E p k w pre post keeps mid b d fm fp (λ t on. one t (without_parts scope t on)) (λ t on. two t (without_parts scope t on)) s (with_no_parts scope s fits)
