use Rattle.rw_loops.proofs.SoundLaws.{turns_within_variant, turns_beside}
use Rattle.rw_loops.proofs.laws.turns.Goals as goal

pub returns-clause-context : goal.returns-clause-context
returns-clause-context c = turns_within_variant

pub returns-clause-beside : goal.returns-clause-beside
returns-clause-beside c = turns_beside
