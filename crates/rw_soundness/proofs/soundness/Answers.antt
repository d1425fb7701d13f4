use Rattle.rw_soundness.proofs.Sound.{laws_are_sound, laws_beside}
use Rattle.rw_soundness.proofs.soundness.Goals as goal

pub returns-clause-context : goal.returns-clause-context
returns-clause-context c = laws_are_sound

pub returns-clause-beside : goal.returns-clause-beside
returns-clause-beside c = laws_beside
