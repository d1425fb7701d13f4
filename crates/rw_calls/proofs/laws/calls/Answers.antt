use Rattle.rw_calls.proofs.CallLaw.{calls_are_sound, calls_are_sound_beside}
use Rattle.rw_calls.proofs.laws.calls.Goals as goal

pub returns-clause-context : goal.returns-clause-context
returns-clause-context c = calls_are_sound

pub returns-clause-beside : goal.returns-clause-beside
returns-clause-beside c = calls_are_sound_beside
