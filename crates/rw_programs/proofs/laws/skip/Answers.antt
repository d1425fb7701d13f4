use Rattle.rw_programs.proofs.Skipping.{stays}
use Rattle.rw_programs.proofs.laws.skip.Goals as goal

pub returns-clause-at_state : goal.returns-clause-at_state
returns-clause-at_state c = λ scope E F p k q j w s fits gives h. (tt, stays scope E.library w s fits.names (gives h))

pub returns-clause-in_scope : goal.returns-clause-in_scope
returns-clause-in_scope c = λ scope E F p k q j w follows s fits h. (tt, stays scope E.library w s fits.names (follows s fits h))

pub returns-clause-past_all : goal.returns-clause-past_all
returns-clause-past_all c = λ scope E F w follows s fits h. (tt, stays scope E.library w s fits.names (follows s fits h))
