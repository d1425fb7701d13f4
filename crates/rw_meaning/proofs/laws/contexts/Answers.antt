use Rattle.rw_meaning.proofs.Contexts.{outermost, outermost_refines}
use Rattle.rw_meaning.proofs.laws.contexts.Goals as goal

pub returns-clause-states : goal.returns-clause-states
returns-clause-states c = outermost

pub returns-clause-refinement : goal.returns-clause-refinement
returns-clause-refinement c = outermost_refines
