use Rattle.rw_evaluation.proofs.Evaluations.{term_right, guard_right}
use Rattle.rw_evaluation.proofs.laws.evaluation.Goals as goal

pub returns-clause-terms : goal.returns-clause-terms
returns-clause-terms c = term_right

pub returns-clause-guards : goal.returns-clause-guards
returns-clause-guards c = guard_right
