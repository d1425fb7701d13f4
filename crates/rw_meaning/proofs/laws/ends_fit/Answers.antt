use Rattle.rw_programs.specs.Meaning.{bodies, bodies_before}
use Rattle.rw_meaning.proofs.Ending.{ends_fit}
use Rattle.rw_meaning.proofs.laws.ends_fit.Goals as goal

pub returns : goal.returns
returns c = λ brings E p k opened scope d ok fit s t f h e. ends_fit E (bodies E p k) (bodies_before E p) brings opened scope d ok fit s t f h e
