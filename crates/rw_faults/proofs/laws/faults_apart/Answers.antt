use Rattle.rw_faults.proofs.Apart as apart
use Rattle.rw_faults.proofs.laws.faults_apart.Goals as goal

pub returns : goal.returns
returns c = apart.faults_apart
