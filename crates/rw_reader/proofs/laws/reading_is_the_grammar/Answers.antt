use Rattle.rw_reader.proofs.Lines.{reads_exactly, faults_exactly}
use Rattle.rw_reader.proofs.laws.reading_is_the_grammar.Goals as goal

pub returns-clause-spelled : goal.returns-clause-spelled
returns-clause-spelled c = reads_exactly

pub returns-clause-faulty : goal.returns-clause-faulty
returns-clause-faulty c = faults_exactly
