use Rattle.rw_found_texts.proofs.Readable.{found_reads_back}
use Rattle.rw_found_texts.proofs.laws.found_lines_read_back.Goals as goal

pub returns-clause-reads_back : goal.returns-clause-reads_back
returns-clause-reads_back c = found_reads_back
