use Rattle.rw_program_printer.proofs.SpelledPrograms.{programs_readable}
use Rattle.rw_program_printer.proofs.laws.spelled_program_is_readable.Goals as goal

pub returns : goal.returns
returns c = programs_readable
