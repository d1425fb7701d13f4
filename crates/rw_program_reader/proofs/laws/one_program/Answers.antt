use Rattle.rw_forms.specs.Forms.{a_program}
use Rattle.rw_forms.proofs.Texts.{exclusive, one_fault}
use Rattle.rw_program_reader.specs.Programs.{program_form}
use Rattle.rw_program_reader.proofs.Texts.{one_program, one_program_text}
use Rattle.rw_program_reader.proofs.laws.one_program.Goals as goal

pub returns : goal.returns
returns c = record { tokens = one_program; texts = one_program_text; apart = λ text p o. exclusive program_form text (a_program p) o; one = one_fault program_form }
