use Rattle.rw_forms.specs.Forms.{a_cert}
use Rattle.rw_forms.specs.Certificates.{cert_form}
use Rattle.rw_forms.proofs.Texts.{exclusive, one_fault}
use Rattle.rw_reader.proofs.Lines.{one_cert, one_cert_text}
use Rattle.rw_reader.proofs.laws.one_cert.Goals as goal

pub returns : goal.returns
returns c = record { tokens = one_cert; texts = one_cert_text; apart = λ text d. exclusive cert_form text (a_cert d); one = one_fault cert_form }
