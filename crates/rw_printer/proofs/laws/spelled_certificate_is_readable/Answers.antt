use Rattle.rw_printer.proofs.SpelledCerts.{certs_readable}
use Rattle.rw_printer.proofs.laws.spelled_certificate_is_readable.Goals as goal

pub returns : goal.returns
returns c = certs_readable
