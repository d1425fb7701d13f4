use Rattle.std.proofs.Common.{◌∙◌}
use Rattle.std.proofs.lemmas.Result.{err_from_is_err_and}
use Rattle.rw_forms.specs.Certificates.{cert_form}
use Rattle.rw_forms.proofs.Parts.{carried}
use Rattle.rw_reader.proofs.Lines.{cert_ok, cert_err}
use Rattle.rw_reader.proofs.reading.read_cert.Goals as goal

pub returns-in_err-lines : goal.returns-in_err-lines
unfolding cert_form
returns-in_err-lines c = let p = err_from_is_err_and c.from_residual.result c.from_residual.ensures.1 in rw (p.1, p.2) (record { ok = tt; err = cert_err c.args.text.now c.skip-at.result _ c.skip-at.ensures.place (c.in_err-lines.ensures _) })

pub returns-in_err-end : goal.returns-in_err-end
unfolding cert_form
returns-in_err-end c = let p = err_from_is_err_and c.from_residual-in_err-end.result c.from_residual-in_err-end.ensures.1 in rw (p.1, p.2) (record { ok = tt; err = cert_err c.args.text.now c.skip-at.result _ c.skip-at.ensures.place (carried c.args.text.now _ (c.in_ok-lines.ensures.1 _) (c.in_err-end.ensures _)) })

pub returns : goal.returns
unfolding cert_form
returns c = record { ok = cert_ok c.args.text.now c.skip-at.result _ c.skip-at.ensures.place (c.in_ok-lines.ensures.1 _ ∙ c.in_ok-end.ensures _); err = tt }
