use Rattle.std.proofs.Common.{◌++◌, sym, ap, ◌∙◌, subst}
use Rattle.rw_forms.specs.Certificates.{CertSpells}
use Rattle.rw_printer.specs.Lines.{cert_text}
use Rattle.rw_printer.proofs.SpeltLines.{cert_reads_back}
use Rattle.rw_printer.proofs.printing.print_cert.Goals as goal

pub returns-clause-reads_back : goal.returns-clause-reads_back
returns-clause-reads_back c p w =
    let d = c.args.cert.now in
    subst (λ x. CertSpells x d) (sym (c.in_ok-push_cert.ensures.text ∙ ap (λ x. x ++ cert_text d) c.new-text.ensures)) (cert_reads_back d.lines p c.in_ok-push_cert.ensures.names w)
