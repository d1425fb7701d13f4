use Rattle.std.proofs.Common.{◌++◌, sym, ap, ◌∙◌, subst}
use Rattle.rw_program_printer.specs.Steps.{call_text}
use Rattle.rw_program_printer.specs.StepsReadBack.{CallReadsBack}
use Rattle.rw_program_printer.proofs.SpeltCalls.{call_reads_back}
use Rattle.rw_program_printer.proofs.printing.print_call_step.Goals as goal

pub returns-clause-reads_back : goal.returns-clause-reads_back
returns-clause-reads_back c =
    let s = c.args.step.now in
    subst (λ x. CallReadsBack x s) (sym (c.in_ok-push_call_step.ensures.text ∙ ap (λ x. x ++ call_text s) c.new-text.ensures)) (call_reads_back s c.in_ok-push_call_step.ensures.names)
