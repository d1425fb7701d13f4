use Rattle.std.proofs.Common.{◌++◌, sym, ap, ◌∙◌, subst}
use Rattle.rw_program_printer.specs.Steps.{module_text}
use Rattle.rw_program_printer.specs.StepsReadBack.{ModuleReadsBack}
use Rattle.rw_program_printer.proofs.SpeltCalls.{module_reads_back}
use Rattle.rw_program_printer.proofs.printing.print_module_step.Goals as goal

pub returns-clause-reads_back : goal.returns-clause-reads_back
returns-clause-reads_back c =
    let s = c.args.step.now in
    subst (λ x. ModuleReadsBack x s) (sym (c.in_ok-push_module_step.ensures.text ∙ ap (λ x. x ++ module_text s) c.new-text.ensures)) (module_reads_back s c.in_ok-push_module_step.ensures.names)
