use Rattle.std.proofs.Common.{◌++◌, sym, ap, ◌∙◌, subst}
use Rattle.rw_program_printer.specs.Steps.{basic_text}
use Rattle.rw_program_printer.specs.StepsReadBack.{BasicReadsBack}
use Rattle.rw_program_printer.proofs.SpeltSteps.{basic_reads_back}
use Rattle.rw_program_printer.proofs.printing.print_basic_step.Goals as goal

pub returns-clause-reads_back : goal.returns-clause-reads_back
returns-clause-reads_back c =
    let s = c.args.step.now in
    subst (λ x. BasicReadsBack x s) (sym (c.in_ok-push_basic_step.ensures.text ∙ ap (λ x. x ++ basic_text s) c.new-text.ensures)) (basic_reads_back s c.in_ok-push_basic_step.ensures.names)
