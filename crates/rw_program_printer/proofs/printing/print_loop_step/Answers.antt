use Rattle.std.proofs.Common.{◌++◌, sym, ap, ◌∙◌, subst}
use Rattle.rw_program_printer.specs.Steps.{loop_text}
use Rattle.rw_program_printer.specs.StepsReadBack.{LoopReadsBack}
use Rattle.rw_program_printer.proofs.SpeltSteps.{loop_reads_back}
use Rattle.rw_program_printer.proofs.printing.print_loop_step.Goals as goal

pub returns-clause-reads_back : goal.returns-clause-reads_back
returns-clause-reads_back c =
    let s = c.args.step.now in
    subst (λ x. LoopReadsBack x s) (sym (c.in_ok-push_loop_step.ensures.text ∙ ap (λ x. x ++ loop_text s) c.new-text.ensures)) (loop_reads_back s c.in_ok-push_loop_step.ensures.names)
