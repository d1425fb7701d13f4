use Rattle.std.proofs.Common.{◌++◌, sym, ap, ◌∙◌, subst}
use Rattle.rw_program_printer.specs.Layout.{prog_text}
use Rattle.rw_program_printer.specs.ReadsBack.{ProgramReadsBack}
use Rattle.rw_program_printer.proofs.Spelt.{program_reads_back}
use Rattle.rw_program_printer.proofs.printing.print_program.Goals as goal

pub returns-clause-reads_back : goal.returns-clause-reads_back
returns-clause-reads_back c =
    let p = c.args.prog.now in
    subst (λ x. ProgramReadsBack x p) (sym (c.in_ok-push_program.ensures.text ∙ ap (λ x. x ++ prog_text p) c.new-text.ensures)) (program_reads_back p c.in_ok-push_program.ensures.spelt)
