use Rattle.std.proofs.Common.{◌++◌, sym, ap, ◌∙◌, subst}
use Rattle.rw_syntax.specs.declared.frame.Part.TheVariants as parts
use Rattle.rw_tokens.specs.Expressions.{TextSpells}
use Rattle.rw_printer.specs.Layout.{printed_term}
use Rattle.rw_printer.proofs.ReadsBack.{term_reads_back}
use Rattle.rw_printer.proofs.printing.print_term.Goals as goal

pub returns-clause-reads_back : goal.returns-clause-reads_back
returns-clause-reads_back c p w =
    let t = c.args.term.now in
    subst (λ x. TextSpells 6 x (parts.Term t)) (sym (c.in_ok-push_term.ensures.text ∙ ap (λ x. x ++ printed_term t) c.new-text.ensures)) (term_reads_back t p c.in_ok-push_term.ensures.names w)
