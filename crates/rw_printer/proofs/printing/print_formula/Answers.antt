use Rattle.std.proofs.Common.{◌++◌, sym, ap, ◌∙◌, subst}
use Rattle.rw_syntax.specs.declared.frame.Part.TheVariants as parts
use Rattle.rw_tokens.specs.Expressions.{TextSpells}
use Rattle.rw_printer.specs.Layout.{printed_formula}
use Rattle.rw_printer.proofs.ReadsBack.{formula_reads_back}
use Rattle.rw_printer.proofs.printing.print_formula.Goals as goal

pub returns-clause-reads_back : goal.returns-clause-reads_back
returns-clause-reads_back c p w =
    let f = c.args.formula.now in
    subst (λ x. TextSpells 1 x (parts.Formula f)) (sym (c.in_ok-push_formula.ensures.text ∙ ap (λ x. x ++ printed_formula f) c.new-text.ensures)) (formula_reads_back f p c.in_ok-push_formula.ensures.names w)
