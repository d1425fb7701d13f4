use Rattle.std.proofs.Common.{sym, ◌∙◌}
use Rattle.rw_printer.proofs.Calls.{call_written}
use Rattle.rw_printer.proofs.terms.+push_term.Goals as goal

pub push_application-returns-clause-text : goal.push_application-returns-clause-text
push_application-returns-clause-text t c = call_written c.args.text.now c.args.name.now c.args.args.now c.args.depth c.push_word.new.text c.push_str.new.self c.push_terms.new.text c.push_str-2.new.self
    (sym c.is_empty.ensures ∙ c.if-is_empty.false) c.in_ok-push_word.ensures.text c.in_ok-push_str.ensures.ok c.in_ok-push_terms.ensures.text c.in_ok-push_str-2.ensures.ok
