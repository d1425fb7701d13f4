use Rattle.rw_reader.proofs.Expressions.{no_term}
use Rattle.rw_reader.proofs.expression.read_formula.Goals as goal

pub unreachable-requires : goal.unreachable-requires
unreachable-requires c = no_term c.args.text.now c.in_ok-formula.field-0 c.in-Term.field-0 c.in-Term.is c.in_ok-formula.ensures.ok
