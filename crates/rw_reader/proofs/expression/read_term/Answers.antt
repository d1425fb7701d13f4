use Rattle.rw_reader.proofs.Expressions.{no_formula}
use Rattle.rw_reader.proofs.expression.read_term.Goals as goal

pub unreachable-requires : goal.unreachable-requires
unreachable-requires c = no_formula c.args.text.now c.in_ok-term.field-0 c.in-Formula.field-0 c.in-Formula.is c.in_ok-term.ensures.ok
