use Rattle.rw_printer.proofs.SpelledValues.{terms_readable, formulas_readable}
use Rattle.rw_printer.proofs.laws.spelled_is_readable.Goals as goal

pub returns-clause-terms : goal.returns-clause-terms
returns-clause-terms c = terms_readable

pub returns-clause-formulas : goal.returns-clause-formulas
returns-clause-formulas c = formulas_readable
