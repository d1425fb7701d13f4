use Rattle.rw_forms.proofs.Parts.{end_is, stops_end}
use Rattle.rw_forms.proofs.taking.end.Goals as goal

pub returns-then-at-line : goal.returns-then-at-line
returns-then-at-line c = stops_end c.args.line.now c.args.at _ c.fault.ensures c.requires.within c.if-at-line.true

pub returns : goal.returns
returns c = λ r. end_is r c.args.line.now c.args.at c.if-at-line.false
