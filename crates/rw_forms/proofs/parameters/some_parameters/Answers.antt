use Rattle.std.proofs.Common.{◌∙◌, sym, ap}
use Rattle.rw_forms.specs.Phrases.{some_parameters}
use Rattle.rw_forms.proofs.Parts.{passed_on}
use Rattle.std.proofs.Common.{drop}
use Rattle.rw_forms.specs.Reading.{read_form}
use Rattle.rw_forms.proofs.parameters.some_parameters.Goals as goal

pub returns-then-accept : goal.returns-then-accept
unfolding some_parameters
returns-then-accept c = (c.if-accept.ensures.chose.0, λ k. c.if-accept.ensures.chose.1 _ _ ∙ ap (λ l. read_form (k l) (drop c.accept.new.at c.args.line.now)) (sym c.new.ensures))

pub returns : goal.returns
unfolding some_parameters
returns c = passed_on _ _ c.args.line.now _ _ _ c.closed_parameters.result (λ k. c.if-accept.ensures.chose.1 _ _) c.closed_parameters.ensures
