use Rattle.rw_terms.specs.Sorts.{variable_sort}
use Rattle.rw_fits.proofs.Testing.{params_unlike}
use Rattle.rw_fits.proofs.calls.are_results.Goals as goal

pub returns-then-params-names : goal.returns-then-params-names
returns-then-params-names c = params_unlike (variable_sort c.args.scope.now) c.args.params.now c.args.names.now c.if-params-names.true
