use Rattle.std.proofs.Common.{[]}
use Rattle.rw_terms.specs.Rules.{sort_in}
use Rattle.rw_fits.proofs.Testing.{params_unlike}
use Rattle.rw_fits.proofs.calls.are_args.Goals as goal

pub returns-then-params-args : goal.returns-then-params-args
returns-then-params-args c = params_unlike (sort_in c.args.scope.now []) c.args.params.now c.args.args.now c.if-params-args.true
