use Rattle.std.proofs.Common.{◌≡◌, subst, IfOk}
use Rattle.rw_wpview.specs.Misfits.{holds_of, of_some}
use Rattle.rw_wpview.proofs.conditions.fails.Goals as goal

pub returns : goal.returns
returns c = subst (λ names. IfOk c.of_some.result (λ b. b ≡ of_some (holds_of c.args.heads.now names c.args.test) c.args.scope.now 1 c.args.noted.now)) c.as_slice.ensures c.of_some.ensures
