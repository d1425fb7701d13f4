use Rattle.std.proofs.Common.{ap, ◌∙◌}
use Rattle.rw_heads.specs.Heads.{with_operations}
use Rattle.rw_heads.proofs.modules.exchange.Goals as goal

pub returns-clause-held : goal.returns-clause-held
returns-clause-held c = c.replace.ensures.after ∙ ap (λ os. with_operations os c.args.fresh) c.swap.ensures.y_after

pub returns-clause-old : goal.returns-clause-old
returns-clause-old c = c.replace.ensures.value ∙ ap (λ os. with_operations os c.args.held.now) c.swap.ensures.x_after
