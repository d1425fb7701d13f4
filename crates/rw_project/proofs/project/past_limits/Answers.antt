use Rattle.std.proofs.Common.{◌∙◌, arith, ap}
use Rattle.rw_project.specs.Session.{past_limits}
use Rattle.rw_project.proofs.Limits.{past_edits, past_bytes, past_none}
use Rattle.rw_project.proofs.project.past_limits.Goals as goal

pub returns-then-count-clause-told : goal.returns-then-count-clause-told
returns-then-count-clause-told c = λ l e. past_edits c.args.count c.args.bytes (omega (arith, c.if-count.true)) ∙ ap (λ n. past_limits n c.args.bytes) e

pub returns-then-bytes-gt-MOST_BYTES-clause-told : goal.returns-then-bytes-gt-MOST_BYTES-clause-told
returns-then-bytes-gt-MOST_BYTES-clause-told c = λ l e. past_bytes c.args.count c.args.bytes (omega (arith, c.if-count.false)) (omega (arith, c.if-bytes-gt-MOST_BYTES.true)) ∙ ap (λ n. past_limits n c.args.bytes) e

pub returns-clause-told : goal.returns-clause-told
returns-clause-told c = λ l e. past_none c.args.count c.args.bytes (omega (arith, c.if-count.false)) (omega (arith, c.if-bytes-gt-MOST_BYTES.false)) ∙ ap (λ n. past_limits n c.args.bytes) e
