use Rattle.std.proofs.Common.{rules, ◌∙◌, sym, ap, filter, length}
use Rattle.rw_uses.specs.Rounds.{is_reached}
use Rattle.rw_uses.specs.Uses.{main_uses, entry_uses, used}
use Rattle.rw_uses.proofs.Rounds.{stopped}
use Rattle.rw_uses.proofs.uses.used.Goals as goal

pub returns-then-len : goal.returns-then-len
unfolding used
returns-then-len c =
    stopped (main_uses c.args.parts.now) (entry_uses c.args.parts.now) c.args.parts.now.order c.loop-round._round (length c.args.parts.now.order) c.loop-round.names c.in_ok-next.next c.loop-round.invariant
    (c.in_ok-next.ensures ∙ ap (λ ns. filter (is_reached (main_uses c.args.parts.now) (entry_uses c.args.parts.now) ns) c.args.parts.now.order) c.as_slice.ensures)
    (sym c.len.ensures ∙ c.if-len.true ∙ c.len-in-loop-round.ensures)
    (search (rules, c.loop-round-test.true))
