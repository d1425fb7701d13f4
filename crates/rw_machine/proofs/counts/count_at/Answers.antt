use Rattle.std.proofs.Common.{◌≡◌, ap, sym, ◌∙◌, slice_get, slice_set, Some}
use Rattle.rw_machine.specs.Counts.{counted_here}
use Rattle.rw_machine.proofs.Tallying.{changed_none, changed_some}
use Rattle.rw_machine.proofs.counts.count_at.Goals as goal

pub returns-in-None : goal.returns-in-None
returns-in-None c = changed_none c.args.n (counted_here c.args.doing c.args.more) c.args.counts.now (sym c.get.ensures.value ∙ cc)

pub returns-in-Some : goal.returns-in-Some
returns-in-Some c =
    let ls = c.args.counts.now in
    let e : slice_get ls c.args.n ≡ Some c.in-Some.old.now = sym c.get.ensures.value ∙ cc in
    c.set.ensures ∙ ap (slice_set ls c.args.n) c.counted_here-new.ensures ∙ changed_some c.args.n (counted_here c.args.doing c.args.more) ls c.in-Some.old.now e
