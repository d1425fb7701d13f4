use Rattle.std.proofs.Common.{◌≡◌, ap, sym, ◌∙◌, ◌-◌, length, slice_get, Some, None, map, reverse}
use Rattle.rw_machine.specs.Counts.{doing}
use Rattle.rw_machine.specs.Kept.{shown}
use Rattle.rw_machine.proofs.Keeping.{popped}
use Rattle.rw_machine.proofs.Tallying.{last_there, last_none}
use Rattle.rw_machine.proofs.counts.next_doing.Goals as goal

pub returns-in-Some : goal.returns-in-Some
returns-in-Some c =
    let cs = c.args.machine.now.commands in
    let e : slice_get cs (length cs - 1) ≡ Some c.in-Some.command.now =
    ap (λ n. slice_get cs (n - 1)) (sym c.len-n.ensures) ∙ ap (λ l. slice_get l (c.len-n.result - 1)) (sym c.as_slice.ensures) ∙ sym c.at.ensures ∙ cc in
    let r = last_there cs c.in-Some.command.now e in
    c.doing_at.ensures ∙ sym (ap (λ l. doing (map shown (reverse l))) r.1 ∙ ap doing (popped r.0 c.in-Some.command.now))

pub returns-in-None : goal.returns-in-None
returns-in-None c =
    let cs = c.args.machine.now.commands in
    let e : slice_get cs (length cs - 1) ≡ None =
    ap (λ n. slice_get cs (n - 1)) (sym c.len-n.ensures) ∙ ap (λ l. slice_get l (c.len-n.result - 1)) (sym c.as_slice.ensures) ∙ sym c.at.ensures ∙ cc in
    sym (ap (λ l. doing (map shown (reverse l))) (last_none cs e))
