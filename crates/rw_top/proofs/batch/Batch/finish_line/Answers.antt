use Rattle.std.proofs.Common.{◌≡◌, ◌<◌, ◌||◌, length, arith, rules}
use Rattle.std.proofs.lemmas.Grind.{common_steps}
use Rattle.rw_project.specs.Session.{refuses}
use Rattle.rw_top.proofs.Ends.{all_of}
use Rattle.rw_top.proofs.batch.Batch.finish_line.Goals as goal
use Rattle.rw_top.proofs.batch.Batch.finish_line.Goals.{then-self, else-self}

pub returns-clause-ok : goal.returns-clause-ok
returns-clause-ok g c = λ start held seen s.
    let done = c.in_ok-refused.ensures in
    let some : 0 < length c.args.self.now.line.items = search rules in
    let refused : c.if-self.self ≡ (c.args.self.now.refused || refuses c.args.self.now.project c.deref.result.now) =
    elim c.if-self.branch [ then-self w ↦ grind (arith, common_steps, done.refused) | else-self w ↦ grind (arith, common_steps, done.refused) ] in
    all_of start held _ _ seen _ _ _ _ _ _ c.deref.ensures.value some s done.text refused
