use Rattle.std.proofs.Common.{◌≡◌, ◌||◌, arith, rules}
use Rattle.std.proofs.lemmas.Grind.{common_steps}
use Rattle.rw_project.specs.Session.{refuses}
use Rattle.rw_top.proofs.Steps.{stands_lf_given, stands_other}
use Rattle.rw_top.proofs.batch.Batch.take.Goals as goal
use Rattle.rw_top.proofs.batch.Batch.take.Goals.{then-self, else-self}

pub returns-then-byte-eq10-clause-ok : goal.returns-then-byte-eq10-clause-ok
returns-then-byte-eq10-clause-ok g c = λ start held seen s.
    let done = c.in_ok-refused.ensures in
    let refused : c.if-self.self ≡ (c.args.self.now.refused || refuses c.args.self.now.project c.deref.result.now) =
    elim c.if-self.branch [ then-self w ↦ grind (arith, common_steps, done.refused) | else-self w ↦ grind (arith, common_steps, done.refused) ] in
    stands_lf_given start held _ _ seen _ _ _ _ _ _ _ _ _ c.deref.ensures.value c.if-byte-eq10.true s c.if-self-ge-MOST_LINES.false done.text done.after c.clear.ensures.items refused

pub returns-clause-ok : goal.returns-clause-ok
returns-clause-ok g c = λ start held seen s.
    stands_other start held _ seen _ _ _ _ _ _ c.if-byte-eq10.false s c.if-self-ge-MOST_LINES.false (search rules) c.in_ok-push.ensures.items
