use Rattle.std.proofs.Common.{◌∙◌, ap, List, arith}
use Rattle.rw_disk.specs.Events.{events_of, total}
use Rattle.rw_disk.specs.declared.log.Entry.{Entry}
use Rattle.rw_disk.proofs.Recorded.{total_push, events_other}
use Rattle.rw_disk.proofs.log.DiskLog.add.Goals as goal

pub invariant_of-self : goal.invariant_of-self
invariant_of-self c = record { whole = ap total c.push_reserved.ensures.items ∙ total_push c.args.self.now.entries.items c.args.done ∙ omega (arith, c.requires.none, c.args.self.now.whole) }

pub returns-clause-call : goal.returns-clause-call
returns-clause-call c =
    ap (λ (entries : List Entry). events_of entries c.args.self.now.written.items) c.push_reserved.ensures.items
    ∙ events_other c.args.self.now.entries.items c.args.done c.args.self.now.written.items c.args.self.now.whole
