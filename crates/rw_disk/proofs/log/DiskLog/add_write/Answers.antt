use Rattle.std.proofs.Common.{◌≡◌, ◌∷◌, [], ◌++◌, ℕ, ◌∙◌, ap, List, arith, rules, length, length-append}
use Rattle.rw_disk.specs.Events.{events_of, total}
use Rattle.rw_disk.specs.declared.log.Entry.{Entry}
use Rattle.rw_disk.specs.declared.log.Entry.TheVariants.{Write}
use Rattle.rw_disk.proofs.Recorded.{total_push, events_write}
use Rattle.rw_disk.proofs.log.DiskLog.add_write.Goals as goal

pub invariant_of-self : goal.invariant_of-self
invariant_of-self c =
    let bytes : c.extend_from_slice.new.self.items ≡ c.args.self.now.written.items ++ c.args.bytes.now = search rules in
    record { whole = ap total c.push_reserved.ensures.items ∙ total_push c.args.self.now.entries.items (Write c.args.at (length c.args.bytes.now)) ∙ omega (arith, c.args.self.now.whole, ap length bytes, length-append c.args.self.now.written.items c.args.bytes.now) }

pub returns-clause-call : goal.returns-clause-call
returns-clause-call c =
    let bytes : c.extend_from_slice.new.self.items ≡ c.args.self.now.written.items ++ c.args.bytes.now = search rules in
    ap (λ (entries : List Entry). events_of entries c.extend_from_slice.new.self.items) c.push_reserved.ensures.items
    ∙ ap (λ (l : List ℕ). events_of (c.args.self.now.entries.items ++ Write c.args.at (length c.args.bytes.now) ∷ []) l) bytes
    ∙ events_write c.args.self.now.entries.items c.args.at c.args.self.now.written.items c.args.bytes.now c.args.self.now.whole
