use Rattle.std.proofs.Common.{◌≡◌, ◌+◌, ◌-◌, ◌<◌, ◌++◌, true, length, drop, IfSome}
use Rattle.std.specs.List.{AllByRecursion}
use Rattle.rw_io.specs.Moments.{OnlyReads}
use Rattle.rw_journal.specs.Image.{header, IsRecord, blocks}
use Rattle.rw_journal.specs.Found.{payloads}
use Rattle.rw_journal.proofs.reading.read_records.Given as goal

abbrev pub invariant-each : goal.invariant-each
invariant-each g l =
    let disk = g.D.Disk in
    record {
      attached : disk.attached l.disk ≡ true;
      within : l.gate < l.len;
      gate : l.gate ≡ 8 + length (blocks (payloads l.records));
      whole : AllByRecursion IsRecord (payloads l.records);
      form : IfSome (disk.seen l.fn.disk) (λ file. file ≡ header ++ blocks (payloads l.records) ++ drop l.gate file);
      reads : OnlyReads disk.seen disk.may_leave disk.moment disk.left_since l.fn.disk l.disk;
      faults : disk.disk_faults l.disk ≡ disk.disk_faults l.fn.disk;
    }

abbrev pub decreases-each : goal.decreases-each
decreases-each g l = l.len - l.gate
