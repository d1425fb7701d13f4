use Rattle.std.proofs.Common.{ap}
use Rattle.rw_disk.specs.DiskLog.{events_in}
use Rattle.rw_disk.specs.DiskLaws.{leaves_seen}
use Rattle.rw_disk.proofs.Recorded.{settled}
use Rattle.rw_disk.proofs.memory_disk.MemoryDiskDisk.sync.Goals as goal

pub returns-then-not-admits-clause-unsettled : goal.returns-then-not-admits-clause-unsettled
returns-then-not-admits-clause-unsettled c =
    let disk = c.args.self.now in leaves_seen disk.log.first.items (events_in disk.log) disk.contents.items disk.read

pub returns-clause-crash : goal.returns-clause-crash
returns-clause-crash c =
    let log = c.args.self.now.log in
    λ image left. settled log.first.items c.add.new.self.first.items (events_in log) (events_in c.add.new.self) image (ap (λ v. v.items) c.add.ensures.first) c.add.ensures.call left

pub returns-clause-unsettled : goal.returns-clause-unsettled
returns-clause-unsettled c =
    let disk = c.args.self.now in leaves_seen disk.log.first.items (events_in disk.log) disk.contents.items disk.read
