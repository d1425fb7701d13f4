-- The record of a disk in memory.
use Rattle.std.specs.Prelude.{List}
use Rattle.rw_disk.specs.Events.{Event, events_of}
use Rattle.rw_disk.specs.declared.log.DiskLog.{DiskLog}

-- the calls of a disk's record
abbrev pub events_in : DiskLog → List Event
events_in log = events_of log.entries.items log.written.items
