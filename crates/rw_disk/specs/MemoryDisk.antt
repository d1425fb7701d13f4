-- What a disk in memory tells.
use Rattle.std.specs.Prelude.{ℕ, ◌+◌, ◌-◌, List, length}
use Rattle.rw_disk.specs.Events.{Event, Leaves, LeftSince}
use Rattle.rw_disk.specs.DiskLog.{events_in}
use Rattle.rw_io.specs.Memory.{calls_left}
use Rattle.rw_disk.specs.declared.memory_disk.MemoryDisk.{MemoryDisk}
use Rattle.rw_io.specs.declared.schedule.Schedule.{Schedule}

abbrev pub disk_bytes : MemoryDisk → List ℕ
disk_bytes d = d.contents.items

-- the calls so far that change what a crash may leave, the newest first
abbrev pub disk_events : MemoryDisk → List Event
disk_events d = events_in d.log

-- the bytes at its making
abbrev pub disk_first : MemoryDisk → List ℕ
disk_first d = d.log.first.items

-- what a crash now may leave
abbrev pub DiskLeaves : MemoryDisk → List ℕ → Type 0
DiskLeaves d c = Leaves (disk_first d) (disk_events d) c

abbrev pub disk_moment : MemoryDisk → ℕ
disk_moment d = length (disk_events d)

-- what a crash at that moment or a later one may have left
abbrev pub DiskLeftSince : MemoryDisk → ℕ → List ℕ → Type 0
DiskLeftSince d t c = LeftSince (disk_first d) (disk_events d) t c

abbrev pub disk_schedule : MemoryDisk → Schedule
disk_schedule d = d.schedule

abbrev pub disk_calls : MemoryDisk → ℕ
disk_calls d = calls_left d.schedule

abbrev pub disk_fails : MemoryDisk → List ℕ
disk_fails d = d.schedule.fails.items

-- the room for bytes that is left
abbrev pub disk_room : MemoryDisk → ℕ
disk_room d = d.room

abbrev pub disk_failures : MemoryDisk → ℕ
disk_failures d = d.faults

-- the room that a write takes: its bytes, and zeros between the end and its offset
abbrev pub room_for : ℕ → ℕ → ℕ → ℕ
room_for len at n = (at - len) + n
