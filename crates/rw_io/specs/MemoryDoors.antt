-- What doors in memory tell.
use Rattle.std.specs.Prelude.{ℕ, Bool, List}
use Rattle.rw_io.specs.declared.schedule.Schedule.{Schedule}
use Rattle.rw_io.specs.declared.memory.MemoryPeer.{MemoryPeer}
use Rattle.rw_io.specs.declared.memory_doors.MemoryDoors.{MemoryDoors}
use Rattle.rw_io.specs.Memory.{calls_left}

abbrev pub doors_opened : MemoryDoors → Bool
doors_opened doors = doors.opened

abbrev pub doors_out : MemoryDoors → Bool
doors_out doors = doors.out

-- the peers still to come
abbrev pub doors_coming : MemoryDoors → List MemoryPeer
doors_coming doors = doors.coming.items

-- the peers that were given back
abbrev pub doors_back : MemoryDoors → List MemoryPeer
doors_back doors = doors.back.items

abbrev pub doors_schedule : MemoryDoors → Schedule
doors_schedule doors = doors.schedule

abbrev pub doors_calls : MemoryDoors → ℕ
doors_calls doors = calls_left doors.schedule

abbrev pub doors_fails : MemoryDoors → List ℕ
doors_fails doors = doors.schedule.fails.items

abbrev pub doors_faults : MemoryDoors → ℕ
doors_faults doors = doors.faults
