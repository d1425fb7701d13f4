-- Calls of a disk in memory that change what a crash may leave, and what a crash after them may leave.
use Rattle.std.specs.Prelude.{◌≡◌, ◌⊎◌, ℕ, ◌+◌, ◌≤◌, List, [], ◌∷◌, ◌++◌, length, take, drop}
use Rattle.rw_io.specs.Crash.{Torn, Cut, padded}
use Rattle.rw_disk.specs.declared.log.Entry.{Entry}
use Rattle.rw_disk.specs.declared.log.Entry.TheVariants.{Write, TornWrite, Truncate, TornTruncate, Sync}

-- one call: a write with its bytes or one that failed, a cut or one that failed, a sync that succeeded
pub data Event : Type 0 where
  Wrote : (at : ℕ) (bytes : List ℕ) → Event
  WriteFailed : (at n : ℕ) → Event
  WasCut : (n : ℕ) → Event
  CutFailed : (n : ℕ) → Event
  Synced : Event

-- old with these bytes at this offset
abbrev pub overwritten : ℕ → List ℕ → List ℕ → List ℕ
overwritten at bytes old = take at (padded at old) ++ bytes ++ drop (at + length bytes) old

-- what a read gives after these calls, the newest of them first
abbrev pub read_after : List ℕ → List Event → List ℕ
read_after first [] = first
read_after first (Wrote at bytes ∷ events) = overwritten at bytes (read_after first events)
read_after first (WriteFailed at n ∷ events) = read_after first events
read_after first (WasCut n ∷ events) = take n (read_after first events)
read_after first (CutFailed n ∷ events) = read_after first events
read_after first (Synced ∷ events) = read_after first events

-- what a crash after these calls may leave: since the last sync each range may hold any bytes, other bytes stay
abbrev pub Leaves : List ℕ → List Event → List ℕ → Type 0
Leaves first [] c = c ≡ first
Leaves first (Wrote at bytes ∷ events) c = (d : List ℕ) × Leaves first events d × Torn at (length bytes) d c
Leaves first (WriteFailed at n ∷ events) c = (d : List ℕ) × Leaves first events d × Torn at n d c
Leaves first (WasCut n ∷ events) c = (d : List ℕ) × Leaves first events d × Cut n d c
Leaves first (CutFailed n ∷ events) c = (d : List ℕ) × Leaves first events d × Cut n d c
Leaves first (Synced ∷ events) c = c ≡ read_after first events

-- what a crash after the first t of these calls, or after more of them, may have left
abbrev pub LeftSince : List ℕ → List Event → ℕ → List ℕ → Type 0
LeftSince first [] t c = Leaves first [] c
LeftSince first (event ∷ events) t c = Leaves first (event ∷ events) c ⊎ ((t ≤ length events) × LeftSince first events t c)

-- how many bytes an entry of the record takes
abbrev pub bytes_of : Entry → ℕ
bytes_of (Write at n) = n
bytes_of (TornWrite at n) = 0
bytes_of (Truncate n) = 0
bytes_of (TornTruncate n) = 0
bytes_of Sync = 0

-- the call of an entry, whose bytes are at the front of these
abbrev pub event_of : Entry → List ℕ → Event
event_of (Write at n) bytes = Wrote at (take n bytes)
event_of (TornWrite at n) bytes = WriteFailed at n
event_of (Truncate n) bytes = WasCut n
event_of (TornTruncate n) bytes = CutFailed n
event_of Sync bytes = Synced

-- the bytes of all entries
abbrev pub total : List Entry → ℕ
total [] = 0
total (entry ∷ entries) = bytes_of entry + total entries

-- the calls of these entries in front of those before them, the newest first
abbrev pub told_by : List Event → List Entry → List ℕ → List Event
told_by events [] bytes = events
told_by events (entry ∷ entries) bytes = told_by (event_of entry bytes ∷ events) entries (drop (bytes_of entry) bytes)

-- the calls that a record tells
abbrev pub events_of : List Entry → List ℕ → List Event
events_of entries bytes = told_by [] entries bytes
