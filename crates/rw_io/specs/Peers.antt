-- Peers in memory, as doors tell them.
use Rattle.std.specs.Prelude.{◌≡◌, List, [], ◌∷◌}
use Rattle.rw_io.specs.declared.memory.MemoryPeer.{MemoryPeer}
use Rattle.rw_io.specs.Memory.{peer_left, peer_taken, peer_bytes, peer_room, peer_schedule, peer_read_faults, peer_write_faults}
use Rattle.rw_io.specs.Told.{Told, Served}

-- a peer as one that is still to come
abbrev pub told_of : MemoryPeer → Told
told_of peer = record { left = peer_left peer; held = peer_bytes peer }

-- a peer as one that was given back
abbrev pub served_of : MemoryPeer → Served
served_of peer = record { taken = peer_taken peer; written = peer_bytes peer }

-- nothing was taken from the new peer; all else is as in the old one
pub record BeginsAnew (old new : MemoryPeer) : Type 0 where
  pub left : peer_left new ≡ peer_left old
  pub taken : peer_taken new ≡ []
  pub bytes : peer_bytes new ≡ peer_bytes old
  pub room : peer_room new ≡ peer_room old
  pub schedule : peer_schedule new ≡ peer_schedule old
  pub read_faults : peer_read_faults new ≡ peer_read_faults old
  pub write_faults : peer_write_faults new ≡ peer_write_faults old

-- the peer that came was the first of those to come
abbrev pub IsFirst : List MemoryPeer → List MemoryPeer → MemoryPeer → Type 0
IsFirst old new peer = (first : MemoryPeer) × (old ≡ first ∷ new) × BeginsAnew first peer
