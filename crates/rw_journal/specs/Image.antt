-- Which files stand for a list of records, and which are foreign (docs/FORMATS.md, "The journal").
use Rattle.std.specs.Prelude.{◌≡◌, ◌≢◌, ◌⊎◌, ℕ, ◌+◌, ◌<◌, ◌≤◌, List, [], ◌∷◌, ◌++◌, length, take, slice_get}
use Rattle.std.specs.Int.{w32, to_be_bytes, from_be_bytes}
use Rattle.std.specs.List.{AllByRecursion}

-- RWJRNL1 and a line feed
abbrev pub header : List ℕ
header = 82 ∷ 87 ∷ 74 ∷ 82 ∷ 78 ∷ 76 ∷ 49 ∷ 10 ∷ []

-- a payload has 1 to 65,700 bytes
pub record IsRecord (payload : List ℕ) : Type 0 where
  pub some : 0 < length payload
  pub most : length payload ≤ 65700

-- an open gate, four bytes of length, the payload
abbrev pub block : List ℕ → List ℕ
block payload = 1 ∷ (to_be_bytes w32 (length payload) ++ payload)

abbrev pub blocks : List (List ℕ) → List ℕ
blocks [] = []
blocks (payload ∷ payloads) = block payload ++ blocks payloads

-- what is written behind the last gate before it is opened: a length, a payload and a next gate, not open
abbrev pub written : List ℕ → List ℕ
written payload = to_be_bytes w32 (length payload) ++ payload ++ 0 ∷ []

-- the offset behind the last gate of a file of these records
abbrev pub end_of : List (List ℕ) → ℕ
end_of records = 9 + length (blocks records)

-- a gate that is not open, and any bytes behind it
pub record Ends (bytes : List ℕ) : Type 0 where
  pub gate : ℕ
  pub rest : List ℕ
  pub shut : gate ≢ 1
  pub is : bytes ≡ gate ∷ rest

-- the header, these records, and a gate that is not open with any bytes behind it
pub record IsFile (records : List (List ℕ)) (file : List ℕ) : Type 0 where
  pub whole : AllByRecursion IsRecord records
  pub last : List ℕ
  pub ends : Ends last
  pub form : file ≡ header ++ blocks records ++ last

-- a file of at most 9 bytes stands for no records
abbrev pub Image : List (List ℕ) → List ℕ → Type 0
Image records file = ((length file ≤ 9) × (records ≡ [])) ⊎ ((9 < length file) × IsFile records file)

-- the first byte that is not the header's
pub record DiffersAt (at : ℕ) (file : List ℕ) : Type 0 where
  pub within : at < 8
  pub before : take at file ≡ take at header
  pub differs : slice_get file at ≢ slice_get header at

-- behind an open gate: a length that is out of range, or a payload or a next gate that passes the end
abbrev pub IsBroken : List ℕ → Type 0
IsBroken rest = let n = from_be_bytes w32 (take 4 rest) in (n ≡ 0) ⊎ (65700 < n) ⊎ (length rest ≤ 4 + n)

-- an open gate whose record is broken
pub record IsBrokenGate (bytes : List ℕ) : Type 0 where
  pub rest : List ℕ
  pub is : bytes ≡ 1 ∷ rest
  pub broken : IsBroken rest

-- at this gate the first open record is broken
pub record BreaksAt (at : ℕ) (file : List ℕ) : Type 0 where
  pub records : List (List ℕ)
  pub rest : List ℕ
  pub whole : AllByRecursion IsRecord records
  pub form : file ≡ header ++ blocks records ++ 1 ∷ rest
  pub broken : IsBroken rest
  pub gate : at ≡ 8 + length (blocks records)

-- the offset at which a file is foreign
abbrev pub IsForeign : ℕ → List ℕ → Type 0
IsForeign at file = (9 < length file) × (DiffersAt at file ⊎ BreaksAt at file)
