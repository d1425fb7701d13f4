-- What the journal's calls ask of a disk, and what they keep.
use Rattle.std.specs.Prelude.{◌≡◌, ◌⊎◌, ℕ, ◌≤◌, List, [], ◌∷◌, ◌++◌, length, Option, IfSome, Result, OnOk, IfErr}
use Rattle.rw_io.specs.Causes.{Rose}
use Rattle.rw_journal.specs.Image.{Image, IsFile, end_of}
use Rattle.rw_journal.specs.declared.error.JournalError.{JournalError}
use Rattle.rw_journal.specs.declared.error.JournalError.TheVariants.{Foreign, DiskFault, Full, Memory}

-- the file and each that a crash now may leave stand for these records, whose end is this
pub record Stands (outcomes : List ℕ → Type 0) (end : ℕ) (file : List ℕ) : Type 0 where
  pub records : List (List ℕ)
  pub is : Image records file
  pub crash : (c : List ℕ) → outcomes c → Image records c
  pub ends : end ≡ end_of records

-- where the disk tells them, the file and each that a crash now may leave stand for one list whose end is this
abbrev pub StandsAt : Option (List ℕ) → (List ℕ → Type 0) → ℕ → Type 0
StandsAt seen outcomes end = IfSome seen (Stands outcomes end)

-- a file with the header, whole records and a gate that is not open
abbrev pub HasForm : List ℕ → Type 0
HasForm file = (records : List (List ℕ)) × IsFile records file

-- where the disk tells them, the file and each that a crash now may leave have the form of a journal
abbrev pub AreFormed : Option (List ℕ) → (List ℕ → Type 0) → Type 0
AreFormed seen outcomes = IfSome seen (λ file. HasForm file × ((c : List ℕ) → outcomes c → HasForm c))

-- a file stands for these records, or for these and one more
abbrev pub IsOneOf : List (List ℕ) → List ℕ → List ℕ → Type 0
IsOneOf records payload file = Image records file ⊎ Image (records ++ payload ∷ []) file

-- what each refusal comes with
abbrev pub Cause : (ℕ → Type 0) → Type 0 → Type 0 → Type 0 → JournalError → Type 0
Cause foreign fault full memory (Foreign at) = foreign at
Cause foreign fault full memory DiskFault = fault
Cause foreign fault full memory Full = full
Cause foreign fault full memory Memory = memory

-- a count of faults never falls, each refusal has its cause, and where the disk has not failed the count is as before
pub record Refused {T : Type 0} (foreign : ℕ → Type 0) (full memory : Type 0) (before now : ℕ) (result : Result T JournalError) : Type 0 where
  pub later : before ≤ now
  pub kept : OnOk result (now ≡ before)
  pub alone : IfErr result (Cause (λ at. now ≡ before) (Unit {0}) (now ≡ before) (now ≡ before))
  pub cause : IfErr result (Cause foreign (Rose before now) full memory)

-- where the disk tells them, the file and each that a crash now may leave have at most 9 bytes
abbrev pub AreShort : Option (List ℕ) → (List ℕ → Type 0) → Type 0
AreShort seen outcomes = IfSome seen (λ file. (length file ≤ 9) × ((c : List ℕ) → outcomes c → length c ≤ 9))
