-- The counts of loops of a program and of its parts, as they are kept.
use Rattle.std.specs.Prelude.{ℕ, ◌+◌, List, [], ◌∷◌, map, Option, slice_get}
use Rattle.rw_programs.specs.declared.prog.Arm.{Arm}
use Rattle.rw_programs.specs.declared.prog.Prog.{Prog, Spec, Kid, Skip, Assign, If', Do', Call, OpCall, Row_of-Arm, end_of-Arm, more_of-Arm}
use Rattle.rw_programs.specs.Made.{Seq, Block, Con, ModBlock}
use Rattle.rw_numbering.specs.declared.tally.Tally.{Tally, out-Tally, roll-Tally}

-- the loops of all the parts
abbrev pub total : List Tally → ℕ
total [] = 0
total (t ∷ ts) = (out-Tally t).loops + total ts

-- the tally of what has so many loops of its own beside its parts
abbrev pub joined : ℕ → List Tally → Tally
joined own parts = roll-Tally (record { loops = own + total parts; parts = parts })

abbrev mutual
  -- the tally of a program
  pub tally_of : Prog → Tally
  tally_of (Spec w) = joined 0 []
  tally_of (Kid n) = joined 0 []
  tally_of Skip = joined 0 []
  tally_of (Assign names terms) = joined 0 []
  tally_of (Seq c d) = joined 0 (tally_of c ∷ tally_of d ∷ [])
  tally_of (If' shape arms) = joined 0 (row_tallies arms)
  tally_of (Do' variant shape arms) = joined 1 (row_tallies arms)
  tally_of (Block x sort c) = joined 0 (tally_of c ∷ [])
  tally_of (Con pins c) = joined 0 (tally_of c ∷ [])
  tally_of (Call f args names) = joined 0 []
  tally_of (OpCall m o args names) = joined 0 []
  tally_of (ModBlock m c) = joined 0 (tally_of c ∷ [])

  -- the tallies of the programs behind guards
  pub row_tallies : {m : _} → Row_of-Arm m → List Tally
  row_tallies end_of-Arm = []
  row_tallies (more_of-Arm g c rest) = tally_of c ∷ row_tallies rest

abbrev pub arm_tallies : List Arm → List Tally
arm_tallies arms = map (λ a. tally_of a.body) arms

-- the tally of a part of a program
abbrev pub part_tally : Prog → ℕ → Option Tally
part_tally c at = slice_get (out-Tally (tally_of c)).parts at
