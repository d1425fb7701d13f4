-- The tallies of programs, as the code makes them.
use Rattle.std.proofs.Common.{◌≡◌, refl, ap, ◌∙◌, ℕ, ◌+◌, List, [], ◌∷◌, Some, slice_get, arith}
use Rattle.rw_terms.specs.declared.term.Term.{Term}
use Rattle.rw_terms.specs.declared.term.Sort.{Sort}
use Rattle.rw_programs.specs.declared.prog.Arm.{Arm}
use Rattle.rw_programs.specs.declared.prog.Pin.{Pin}
use Rattle.rw_programs.specs.declared.prog.Prog.{Prog, Spec, Kid, Skip, Assign, If', Do', Call, OpCall, Row_of-Arm, end_of-Arm, more_of-Arm}
use Rattle.rw_programs.specs.declared.prog.Prog.TheViews as made
use Rattle.rw_programs.specs.Made.{Seq, Block, Con, ModBlock}
use Rattle.rw_numbering.specs.declared.tally.Tally.{Tally, out-Tally, out-roll-Tally}
use Rattle.rw_numbering.specs.Loops.{loops, row_loops}
use Rattle.rw_numbering.specs.Tallies.{total, joined, tally_of, row_tallies, arm_tallies, part_tally}

-- what a tally that is made holds
pub loops_joined : (own : ℕ) (parts : List Tally) → (out-Tally (joined own parts)).loops ≡ own + total parts
loops_joined own parts = ap (λ l. l.loops) (out-roll-Tally _)

pub parts_joined : (own : ℕ) (parts : List Tally) → (out-Tally (joined own parts)).parts ≡ parts
parts_joined own parts = ap (λ l. l.parts) (out-roll-Tally _)

mutual
  -- a tally holds the number of the program's loops
  pub tally_loops : (c : Prog) → (out-Tally (tally_of c)).loops ≡ loops c
  tally_loops (Spec w) = loops_joined 0 []
  tally_loops (Kid n) = loops_joined 0 []
  tally_loops Skip = loops_joined 0 []
  tally_loops (Assign names terms) = loops_joined 0 []
  tally_loops (Seq c d) = let a = loops_joined 0 (tally_of c ∷ tally_of d ∷ []) in let h = tally_loops c in let k = tally_loops d in omega (arith, a, h, k)
  tally_loops (If' shape arms) = let a = loops_joined 0 (row_tallies arms) in let h = row_total arms in omega (arith, a, h)
  tally_loops (Do' variant shape arms) = let a = loops_joined 1 (row_tallies arms) in let h = row_total arms in omega (arith, a, h)
  tally_loops (Block x sort c) = let a = loops_joined 0 (tally_of c ∷ []) in let h = tally_loops c in omega (arith, a, h)
  tally_loops (Con pins c) = let a = loops_joined 0 (tally_of c ∷ []) in let h = tally_loops c in omega (arith, a, h)
  tally_loops (Call f args names) = loops_joined 0 []
  tally_loops (OpCall m o args names) = loops_joined 0 []
  tally_loops (ModBlock m c) = let a = loops_joined 0 (tally_of c ∷ []) in let h = tally_loops c in omega (arith, a, h)

  row_total : {m : _} (arms : Row_of-Arm m) → total (row_tallies arms) ≡ row_loops arms
  row_total end_of-Arm = refl
  row_total (more_of-Arm g c rest) = let h = tally_loops c in let k = row_total rest in omega (arith, h, k)

pub seq_tally : (c d : Prog) → tally_of (made.Seq c d) ≡ joined 0 (tally_of c ∷ tally_of d ∷ [])
unfolding Rattle.rw_programs.specs.declared.prog.Prog.TheBlock.hidden-the_row-Prog-0 denote.Hole.Carrier.hidden
seq_tally c d = refl

pub block_tally : (x : List ℕ) (sort : Sort) (c : Prog) → tally_of (made.Block x sort c) ≡ joined 0 (tally_of c ∷ [])
unfolding Rattle.rw_programs.specs.declared.prog.Prog.TheBlock.hidden-the_row-Prog-0 denote.Hole.Carrier.hidden
block_tally x sort c = refl

pub con_tally : (pins : List Pin) (c : Prog) → tally_of (made.Con pins c) ≡ joined 0 (tally_of c ∷ [])
unfolding Rattle.rw_programs.specs.declared.prog.Prog.TheBlock.hidden-the_row-Prog-0 denote.Hole.Carrier.hidden
con_tally pins c = refl

pub module_tally : (m : List ℕ) (c : Prog) → tally_of (made.ModBlock m c) ≡ joined 0 (tally_of c ∷ [])
unfolding Rattle.rw_programs.specs.declared.prog.Prog.TheBlock.hidden-the_row-Prog-0 denote.Hole.Carrier.hidden
module_tally m c = refl

-- the tallies of the programs behind the guards
abbrev guarded : Prog → List Tally
guarded (If' shape arms) = row_tallies arms
guarded (Do' v shape arms) = row_tallies arms
guarded c = []

guarded_if : (arms : List Arm) → guarded (made.If arms) ≡ arm_tallies arms
unfolding Rattle.rw_programs.specs.declared.prog.Prog.TheBlock.hidden-the_row-Arm-1 denote.Hole.Carrier.hidden
guarded_if [] = refl
guarded_if (a ∷ arms) = ap (λ ts. tally_of a.body ∷ ts) (guarded_if arms)

pub if_tally : (arms : List Arm) → tally_of (made.If arms) ≡ joined 0 (arm_tallies arms)
unfolding Rattle.rw_programs.specs.declared.prog.Prog.TheBlock.hidden-the_row-Arm-1 denote.Hole.Carrier.hidden
if_tally arms = ap (joined 0) (guarded_if arms)

pub do_tally : (v : Term) (arms : List Arm) → tally_of (made.Do v arms) ≡ joined 1 (arm_tallies arms)
unfolding Rattle.rw_programs.specs.declared.prog.Prog.TheBlock.hidden-the_row-Arm-1 denote.Hole.Carrier.hidden
do_tally v arms = ap (joined 1) (guarded_if arms)

-- the parts of a program, each at its place
pub seq_first : (c d : Prog) → part_tally (made.Seq c d) 0 ≡ Some (tally_of c)
seq_first c d = ap (λ t. slice_get (out-Tally t).parts 0) (seq_tally c d) ∙ ap (λ ts. slice_get ts 0) (parts_joined 0 (tally_of c ∷ tally_of d ∷ []))

pub seq_second : (c d : Prog) → part_tally (made.Seq c d) 1 ≡ Some (tally_of d)
seq_second c d = ap (λ t. slice_get (out-Tally t).parts 1) (seq_tally c d) ∙ ap (λ ts. slice_get ts 1) (parts_joined 0 (tally_of c ∷ tally_of d ∷ []))

pub block_part : (x : List ℕ) (sort : Sort) (c : Prog) → part_tally (made.Block x sort c) 0 ≡ Some (tally_of c)
block_part x sort c = ap (λ t. slice_get (out-Tally t).parts 0) (block_tally x sort c) ∙ ap (λ ts. slice_get ts 0) (parts_joined 0 (tally_of c ∷ []))

pub module_part : (m : List ℕ) (c : Prog) → part_tally (made.ModBlock m c) 0 ≡ Some (tally_of c)
module_part m c = ap (λ t. slice_get (out-Tally t).parts 0) (module_tally m c) ∙ ap (λ ts. slice_get ts 0) (parts_joined 0 (tally_of c ∷ []))

pub if_parts : (arms : List Arm) → (out-Tally (tally_of (made.If arms))).parts ≡ arm_tallies arms
if_parts arms = ap (λ t. (out-Tally t).parts) (if_tally arms) ∙ parts_joined 0 (arm_tallies arms)

pub do_parts : (v : Term) (arms : List Arm) → (out-Tally (tally_of (made.Do v arms))).parts ≡ arm_tallies arms
do_parts v arms = ap (λ t. (out-Tally t).parts) (do_tally v arms) ∙ parts_joined 1 (arm_tallies arms)
