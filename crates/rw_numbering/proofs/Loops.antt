-- How many loops stand in what the code makes.
use Rattle.std.proofs.Common.{◌≡◌, refl, ap, ℕ, suc, ◌+◌, List, [], ◌∷◌}
use Rattle.rw_terms.specs.declared.term.Term.{Term}
use Rattle.rw_terms.specs.declared.term.Sort.{Sort}
use Rattle.rw_programs.specs.declared.prog.Arm.{Arm}
use Rattle.rw_programs.specs.declared.prog.Pin.{Pin}
use Rattle.rw_programs.specs.declared.prog.Prog.{Prog}
use Rattle.rw_programs.specs.declared.prog.Prog.TheViews as made
use Rattle.rw_numbering.specs.Loops.{loops, arms_loops}

pub seq_loops : (c d : Prog) → loops (made.Seq c d) ≡ loops c + loops d
unfolding Rattle.rw_programs.specs.declared.prog.Prog.TheBlock.hidden-the_row-Prog-0 denote.Hole.Carrier.hidden
seq_loops c d = refl

pub block_loops : (x : List ℕ) (sort : Sort) (c : Prog) → loops (made.Block x sort c) ≡ loops c
unfolding Rattle.rw_programs.specs.declared.prog.Prog.TheBlock.hidden-the_row-Prog-0 denote.Hole.Carrier.hidden
block_loops x sort c = refl

pub con_loops : (pins : List Pin) (c : Prog) → loops (made.Con pins c) ≡ loops c
unfolding Rattle.rw_programs.specs.declared.prog.Prog.TheBlock.hidden-the_row-Prog-0 denote.Hole.Carrier.hidden
con_loops pins c = refl

pub module_loops : (m : List ℕ) (c : Prog) → loops (made.ModBlock m c) ≡ loops c
unfolding Rattle.rw_programs.specs.declared.prog.Prog.TheBlock.hidden-the_row-Prog-0 denote.Hole.Carrier.hidden
module_loops m c = refl

pub if_loops : (arms : List Arm) → loops (made.If arms) ≡ arms_loops arms
unfolding Rattle.rw_programs.specs.declared.prog.Prog.TheBlock.hidden-the_row-Arm-1 denote.Hole.Carrier.hidden
if_loops [] = refl
if_loops (a ∷ arms) = ap (λ n. loops a.body + n) (if_loops arms)

pub do_loops : (v : Term) (arms : List Arm) → loops (made.Do v arms) ≡ suc (arms_loops arms)
unfolding Rattle.rw_programs.specs.declared.prog.Prog.TheBlock.hidden-the_row-Arm-1 denote.Hole.Carrier.hidden
do_loops v arms = ap suc (if_loops arms)
