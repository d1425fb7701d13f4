-- What the code makes is what the test of code matches on.
use Rattle.std.proofs.Common.{◌≡◌, refl, List, [], ◌∷◌, ap, ◌&&◌, ℕ, false}
use Rattle.rw_terms.specs.declared.term.Term.{Term}
use Rattle.rw_terms.specs.declared.term.Sort.{Sort}
use Rattle.rw_programs.specs.declared.prog.Arm.{Arm}
use Rattle.rw_programs.specs.declared.prog.Pin.{Pin}
use Rattle.rw_programs.specs.declared.prog.Prog.{Prog}
use Rattle.rw_programs.specs.declared.prog.Prog.TheViews as made
use Rattle.rw_programs.specs.CodeTest.{is_guard, is_plain, is_code, arms_are_code}

pub seq_code : (c d : Prog) → is_code (made.Seq c d) ≡ (is_code c && is_code d)
unfolding Rattle.rw_programs.specs.declared.prog.Prog.TheBlock.hidden-the_row-Prog-0 denote.Hole.Carrier.hidden
seq_code c d = refl

pub block_code : (x : List ℕ) (sort : Sort) (c : Prog) → is_code (made.Block x sort c) ≡ is_code c
unfolding Rattle.rw_programs.specs.declared.prog.Prog.TheBlock.hidden-the_row-Prog-0 denote.Hole.Carrier.hidden
block_code x sort c = refl

pub con_code : (pins : List Pin) (c : Prog) → is_code (made.Con pins c) ≡ false
unfolding Rattle.rw_programs.specs.declared.prog.Prog.TheBlock.hidden-the_row-Prog-0 denote.Hole.Carrier.hidden
con_code pins c = refl

pub module_code : (m : List ℕ) (c : Prog) → is_code (made.ModBlock m c) ≡ is_code c
unfolding Rattle.rw_programs.specs.declared.prog.Prog.TheBlock.hidden-the_row-Prog-0 denote.Hole.Carrier.hidden
module_code m c = refl

pub if_code : (arms : List Arm) → is_code (made.If arms) ≡ arms_are_code arms
unfolding Rattle.rw_programs.specs.declared.prog.Prog.TheBlock.hidden-the_row-Arm-1 denote.Hole.Carrier.hidden
if_code [] = refl
if_code (a ∷ arms) = ap (λ b. is_guard a.guard && (is_code a.body && b)) (if_code arms)

pub do_code : (v : Term) (arms : List Arm) → is_code (made.Do v arms) ≡ (is_plain v && arms_are_code arms)
unfolding Rattle.rw_programs.specs.declared.prog.Prog.TheBlock.hidden-the_row-Arm-1 denote.Hole.Carrier.hidden
do_code v arms = ap (λ b. is_plain v && b) (if_code arms)
