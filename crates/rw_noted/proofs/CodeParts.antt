-- What the code makes is the code of the whole.
use Rattle.std.proofs.Common.{◌≡◌, refl, List, [], ◌∷◌, ap, ℕ, map}
use Rattle.rw_terms.specs.declared.term.Term.{Term}
use Rattle.rw_terms.specs.declared.term.Formula.{Formula}
use Rattle.rw_terms.specs.declared.term.Sort.{Sort}
use Rattle.rw_programs.specs.declared.prog.Arm.{Arm}
use Rattle.rw_programs.specs.declared.prog.Prog.TheViews as prog
use Rattle.rw_noted.specs.declared.noted.NotedArm.{NotedArm}
use Rattle.rw_noted.specs.declared.noted.Noted.{Noted, If'}
use Rattle.rw_noted.specs.declared.noted.Noted.TheViews as made
use Rattle.rw_noted.specs.Code.{code_of, code_of_row, code_of_arm}

pub seq_code : (c d : Noted) → code_of (made.Seq c d) ≡ prog.Seq (code_of c) (code_of d)
unfolding Rattle.rw_noted.specs.declared.noted.Noted.TheBlock.hidden-the_row-Noted-0 denote.Hole.Carrier.hidden
seq_code c d = refl

pub block_code : (x : List ℕ) (sort : Sort) (c : Noted) → code_of (made.Block x sort c) ≡ prog.Block x sort (code_of c)
unfolding Rattle.rw_noted.specs.declared.noted.Noted.TheBlock.hidden-the_row-Noted-0 denote.Hole.Carrier.hidden
block_code x sort c = refl

-- the guards and programs of an alternation
abbrev row_of : Noted → List Arm
row_of (If' shape arms) = code_of_row arms
row_of _ = []

row_is : (arms : List NotedArm) → row_of (made.If arms) ≡ map code_of_arm arms
unfolding Rattle.rw_noted.specs.declared.noted.Noted.TheBlock.hidden-the_row-NotedArm-1 denote.Hole.Carrier.hidden
row_is [] = refl
row_is (a ∷ arms) = ap (λ more. code_of_arm a ∷ more) (row_is arms)

pub if_code : (arms : List NotedArm) → code_of (made.If arms) ≡ prog.If (map code_of_arm arms)
unfolding Rattle.rw_noted.specs.declared.noted.Noted.TheBlock.hidden-the_row-NotedArm-1 denote.Hole.Carrier.hidden
if_code arms = ap prog.If (row_is arms)

pub do_code : (v : Term) (i : Formula) (arms : List NotedArm) → code_of (made.Do v i arms) ≡ prog.Do v (map code_of_arm arms)
unfolding Rattle.rw_noted.specs.declared.noted.Noted.TheBlock.hidden-the_row-NotedArm-1 denote.Hole.Carrier.hidden
do_code v i arms = ap (prog.Do v) (row_is arms)
