use Rattle.std.proofs.Common.{◌-◌, ◌+◌, ◌*◌, length}
use Rattle.std.specs.Prelude.{codes}
use Rattle.rw_forms.specs.Forms.{an_arm}
use Rattle.rw_forms.specs.Progress.{IsPlace}
use Rattle.rw_forms.proofs.Listing.{Listed}
use Rattle.rw_program_reader.specs.Programs.{program, arm_form, arm_in}
use Rattle.rw_program_reader.proofs.program.+program.Given as goal

-- what calls itself does so with one less to be opened, or nearer to it
abbrev pub decreases-program : goal.decreases-program
decreases-program l = l.most * 8

abbrev pub decreases-one : goal.decreases-one
decreases-one l = l.most * 8 + 4

abbrev pub decreases-alternation : goal.decreases-alternation
decreases-alternation l = l.most * 8 + 3

abbrev pub decreases-iteration : goal.decreases-iteration
decreases-iteration l = l.most * 8 + 3

abbrev pub decreases-block : goal.decreases-block
decreases-block l = l.most * 8 + 3

abbrev pub decreases-arms : goal.decreases-arms
decreases-arms l = l.most * 8 + 2

abbrev pub decreases-arm : goal.decreases-arm
decreases-arm l = l.most * 8 + 1

abbrev pub invariant-arms-arms : goal.invariant-arms-arms
invariant-arms-arms l = record {
  place : IsPlace l.line l.at;
  listed : Listed (arm_form l.most (program l.most)) (codes "[]") an_arm arm_in l.line l.fn.at l.at l.arms;
}

abbrev pub decreases-arms-arms : goal.decreases-arms-arms
decreases-arms-arms l = length l.line - l.at
