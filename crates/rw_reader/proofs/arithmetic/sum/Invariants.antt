use Rattle.std.proofs.Common.{◌-◌, ◌≤◌, length}
use Rattle.std.specs.Prelude.{codes}
use Rattle.rw_forms.specs.Forms.{a_part}
use Rattle.rw_forms.specs.Certificates.{part_form, part_in}
use Rattle.rw_forms.specs.Progress.{IsPlace}
use Rattle.rw_forms.proofs.Listing.{Grown}
use Rattle.rw_reader.proofs.RuleItems.{begun}
use Rattle.rw_reader.proofs.arithmetic.sum.Given as goal

abbrev pub invariant-parts : goal.invariant-parts
invariant-parts l = record {
  place : IsPlace l.line l.at;
  on : l.fn.at ≤ l.at;
  listed : Grown (begun l.minus l.number) part_form (codes "+") a_part part_in l.line l.fn.at l.at l.parts;
}

abbrev pub decreases-parts : goal.decreases-parts
decreases-parts l = length l.line - l.at
