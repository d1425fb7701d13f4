use Rattle.std.proofs.Common.{◌-◌, ◌≤◌, length}
use Rattle.std.specs.Prelude.{codes}
use Rattle.rw_forms.specs.Forms.{a_sum}
use Rattle.rw_forms.specs.Certificates.{lin_form, lin_in}
use Rattle.rw_forms.specs.Progress.{IsPlace}
use Rattle.rw_forms.proofs.Listing.{Listed}
use Rattle.rw_reader.proofs.arithmetic.closed_lines.Given as goal

abbrev pub invariant-lines : goal.invariant-lines
invariant-lines l = record {
  place : IsPlace l.line l.at;
  on : l.fn.at ≤ l.at;
  listed : Listed lin_form (codes "[") a_sum lin_in l.line l.fn.at l.at l.lines;
}

abbrev pub decreases-lines : goal.decreases-lines
decreases-lines l = length l.line - l.at
