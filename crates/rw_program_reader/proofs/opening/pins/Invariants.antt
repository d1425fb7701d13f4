use Rattle.std.proofs.Common.{◌-◌, length}
use Rattle.std.specs.Prelude.{codes}
use Rattle.rw_forms.specs.Forms.{a_pin}
use Rattle.rw_forms.specs.Progress.{IsPlace}
use Rattle.rw_forms.proofs.Listing.{Listed}
use Rattle.rw_program_reader.specs.Programs.{pin_form, pin_in}
use Rattle.rw_program_reader.proofs.opening.pins.Given as goal

abbrev pub invariant-pins : goal.invariant-pins
invariant-pins l = record {
  place : IsPlace l.line l.at;
  listed : Listed (pin_form l.most) (codes ",") a_pin pin_in l.line l.fn.at l.at l.pins;
}

abbrev pub decreases-pins : goal.decreases-pins
decreases-pins l = length l.line - l.at
