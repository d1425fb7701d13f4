use Rattle.std.proofs.Common.{◌-◌, length}
use Rattle.std.specs.Prelude.{codes}
use Rattle.rw_forms.specs.Forms.{a_name}
use Rattle.rw_forms.specs.Phrases.{constant_form, name_in}
use Rattle.rw_forms.specs.Progress.{IsPlace}
use Rattle.rw_forms.proofs.Listing.{Listed}
use Rattle.rw_forms.proofs.taking.constants.Given as goal

abbrev pub invariant-constants : goal.invariant-constants
invariant-constants l = record {
  place : IsPlace l.line l.at;
  listed : Listed constant_form (codes ",") a_name name_in l.line l.fn.at l.at l.names;
}

abbrev pub decreases-constants : goal.decreases-constants
decreases-constants l = length l.line - l.at
