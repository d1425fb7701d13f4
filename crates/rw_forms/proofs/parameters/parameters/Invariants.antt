use Rattle.std.proofs.Common.{◌-◌, length}
use Rattle.std.specs.Prelude.{codes}
use Rattle.rw_forms.specs.Forms.{a_parameter}
use Rattle.rw_forms.specs.Phrases.{parameter_form, parameter_in}
use Rattle.rw_forms.specs.Progress.{IsPlace}
use Rattle.rw_forms.proofs.Listing.{Listed}
use Rattle.rw_forms.proofs.parameters.parameters.Given as goal

abbrev pub invariant-parameters : goal.invariant-parameters
invariant-parameters l = record {
  place : IsPlace l.line l.at;
  listed : Listed parameter_form (codes ",") a_parameter parameter_in l.line l.fn.at l.at l.params;
}

abbrev pub decreases-parameters : goal.decreases-parameters
decreases-parameters l = length l.line - l.at
