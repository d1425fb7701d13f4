use Rattle.std.proofs.Common.{◌-◌, length}
use Rattle.std.specs.Prelude.{codes}
use Rattle.rw_forms.specs.Forms.{a_name}
use Rattle.rw_forms.specs.Phrases.{name_form, name_in}
use Rattle.rw_forms.specs.Progress.{IsPlace}
use Rattle.rw_forms.proofs.Listing.{Listed}
use Rattle.rw_forms.proofs.taking.names.Given as goal

abbrev pub invariant-names : goal.invariant-names
invariant-names l = record {
  place : IsPlace l.line l.at;
  listed : Listed name_form (codes ",") a_name name_in l.line l.fn.at l.at l.names;
}

abbrev pub decreases-names : goal.decreases-names
decreases-names l = length l.line - l.at
