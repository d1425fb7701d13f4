use Rattle.std.proofs.Common.{◌-◌, ◌≤◌, length}
use Rattle.std.specs.Prelude.{codes}
use Rattle.rw_forms.specs.Forms.{a_term}
use Rattle.rw_forms.specs.Phrases.{term_form, term_in}
use Rattle.rw_forms.specs.Progress.{IsPlace}
use Rattle.rw_forms.proofs.Listing.{Listed}
use Rattle.rw_forms.proofs.value.terms.Given as goal

abbrev pub invariant-terms : goal.invariant-terms
invariant-terms l = record {
  place : IsPlace l.line l.at;
  on : l.fn.at ≤ l.at;
  listed : Listed (term_form l.most) (codes ",") a_term term_in l.line l.fn.at l.at l.terms;
}

abbrev pub decreases-terms : goal.decreases-terms
decreases-terms l = length l.line - l.at
