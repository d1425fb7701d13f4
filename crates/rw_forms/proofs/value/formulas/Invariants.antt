use Rattle.std.proofs.Common.{◌-◌, length}
use Rattle.rw_forms.specs.Forms.{a_formula}
use Rattle.rw_forms.specs.Phrases.{formula_form, formula_in}
use Rattle.rw_forms.specs.Progress.{IsPlace}
use Rattle.rw_forms.proofs.Listing.{Listed}
use Rattle.rw_forms.proofs.value.formulas.Given as goal

abbrev pub invariant-formulas : goal.invariant-formulas
invariant-formulas l = record {
  place : IsPlace l.line l.at;
  listed : Listed (formula_form l.most) l.separator a_formula formula_in l.line l.fn.at l.at l.formulas;
}

abbrev pub decreases-formulas : goal.decreases-formulas
decreases-formulas l = length l.line - l.at
