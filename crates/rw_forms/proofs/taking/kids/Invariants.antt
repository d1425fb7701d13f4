use Rattle.std.proofs.Common.{◌-◌, [], length}
use Rattle.std.specs.Prelude.{codes}
use Rattle.rw_forms.specs.Forms.{more_of, a_kid}
use Rattle.rw_forms.specs.Phrases.{kid_form, kid_in}
use Rattle.rw_forms.specs.Progress.{IsPlace}
use Rattle.rw_forms.proofs.Listing.{Grown}
use Rattle.rw_forms.proofs.taking.kids.Given as goal

abbrev pub invariant-kids : goal.invariant-kids
invariant-kids l = record {
  place : IsPlace l.line l.at;
  listed : Grown (more_of kid_form (codes "/") []) kid_form (codes "/") a_kid kid_in l.line l.fn.at l.at l.kids;
}

abbrev pub decreases-kids : goal.decreases-kids
decreases-kids l = length l.line - l.at
