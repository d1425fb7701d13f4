use Rattle.std.proofs.Common.{◌≡◌, drop}
use Rattle.rw_faults.specs.Initial.{terms_outside}
use Rattle.rw_faults.proofs.initial.+term_outside.Given as goal

abbrev pub invariant-terms_outside-loop-term : goal.invariant-terms_outside-loop-term
invariant-terms_outside-loop-term l = terms_outside l.names (drop l.term-index l.terms) ≡ terms_outside l.names l.terms
