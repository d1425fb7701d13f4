use Rattle.std.proofs.Common.{◌≡◌, drop, []}
use Rattle.rw_faults.specs.Initial.{terms_outside}
use Rattle.rw_derived.proofs.parts.have_initial.Given as goal

abbrev pub invariant-loop-term : goal.invariant-loop-term
invariant-loop-term l = terms_outside [] l.fn.terms ≡ terms_outside [] (drop l.term-index l.terms)
