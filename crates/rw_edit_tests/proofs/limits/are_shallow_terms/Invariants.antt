use Rattle.std.proofs.Common.{◌≡◌, drop}
use Rattle.std.specs.List.{list_all}
use Rattle.rw_edit_tests.specs.Refusals.{is_shallow_term}
use Rattle.rw_edit_tests.proofs.limits.are_shallow_terms.Given as goal

abbrev pub invariant-loop-term : goal.invariant-loop-term
invariant-loop-term l = list_all is_shallow_term (drop l.term-index l.terms) ≡ list_all is_shallow_term l.terms
