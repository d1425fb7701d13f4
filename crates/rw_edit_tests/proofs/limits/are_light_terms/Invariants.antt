use Rattle.std.proofs.Common.{◌≡◌, drop}
use Rattle.std.specs.List.{list_all}
use Rattle.rw_edit_tests.specs.Refusals.{is_light_term}
use Rattle.rw_edit_tests.proofs.limits.are_light_terms.Given as goal

abbrev pub invariant-loop-term : goal.invariant-loop-term
invariant-loop-term l = list_all is_light_term (drop l.term-index l.terms) ≡ list_all is_light_term l.terms
