use Rattle.std.proofs.Common.{◌≡◌, drop}
use Rattle.std.specs.List.{list_all}
use Rattle.rw_faults.specs.Limits.{is_light}
use Rattle.rw_edit_tests.specs.Refusals.{passes, is_light_term}
use Rattle.rw_edit_tests.proofs.certificate.are_light.Given as goal

abbrev pub invariant-loop-line : goal.invariant-loop-line
invariant-loop-line l = list_all (passes is_light is_light_term) (drop l.line-index l.lines) ≡ list_all (passes is_light is_light_term) l.lines
