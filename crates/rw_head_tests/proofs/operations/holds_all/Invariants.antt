use Rattle.std.proofs.Common.{◌≡◌, drop}
use Rattle.std.specs.List.{list_all}
use Rattle.rw_faults.specs.Initial.{is_listed}
use Rattle.rw_head_tests.proofs.operations.holds_all.Given as goal

abbrev pub invariant-loop-param : goal.invariant-loop-param
invariant-loop-param l = list_all (λ p. is_listed l.frame p.name) (drop l.param-index l.results) ≡ list_all (λ p. is_listed l.frame p.name) l.results
