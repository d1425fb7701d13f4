use Rattle.std.proofs.Common.{◌≡◌, map, drop}
use Rattle.rw_faults.specs.Faults.{first_of_names, predicate_unknown_in}
use Rattle.rw_edit_tests.proofs.unknown.predicate_in_guards.Given as goal

-- the first name among the guards that are left is that among all
abbrev pub invariant-loop-guard : goal.invariant-loop-guard
invariant-loop-guard l = first_of_names (map (predicate_unknown_in l.heads) (drop l.guard-index l.guards)) ≡ first_of_names (map (predicate_unknown_in l.heads) l.guards)
