use Rattle.std.proofs.Common.{◌≡◌, drop}
use Rattle.rw_goals.specs.Sorting.{name_sort}
use Rattle.rw_goals.proofs.sorting.name_sort.Given as goal

abbrev pub invariant-loop-known : goal.invariant-loop-known
invariant-loop-known l = name_sort (drop l.known-index l.names) l.name ≡ name_sort l.names l.name
