use Rattle.std.proofs.Common.{◌≡◌, map, drop, length}
use Rattle.rw_terms.specs.Rules.{are_of}
use Rattle.rw_goals.specs.Sorting.{sort_of}
use Rattle.rw_goals.proofs.sorting.are_of.Given as goal

abbrev pub invariant-loop-i : goal.invariant-loop-i
invariant-loop-i l = record {
  long : length l.params ≡ length l.args;
  rest : are_of (map (λ p. p.1) (drop l.i l.params)) (map (sort_of l.names l.binders) (drop l.i l.args)) ≡ are_of (map (λ p. p.1) l.params) (map (sort_of l.names l.binders) l.args);
}
