use Rattle.std.proofs.Common.{◌≡◌, drop, length, map}
use Rattle.rw_terms.specs.Rules.{are_of}
use Rattle.rw_terms.specs.Sorts.{variable_sort}
use Rattle.rw_fits.proofs.calls.are_results.Given as goal

abbrev pub invariant-loop-i : goal.invariant-loop-i
invariant-loop-i l = record {
  long : length l.params ≡ length l.names;
  rest : are_of (map (λ p. p.sort) (drop l.i l.params)) (map (variable_sort l.scope) (drop l.i l.names)) ≡ are_of (map (λ p. p.sort) l.params) (map (variable_sort l.scope) l.names);
}
