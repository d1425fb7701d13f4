use Rattle.std.proofs.Common.{◌≡◌, drop, length, map, []}
use Rattle.rw_terms.specs.Rules.{are_of, sort_in}
use Rattle.rw_fits.proofs.calls.are_args.Given as goal

abbrev pub invariant-loop-i : goal.invariant-loop-i
invariant-loop-i l = record {
  long : length l.params ≡ length l.args;
  rest : are_of (map (λ p. p.sort) (drop l.i l.params)) (map (sort_in l.scope []) (drop l.i l.args)) ≡ are_of (map (λ p. p.sort) l.params) (map (sort_in l.scope []) l.args);
}
