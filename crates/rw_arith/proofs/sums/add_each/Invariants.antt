use Rattle.std.proofs.Common.{◌≡◌, drop}
use Rattle.rw_arith.specs.declared.poly.Expansion.TheVariants.{Polynomial}
use Rattle.rw_arith.specs.Polynomials.{with_summand, for_each}
use Rattle.rw_arith.proofs.sums.add_each.Given as goal

abbrev pub invariant-loop-summand : goal.invariant-loop-summand
invariant-loop-summand l = for_each with_summand (drop l.summand-index l.more) l.sum ≡ for_each with_summand l.more (Polynomial l.fn.summands)
