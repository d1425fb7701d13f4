use Rattle.std.proofs.Common.{◌≡◌, drop}
use Rattle.rw_arith.specs.Polynomials.{with_multiples}
use Rattle.rw_arith.proofs.sums.add_multiples.Given as goal

abbrev pub invariant-loop-summand : goal.invariant-loop-summand
invariant-loop-summand l = with_multiples l.times (drop l.summand-index l.more) l.sum ≡ with_multiples l.times l.more l.fn.sum
