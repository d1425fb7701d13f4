use Rattle.std.proofs.Common.{◌≡◌, drop}
use Rattle.rw_arith.specs.Polynomials.{with_product, for_each}
use Rattle.rw_arith.proofs.products.add_products.Given as goal

abbrev pub invariant-loop-other : goal.invariant-loop-other
invariant-loop-other l = for_each (with_product l.one) (drop l.other-index l.others) l.sum ≡ for_each (with_product l.one) l.others l.fn.sum
