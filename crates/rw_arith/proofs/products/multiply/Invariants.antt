use Rattle.std.proofs.Common.{◌≡◌, [], drop}
use Rattle.rw_arith.specs.declared.poly.Expansion.TheVariants.{Polynomial}
use Rattle.rw_arith.specs.Polynomials.{with_products, for_each}
use Rattle.rw_arith.proofs.products.multiply.Given as goal

abbrev pub invariant-loop-one : goal.invariant-loop-one
invariant-loop-one l = for_each (with_products l.others) (drop l.one-index l.ones) l.sum ≡ for_each (with_products l.others) l.ones (Polynomial [])
