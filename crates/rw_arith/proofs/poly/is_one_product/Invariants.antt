use Rattle.std.proofs.Common.{◌≡◌, drop}
use Rattle.std.specs.List.{list_all}
use Rattle.rw_arith.specs.Polynomials.{as_often}
use Rattle.rw_arith.proofs.poly.is_one_product.Given as goal

abbrev pub invariant-loop-atom : goal.invariant-loop-atom
invariant-loop-atom l = list_all (as_often l.ones l.others) (drop l.atom-index l.ones) ≡ list_all (as_often l.ones l.others) l.ones
