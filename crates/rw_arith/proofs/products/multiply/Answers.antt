use Rattle.std.proofs.Common.{◌≡◌, ◌+◌, ◌∙◌, sym, ap, drop, drop-cons, add-one, arith}
use Rattle.rw_arith.specs.Polynomials.{with_product, with_products, for_each}
use Rattle.rw_arith.proofs.Steps.{one_step}
use Rattle.rw_arith.proofs.products.multiply.Goals as goal

pub loop-one-preserved : goal.loop-one-preserved
loop-one-preserved c =
    one_step c.args.others.now c.args.ones.now c.loop-one.one-index c.one-item.result c.loop-one.sum c.in_ok-sum.sum (omega arith) (sym c.one-item.is) c.in_ok-sum.ensures
    ∙ c.loop-one.invariant
