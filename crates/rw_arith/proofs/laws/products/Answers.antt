use Rattle.rw_arith.proofs.Multisets.{one_product_law}
use Rattle.rw_arith.proofs.laws.products.Goals as goal

pub returns : goal.returns
returns c = one_product_law
