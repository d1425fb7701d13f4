use Rattle.std.proofs.Common.{sym, ◌∙◌, ap, set}
use Rattle.std.specs.Int.{w128}
use Rattle.std.proofs.lemmas.Int.{to_z-of_z}
use Rattle.rw_arith.specs.declared.poly.Summand.{Summand}
use Rattle.rw_arith.proofs.Steps.{times_set_is}
use Rattle.rw_arith.proofs.poly.set_times.Goals as goal

pub returns : goal.returns
returns c =
    (λ i. set c.args.polynomial.now c.args.at (record { times = to_z-of_z w128 c.args.times c.ranges.times i; atoms = c.item_mut.result.now.atoms }))
    ∙ sym (times_set_is c.args.polynomial.now c.args.at c.item_mut.result.now c.args.times c.item_mut.ensures.value)
