use Rattle.std.proofs.Common.{rules}
use Rattle.rw_subst.specs.Conj.{IsCompared}
use Rattle.rw_subst.proofs.Joining.{not_negative_size, below_size}
use Rattle.rw_subst.proofs.counting.size_of_comparison.Goals as goal

pub returns-clause-not_negative : goal.returns-clause-not_negative
returns-clause-not_negative c =
    let compared : IsCompared c.args.term.now c.above_two.result = search rules in
    not_negative_size c.args.term.now c.above_two.result compared

pub returns-clause-below : goal.returns-clause-below
returns-clause-below c n =
    let compared : IsCompared c.args.term.now c.above_two.result = search rules in
    below_size c.args.term.now n c.above_two.result compared
