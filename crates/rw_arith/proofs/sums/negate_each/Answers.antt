use Rattle.std.proofs.Common.{◌<◌, length, map, cond, sym, ap, ◌∙◌, arith}
use Rattle.rw_arith.specs.declared.poly.Expansion.TheVariants.{Polynomial, Wide}
use Rattle.rw_arith.specs.Polynomials.{negated_summand}
use Rattle.rw_arith.proofs.Negations.{negated_more, rest_more, not_all}
use Rattle.rw_arith.proofs.sums.negate_each.Goals as goal

pub loop-i-preserved : goal.loop-i-preserved
loop-i-preserved c =
    let within : c.loop-i.i < length c.args.summands = omega arith in
    record {
      done = negated_more c.args.summands c.loop-i.summands c.loop-i.i c.item_mut.result.now _ within c.loop-i.invariant.done c.item_mut.ensures.value (c.negate_one.ensures.done c.if-not-negate_one.false);
      rest = rest_more c.args.summands c.loop-i.summands c.loop-i.i c.item_mut.result.now within c.loop-i.invariant.done c.item_mut.ensures.value (sym c.negate_one.ensures.told ∙ c.if-not-negate_one.false) c.loop-i.invariant.rest;
    }

pub returns-then-not-negate_one : goal.returns-then-not-negate_one
returns-then-not-negate_one c =
    let within : c.loop-i.i < length c.args.summands = omega arith in
    sym (ap (λ b. cond b (Polynomial (map negated_summand c.args.summands)) Wide) (not_all c.args.summands c.loop-i.summands c.loop-i.i c.item_mut.result.now within c.loop-i.invariant.done c.item_mut.ensures.value (sym c.negate_one.ensures.told ∙ c.if-not-negate_one.true) c.loop-i.invariant.rest))
