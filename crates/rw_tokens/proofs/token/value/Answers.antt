use Rattle.std.proofs.Common.{Some, None, cond, arith, sym, ap, ◌∙◌}
use Rattle.rw_tokens.specs.Tokens.{value}
use Rattle.rw_tokens.proofs.Digits.{too_large, value_step, value_end, fits}
use Rattle.rw_tokens.proofs.token.value.Goals as goal

pub returns-then-n-digit : goal.returns-then-n-digit
returns-then-n-digit c =
    let step = value_step c.loop-b.n c.saturating_sub-digit.result c.args.digits.now c.loop-b.b-index c.loop-b-test.true c.saturating_sub-digit.ensures in
    ap (λ b. cond b (Some (value 0 c.args.digits.now)) None) (sym (too_large c.loop-b.n c.saturating_sub-digit.result 170141183460469231731687303715884105727 _ _ (sym step ∙ c.loop-b.invariant.same) c.if-n-digit.true))

pub loop-b-preserved : goal.loop-b-preserved
loop-b-preserved c = record {
  least = omega arith;
  same = sym (value_step c.loop-b.n c.saturating_sub-digit.result c.args.digits.now c.loop-b.b-index c.loop-b-test.true c.saturating_sub-digit.ensures) ∙ c.loop-b.invariant.same;
}

pub returns : goal.returns
returns c = fits c.loop-b.n _ _ (sym (value_end c.loop-b.n c.args.digits.now c.loop-b.b-index c.loop-b-test.false) ∙ c.loop-b.invariant.same) c.loop-b.invariant.least
