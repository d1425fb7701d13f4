use Rattle.std.proofs.Common.{ap, subst, sym, drop, arith, ◌≤◌}
use Rattle.std.proofs.lemmas.Result.{err_from_is_err_and}
use Rattle.rw_syntax.specs.Machine.{stack_nest}
use Rattle.rw_syntax.specs.declared.state.State.TheVariants as states
use Rattle.rw_reader.proofs.Expressions.{begun, one_more, turn_faults, turn_falls, end_spells, end_fault}
use Rattle.rw_reader.proofs.expression.read.Goals as goal

pub tokens-init : goal.tokens-init
tokens-init c = record {
  place = record { short = c.requires.short; within = c.skip-at.ensures.within };
  read = begun c.args.goal c.args.text.now (drop c.skip-at.result c.args.text.now) (states.Wants c.new.result) c.skip-at.ensures.place (ap states.Wants c.new.ensures);
  opened = subst (λ fs. stack_nest fs ≤ 512) (sym c.new.ensures) (omega arith);
}

pub returns-in_err-behind-clause-err : goal.returns-in_err-behind-clause-err
returns-in_err-behind-clause-err c =
    let p = err_from_is_err_and c.from_residual.result c.from_residual.ensures.1 in
    rw (p.1, p.2) (turn_faults c.args.goal c.args.text.now c.tokens.at c.tokens.state _ c.requires.level c.tokens-test.true c.tokens.invariant.read c.in_err-behind.ensures.err)

pub tokens-smaller : goal.tokens-smaller
tokens-smaller c = turn_falls c.args.goal c.args.text.now c.tokens.at c.in_ok-behind.next c.tokens.state c.in_ok-behind.behind c.in_ok-behind.ensures.turns

pub tokens-preserved : goal.tokens-preserved
tokens-preserved c = record {
  place = record { short = c.requires.short; within = c.in_ok-behind.ensures.within.1 };
  read = one_more c.args.goal c.args.text.now (drop c.tokens.at c.args.text.now) c.tokens.state (drop c.in_ok-behind.next c.args.text.now) c.in_ok-behind.behind c.tokens.invariant.read c.in_ok-behind.ensures.turns;
  opened = c.in_ok-behind.ensures.within.0;
}

pub returns-in-Some-clause-ok : goal.returns-in-Some-clause-ok
returns-in-Some-clause-ok c = end_spells c.args.goal c.args.text.now c.tokens.at c.tokens.state c.in-Some.part c.in_ok-part.field-0 c.requires.level c.tokens-test.false c.tokens.invariant.read c.in_ok-part.ensures c.in-Some.is

pub returns-in-None-clause-err : goal.returns-in-None-clause-err
returns-in-None-clause-err c = end_fault c.args.goal c.args.text.now c.tokens.at c.tokens.state c.in_ok-part.field-0 c.fault.result c.requires.level c.tokens-test.false c.tokens.invariant.read c.in_ok-part.ensures c.in-None.is c.fault.ensures
