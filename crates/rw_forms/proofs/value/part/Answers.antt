use Rattle.std.proofs.Common.{◌≤◌, arith, sym, ap, subst}
use Rattle.rw_syntax.specs.Machine.{stack_nest}
use Rattle.rw_syntax.specs.declared.state.State.TheVariants as states
use Rattle.rw_tokens.proofs.Shorter.{moves_on, further}
use Rattle.rw_forms.proofs.Values.{begun, turned, leaves, ends_early, refuses, opened_of}
use Rattle.rw_forms.proofs.value.part.Goals as goal

pub tokens-init : goal.tokens-init
tokens-init c = record {
  place = c.requires.place;
  on = omega arith;
  inside = begun c.args.most c.args.goal c.args.line.now c.args.at.now (states.Wants c.new.result) (ap states.Wants c.new.ensures);
  opened = subst (λ fs. stack_nest fs ≤ 512) (sym c.new.ensures) (omega arith);
}

pub next_class-requires : goal.next_class-requires
next_class-requires c = c.tokens.invariant.place.within

pub advance-requires : goal.advance-requires
advance-requires c = c.tokens.invariant.opened

pub tokens-smaller : goal.tokens-smaller
tokens-smaller c =
    let g = c.in-Some.ensures in
    let h = moves_on c.args.line.now c.tokens.at c.in-Some.next g.0.1.0 g.0.1.1 in
    let w = g.0.0 in
    omega arith

pub tokens-preserved : goal.tokens-preserved
tokens-preserved c = record {
  place = record { short = c.requires.place.short; within = c.in-Some.ensures.0.0 };
  on = further c.args.line.now c.args.at.now c.tokens.at c.in-Some.next c.in-Some.ensures.0.1.0 c.tokens.invariant.on c.in-Some.ensures.0.1.1;
  inside = turned c.args.most c.args.goal c.args.line.now c.args.at.now c.tokens.at c.tokens.state (c.in-Some.class, c.in-Some.next) c.in_ok-behind.field-0 c.in-Some-2.behind c.tokens.invariant.inside c.in-Some.ensures.0 c.in_ok-behind.ensures.state c.in-Some-2.is;
  opened = opened_of c.args.most c.in_ok-behind.field-0 c.in-Some-2.behind c.in-Some-2.is c.in_ok-behind.ensures.within c.requires.bound;
}

pub fault-requires : goal.fault-requires
fault-requires c = let s = c.requires.place.short in let w = c.tokens.invariant.place.within in omega arith

pub returns-in-None-clause-took : goal.returns-in-None-clause-took
returns-in-None-clause-took c = refuses c.args.most c.args.goal c.args.line.now c.args.at.now c.tokens.at c.tokens.state (c.in-Some.class, c.in-Some.next) c.in_ok-behind.field-0 c.fault.result c.tokens.invariant.inside c.in-Some.ensures c.in_ok-behind.ensures.state c.in-None.is c.fault.ensures c.tokens.invariant.place.within

pub finish-requires : goal.finish-requires
finish-requires c = c.tokens.invariant.opened

pub fault-requires-in-None-2 : goal.fault-requires-in-None-2
fault-requires-in-None-2 c = let s = c.requires.place.short in let w = c.tokens.invariant.place.within in omega arith

pub returns-in-Some-3-clause-took : goal.returns-in-Some-3-clause-took
returns-in-Some-3-clause-took c = (c.tokens.invariant.place, leaves c.args.most c.args.goal c.args.line.now c.args.at.now c.tokens.at c.tokens.state c.in_ok-part.field-0 c.in-Some-3.part c.tokens.invariant.inside c.in_default.ensures c.in_ok-part.ensures c.in-Some-3.is)

pub returns-in-None-2-clause-took : goal.returns-in-None-2-clause-took
returns-in-None-2-clause-took c = ends_early c.args.most c.args.goal c.args.line.now c.args.at.now c.tokens.at c.tokens.state c.in_ok-part.field-0 c.fault-in-None-2.result c.tokens.invariant.inside c.in_default.ensures c.in_ok-part.ensures c.in-None-2.is c.fault-in-None-2.ensures c.tokens.invariant.place.within
