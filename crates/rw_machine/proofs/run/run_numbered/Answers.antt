use Rattle.std.proofs.Common.{◌≡◌, ap, sym, subst, ◌∙◌, true≢false, arith}
use Rattle.std.specs.Prelude.{OnOk, length, nat_lt}
use Rattle.rw_machine.specs.Counts.{doing, count_in}
use Rattle.rw_machine.specs.Kept.{commands_of, kept_step}
use Rattle.rw_machine.specs.Outcome.{start_of, Halted, Tells}
use Rattle.rw_machine.proofs.Keeping.{if_ok}
use Rattle.rw_machine.proofs.Standing.{Stands, none_left, some_left, begin_stands, may_step, may_count, next_stands, halts, end_told, halt_told}
use Rattle.rw_machine.proofs.run.run_numbered.Goals as goal

pub loop-done-init : goal.loop-done-init
loop-done-init c =
    begin_stands c.args.code.now (start_of c.args.globals.now c.args.start.now.values) c.args.limit c.in_ok-machine.machine c.in_ok-counts.counts c.loops.result
    c.in_ok-machine.ensures.commands c.in_ok-machine.ensures.stack c.in_ok-counts.ensures c.loops.ensures

pub returns-then-is_empty : goal.returns-then-is_empty
returns-then-is_empty c =
    let m = c.loop-done.machine in
    if_ok _ _ c.ended.result (λ r told.
    end_told c.args.code.now c.args.globals.now c.requires.code c.args.start.now.values c.requires.start c.args.limit c.loop-done.done m c.loop-done.counts c.loop-done.invariant
    (none_left m (c.is_empty.ensures.0 c.if-is_empty.true)) r told) c.ended.ensures

pub counted_step-requires-clause-room : goal.counted_step-requires-clause-room
counted_step-requires-clause-room c =
    let l = c.loop-done-test.true in
    let k = c.requires.most in
    may_step c.args.code.now (start_of c.args.globals.now c.args.start.now.values) c.args.limit c.loop-done.done c.loop-done.machine c.loop-done.counts c.loop-done.invariant (omega (arith, l, k))

pub counted_step-requires-clause-countable : goal.counted_step-requires-clause-countable
counted_step-requires-clause-countable c =
    let l = c.loop-done-test.true in
    let k = c.requires.most in
    may_count c.args.code.now (start_of c.args.globals.now c.args.start.now.values) c.args.limit c.loop-done.done c.loop-done.machine c.loop-done.counts c.loop-done.invariant (omega (arith, l, k))

pub returns-in-Err : goal.returns-in-Err
returns-in-Err c =
    let code = c.args.code.now in
    let globals = c.args.globals.now in
    let s = start_of globals c.args.start.now.values in
    let m = c.loop-done.machine in
    let next = c.counted_step.new.machine in
    let w = c.in-Err.stop in
    let left = some_left m (λ e. true≢false (sym (c.is_empty.ensures.1 e) ∙ c.if-is_empty.false)) in
    let is = halts code s c.args.limit c.loop-done.done m c.loop-done.counts c.loop-done.invariant left c.loop-done-test.true w next
    (ap (λ r. kept_step r next) (sym c.in-Err.is) ∙ c.in_ok-stop.ensures.step) in
    subst (λ o. Tells code globals c.args.limit o c.halted.result) (sym is)
    (subst (λ r. Tells code globals c.args.limit (Halted w c.loop-done.done) r) (sym c.halted.ensures) (halt_told code globals c.args.limit w c.loop-done.done))

pub loop-done-preserved : goal.loop-done-preserved
loop-done-preserved c =
    let m = c.loop-done.machine in
    let next = c.counted_step.new.machine in
    let counts = c.counted_step.new.counts in
    let left = some_left m (λ e. true≢false (sym (c.is_empty.ensures.1 e) ∙ c.if-is_empty.false)) in
    next_stands c.args.code.now (start_of c.args.globals.now c.args.start.now.values) c.args.limit c.loop-done.done m c.loop-done.counts c.loop-done.invariant left c.loop-done-test.true next
    (ap (λ r. kept_step r next) (sym c.in-Ok.is) ∙ c.in_ok-stop.ensures.step) counts
    (subst (λ r. OnOk r (counts ≡ count_in (doing (commands_of m)) (nat_lt (length (commands_of m)) (length (commands_of next))) c.loop-done.counts)) c.in-Ok.is c.in_ok-stop.ensures.counts)

pub returns-then-is_empty-2 : goal.returns-then-is_empty-2
returns-then-is_empty-2 c =
    let m = c.loop-done.machine in
    let a = c.loop-done-test.false in
    let b = c.loop-done.auto.done-end in
    let e : c.loop-done.done ≡ c.args.limit = omega (arith, a, b) in
    let stands = subst (λ k. Stands c.args.code.now (start_of c.args.globals.now c.args.start.now.values) c.args.limit k m c.loop-done.counts) e c.loop-done.invariant in
    if_ok _ _ c.ended-then-is_empty-2.result (λ r told.
    end_told c.args.code.now c.args.globals.now c.requires.code c.args.start.now.values c.requires.start c.args.limit c.args.limit m c.loop-done.counts stands
    (none_left m (c.is_empty-2.ensures.0 c.if-is_empty-2.true)) r told) c.ended-then-is_empty-2.ensures
