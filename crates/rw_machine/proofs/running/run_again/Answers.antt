use Rattle.std.proofs.Common.{◌≡◌, ◌+◌, ap, sym, ◌∙◌, suc, [], ◌∷◌, arith}
use Rattle.rw_numbering.specs.declared.tally.Tally.{out-Tally}
use Rattle.rw_numbering.specs.Loops.{loops, arms_loops}
use Rattle.rw_numbering.specs.Tallies.{tally_of, arm_tallies}
use Rattle.rw_numbering.proofs.Loops.{do_loops}
use Rattle.rw_numbering.proofs.Tallied.{do_parts}
use Rattle.rw_frames.specs.Frames.{state_of}
use Rattle.rw_machine.specs.Machine.{step_again}
use Rattle.rw_machine.specs.Kept.{commands_of, stack_of, bare_step, pick_of, loop_of, counted}
use Rattle.rw_machine.proofs.Keeping.{again_held, if_ok}
use Rattle.rw_machine.proofs.running.run_again.Goals as goal

pub run_loop-requires-clause-tallied : goal.run_loop-requires-clause-tallied
run_loop-requires-clause-tallied c =
    c.tallies-tallies.ensures ∙ ap (λ p. (out-Tally (tally_of p)).parts) (sym c.prog.ensures ∙ c.in-Do.is) ∙ do_parts c.in-Do.field-0 c.in-Do.arms
    ∙ ap arm_tallies (sym c.as_slice.ensures)

pub run_loop-requires-clause-room : goal.run_loop-requires-clause-room
run_loop-requires-clause-room c =
    let e : loops c.args.part ≡ suc (arms_loops c.in-Do.arms) = ap loops (sym c.prog.ensures ∙ c.in-Do.is) ∙ do_loops c.in-Do.field-0 c.in-Do.arms in
    let a = ap arms_loops c.as_slice.ensures in
    let r = c.requires.room in
    omega (arith, e, a, r)

pub returns-in-Do : goal.returns-in-Do
returns-in-Do c =
    let m = c.args.machine.now in
    let s = state_of c.args.frame in
    let k = c.args.turns in
    if_ok _ _ c.run_loop.result (λ r h. h
    ∙ ap (λ arms. loop_of (pick_of (c.args.n + 1) arms s.own) c.args.n k c.args.part (commands_of m) (s ∷ stack_of m)) c.as_slice.ensures
    ∙ ap (λ p. loop_of (pick_of (c.args.n + 1) c.in-Do.arms s.own) c.args.n k p (commands_of m) (s ∷ stack_of m)) (sym c.prog.ensures ∙ c.in-Do.is)
    ∙ sym (again_held c.args.code.now m (counted c.args.n k) c.in-Do.field-0 c.in-Do.arms s (stack_of m))
    ∙ ap (λ p. bare_step (step_again c.args.code.now (counted c.args.n k) p (commands_of m) s (stack_of m) [])) (sym (sym c.prog.ensures ∙ c.in-Do.is))) c.run_loop.ensures
