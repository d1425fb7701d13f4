use Rattle.std.proofs.Common.{◌≡◌, ◌+◌, ap, sym, ◌∙◌, suc, [], ◌∷◌, map, reverse, Some, Ok, arith}
use Rattle.rw_programs.specs.State.{put, with_own}
use Rattle.rw_programs.specs.Tables.{find_module}
use Rattle.rw_numbering.specs.declared.tally.Tally.{out-Tally}
use Rattle.rw_numbering.specs.Loops.{loops, arms_loops, first_in_start}
use Rattle.rw_numbering.specs.Tallies.{tally_of, arm_tallies, part_tally}
use Rattle.rw_numbering.proofs.Loops.{seq_loops, if_loops, do_loops}
use Rattle.rw_numbering.proofs.Tallied.{seq_first, seq_second, block_part, module_part, if_parts, do_parts}
use Rattle.rw_frames.specs.Bodies.{zero_of, started}
use Rattle.rw_frames.specs.Frames.{state_of}
use Rattle.rw_machine.specs.Machine.{Run, Leave, Begin, Close, step_run}
use Rattle.rw_machine.specs.Kept.{shown, commands_of, stack_of, bare_step, pick_of, choice_of, loop_of, kept_some}
use Rattle.rw_machine.proofs.Keeping.{skip_comes, assign_comes, sequence_comes, block_comes, if_comes, do_comes, call_comes, operation_comes, module_comes, con_comes, if_ok}
use Rattle.rw_machine.proofs.running.run_step.Goals as goal

pub part-left-requires : goal.part-left-requires
part-left-requires c = ap (λ p. part_tally p 0) (sym c.prog.ensures ∙ c.in-Seq.is) ∙ seq_first c.in-Seq.first c.in-Seq.second ∙ ap (λ x. Some (tally_of x)) (sym c.get.ensures)

pub part-right-requires : goal.part-right-requires
part-right-requires c = ap (λ p. part_tally p 1) (sym c.prog.ensures ∙ c.in-Seq.is) ∙ seq_second c.in-Seq.first c.in-Seq.second ∙ ap (λ x. Some (tally_of x)) (sym c.get-in-Seq.ensures)

pub run_sequence-requires : goal.run_sequence-requires
run_sequence-requires c =
    let e : loops c.args.part ≡ loops c.in-Seq.first + loops c.in-Seq.second = ap loops (sym c.prog.ensures ∙ c.in-Seq.is) ∙ seq_loops c.in-Seq.first c.in-Seq.second in
    let a = ap loops (c.part-left.ensures ∙ c.get.ensures) in
    let r = c.requires.room in
    omega (arith, e, a, r)

pub run_choice-requires-clause-tallied : goal.run_choice-requires-clause-tallied
run_choice-requires-clause-tallied c =
    c.tallies.ensures ∙ ap (λ p. (out-Tally (tally_of p)).parts) (sym c.prog.ensures ∙ c.in-If.is) ∙ if_parts c.in-If.arms ∙ ap arm_tallies (sym c.as_slice.ensures)

pub run_choice-requires-clause-room : goal.run_choice-requires-clause-room
run_choice-requires-clause-room c =
    let e : loops c.args.part ≡ arms_loops c.in-If.arms = ap loops (sym c.prog.ensures ∙ c.in-If.is) ∙ if_loops c.in-If.arms in
    let a = ap arms_loops c.as_slice.ensures in
    let r = c.requires.room in
    omega (arith, e, a, r)

pub run_loop-requires-clause-tallied : goal.run_loop-requires-clause-tallied
run_loop-requires-clause-tallied c =
    c.tallies-tallies.ensures ∙ ap (λ p. (out-Tally (tally_of p)).parts) (sym c.prog.ensures ∙ c.in-Do.is) ∙ do_parts c.in-Do.field-0 c.in-Do.arms
    ∙ ap arm_tallies (sym c.as_slice-in-Do.ensures)

pub run_loop-requires-clause-room : goal.run_loop-requires-clause-room
run_loop-requires-clause-room c =
    let e : loops c.args.part ≡ suc (arms_loops c.in-Do.arms) = ap loops (sym c.prog.ensures ∙ c.in-Do.is) ∙ do_loops c.in-Do.field-0 c.in-Do.arms in
    let a = ap arms_loops c.as_slice-in-Do.ensures in
    let r = c.requires.room in
    omega (arith, e, a, r)

pub part-inner-requires : goal.part-inner-requires
part-inner-requires c =
    ap (λ p. part_tally p 0) (sym c.prog.ensures ∙ c.in-Block.is) ∙ block_part c.in-Block.local c.in-Block.sort c.in-Block.body ∙ ap (λ x. Some (tally_of x)) (sym c.get-in-Block.ensures)

pub part-within-requires : goal.part-within-requires
part-within-requires c =
    ap (λ p. part_tally p 0) (sym c.prog.ensures ∙ c.in-ModBlock.is) ∙ module_part c.in-ModBlock.name c.in-ModBlock.body ∙ ap (λ x. Some (tally_of x)) (sym c.get-in-ModBlock.ensures)

pub returns-in_ok-put_frame-in-Skip : goal.returns-in_ok-put_frame-in-Skip
returns-in_ok-put_frame-in-Skip c =
    let m = c.args.machine.now in
    let s = state_of c.args.frame in
    ap (λ cs. Ok (map shown (reverse cs), stack_of c.put_frame.new.machine)) c.put_frame.ensures.commands
    ∙ ap (λ ss. Ok (commands_of m, ss)) c.in_ok-put_frame-in-Skip.ensures.stack
    ∙ sym (skip_comes c.args.code.now c.args.n m s (stack_of m))
    ∙ ap (λ p. bare_step (step_run c.args.code.now c.args.n p (commands_of m) s (stack_of m) [])) (sym (sym c.prog.ensures ∙ c.in-Skip.is))

pub returns-in-Con : goal.returns-in-Con
returns-in-Con c =
    let m = c.args.machine.now in
    let s = state_of c.args.frame in
    sym (con_comes c.args.code.now c.args.n (commands_of m) s (stack_of m) c.in-Con.field-0 c.in-Con.field-1)
    ∙ ap (λ p. bare_step (step_run c.args.code.now c.args.n p (commands_of m) s (stack_of m) [])) (sym (sym c.prog.ensures ∙ c.in-Con.is))

pub returns-in-Assign : goal.returns-in-Assign
returns-in-Assign c =
    let m = c.args.machine.now in
    let s = state_of c.args.frame in
    if_ok _ _ c.run_assignment.result (λ r h. h
    ∙ sym (assign_comes c.args.code.now c.args.n m s (stack_of m) c.in-Assign.names c.in-Assign.terms)
    ∙ ap (λ p. bare_step (step_run c.args.code.now c.args.n p (commands_of m) s (stack_of m) [])) (sym (sym c.prog.ensures ∙ c.in-Assign.is))) c.run_assignment.ensures

pub returns-in_ok-run_sequence-in-Seq : goal.returns-in_ok-run_sequence-in-Seq
returns-in_ok-run_sequence-in-Seq c =
    let m = c.args.machine.now in
    let s = state_of c.args.frame in
    ap (λ k. Ok k) c.in_ok-run_sequence-in-Seq.ensures
    ∙ ap (λ p. Ok (Run c.args.n p ∷ Run (c.args.n + loops p) c.part-right.result ∷ commands_of m, s ∷ stack_of m)) (c.part-left.ensures ∙ c.get.ensures)
    ∙ ap (λ p. Ok (Run c.args.n c.in-Seq.first ∷ Run (c.args.n + loops c.in-Seq.first) p ∷ commands_of m, s ∷ stack_of m)) (c.part-right.ensures ∙ c.get-in-Seq.ensures)
    ∙ sym (sequence_comes c.args.code.now c.args.n m s (stack_of m) c.in-Seq.first c.in-Seq.second)
    ∙ ap (λ p. bare_step (step_run c.args.code.now c.args.n p (commands_of m) s (stack_of m) [])) (sym (sym c.prog.ensures ∙ c.in-Seq.is))

pub returns-in-If : goal.returns-in-If
returns-in-If c =
    let m = c.args.machine.now in
    let s = state_of c.args.frame in
    if_ok _ _ c.run_choice.result (λ r h. h
    ∙ ap (λ arms. choice_of (pick_of c.args.n arms s.own) (commands_of m) (s ∷ stack_of m)) c.as_slice.ensures
    ∙ sym (if_comes c.args.code.now c.args.n m s (stack_of m) c.in-If.arms)
    ∙ ap (λ p. bare_step (step_run c.args.code.now c.args.n p (commands_of m) s (stack_of m) [])) (sym (sym c.prog.ensures ∙ c.in-If.is))) c.run_choice.ensures

pub returns-in-Do : goal.returns-in-Do
returns-in-Do c =
    let m = c.args.machine.now in
    let s = state_of c.args.frame in
    if_ok _ _ c.run_loop.result (λ r h. h
    ∙ ap (λ arms. loop_of (pick_of (c.args.n + 1) arms s.own) c.args.n 0 c.args.part (commands_of m) (s ∷ stack_of m)) c.as_slice-in-Do.ensures
    ∙ ap (λ p. loop_of (pick_of (c.args.n + 1) c.in-Do.arms s.own) c.args.n 0 p (commands_of m) (s ∷ stack_of m)) (sym c.prog.ensures ∙ c.in-Do.is)
    ∙ sym (do_comes c.args.code.now c.args.n m s (stack_of m) c.in-Do.field-0 c.in-Do.arms)
    ∙ ap (λ p. bare_step (step_run c.args.code.now c.args.n p (commands_of m) s (stack_of m) [])) (sym (sym c.prog.ensures ∙ c.in-Do.is))) c.run_loop.ensures

pub returns-in_ok-run_block-in-Block : goal.returns-in_ok-run_block-in-Block
returns-in_ok-run_block-in-Block c =
    let m = c.args.machine.now in
    let s = state_of c.args.frame in
    let made_state = with_own s (put c.in-Block.local (Some (zero_of c.in-Block.sort)) s.own) in
    ap (λ k. Ok k) c.in_ok-run_block-in-Block.ensures
    ∙ ap (λ p. Ok (Run c.args.n p ∷ Leave c.in-Block.local ∷ commands_of m, made_state ∷ stack_of m)) (c.part-inner.ensures ∙ c.get-in-Block.ensures)
    ∙ sym (block_comes c.args.code.now c.args.n m s (stack_of m) c.in-Block.local c.in-Block.sort c.in-Block.body)
    ∙ ap (λ p. bare_step (step_run c.args.code.now c.args.n p (commands_of m) s (stack_of m) [])) (sym (sym c.prog.ensures ∙ c.in-Block.is))

pub returns-in-Call : goal.returns-in-Call
returns-in-Call c =
    let m = c.args.machine.now in
    let s = state_of c.args.frame in
    let code = c.args.code.now in
    if_ok _ _ c.run_call.result (λ r h. h
    ∙ sym (call_comes code c.args.n m s (stack_of m) c.in-Call.name c.in-Call.args c.in-Call.names)
    ∙ ap (λ p. bare_step (step_run code c.args.n p (commands_of m) s (stack_of m) [])) (sym (sym c.prog.ensures ∙ c.in-Call.is))) c.run_call.ensures

pub returns-in-OpCall : goal.returns-in-OpCall
returns-in-OpCall c =
    let m = c.args.machine.now in
    let s = state_of c.args.frame in
    let code = c.args.code.now in
    if_ok _ _ c.run_operation.result (λ r h. h
    ∙ sym (operation_comes code c.args.n m s (stack_of m) c.in-OpCall.owner c.in-OpCall.name c.in-OpCall.args c.in-OpCall.names)
    ∙ ap (λ p. bare_step (step_run code c.args.n p (commands_of m) s (stack_of m) [])) (sym (sym c.prog.ensures ∙ c.in-OpCall.is))) c.run_operation.ensures

pub returns-in-ModBlock : goal.returns-in-ModBlock
returns-in-ModBlock c =
    let m = c.args.machine.now in
    let s = state_of c.args.frame in
    let code = c.args.code.now in
    let o = c.in-ModBlock.name in
    if_ok _ _ c.run_module.result (λ r h. h
    ∙ ap (λ p. kept_some (find_module o code.modules) (λ d. Ok (Run (first_in_start code o) d.start ∷ Begin o c.args.n p ∷ Close o ∷ commands_of m, started d ∷ s ∷ stack_of m))) (c.part-within.ensures ∙ c.get-in-ModBlock.ensures)
    ∙ sym (module_comes code c.args.n m s (stack_of m) o c.in-ModBlock.body)
    ∙ ap (λ p. bare_step (step_run code c.args.n p (commands_of m) s (stack_of m) [])) (sym (sym c.prog.ensures ∙ c.in-ModBlock.is))) c.run_module.ensures
