use Rattle.std.proofs.Common.{ap, sym, ◌∙◌, [], ◌∷◌, map, reverse, Ok}
use Rattle.rw_evaluation.specs.Evaluation.{one}
use Rattle.rw_machine.specs.Machine.{step_run, step_on}
use Rattle.rw_machine.specs.Kept.{shown, commands_of, stack_of, bare_step, opened_of}
use Rattle.rw_frames.specs.Frames.{state_of}
use Rattle.rw_machine.proofs.Keeping.{if_ok, leave_held, return_held, give_held, close_held, begin_held}
use Rattle.rw_machine.proofs.running.step_with.Goals as goal

pub returns-in_ok-leave-in-Leave : goal.returns-in_ok-leave-in-Leave
returns-in_ok-leave-in-Leave c =
    let m = c.args.machine.now in
    let s = state_of c.args.frame in
    ap (λ k. Ok k) c.in_ok-leave-in-Leave.ensures
    ∙ sym (leave_held c.args.code.now m c.in-Leave.local.now s (stack_of m))
    ∙ ap (λ k. bare_step (step_on c.args.code.now (shown k) (commands_of m) (s ∷ stack_of m) [])) (sym c.in-Leave.is)

pub returns-in-Return : goal.returns-in-Return
returns-in-Return c =
    let m = c.args.machine.now in
    let s = state_of c.args.frame in
    if_ok _ _ c.go_back.result (λ r h. h
    ∙ sym (return_held c.args.code.now m c.in-Return.name.now c.in-Return.names.now s (stack_of m))
    ∙ ap (λ k. bare_step (step_on c.args.code.now (shown k) (commands_of m) (s ∷ stack_of m) [])) (sym c.in-Return.is)) c.go_back.ensures

pub returns-in-GiveBack : goal.returns-in-GiveBack
returns-in-GiveBack c =
    let m = c.args.machine.now in
    let s = state_of c.args.frame in
    if_ok _ _ c.give_back.result (λ r h. h
    ∙ sym (give_held c.args.code.now m c.in-GiveBack.owner.now c.in-GiveBack.name.now c.in-GiveBack.names.now s (stack_of m))
    ∙ ap (λ k. bare_step (step_on c.args.code.now (shown k) (commands_of m) (s ∷ stack_of m) [])) (sym c.in-GiveBack.is)) c.give_back.ensures

pub returns-in-Close : goal.returns-in-Close
returns-in-Close c =
    let m = c.args.machine.now in
    let s = state_of c.args.frame in
    if_ok _ _ c.close.result (λ r h. h
    ∙ sym (close_held c.args.code.now m c.in-Close.name.now s (stack_of m))
    ∙ ap (λ k. bare_step (step_on c.args.code.now (shown k) (commands_of m) (s ∷ stack_of m) [])) (sym c.in-Close.is)) c.close.ensures

pub returns-in-Ok : goal.returns-in-Ok
returns-in-Ok c =
    let m = c.args.machine.now in
    let after = c.enter_block.new.machine in
    let s = state_of c.args.frame in
    let code = c.args.code.now in
    let o = c.in-Begin.name.now in
    let body = c.in-Begin.body in
    if_ok _ _ c.run_step-in-Ok.result (λ r h. h
    ∙ ap (λ ks. bare_step (step_run code c.in-Begin.n body (map shown (reverse ks)) (state_of c.in-Ok.state) (stack_of after) [])) c.enter_block.ensures.commands
    ∙ ap (λ x. one x (λ p. bare_step (step_run code c.in-Begin.n body (commands_of m) p.0 p.1 [])))
    (ap (λ x. opened_of x after) (sym c.in-Ok.is) ∙ c.in_ok-stop-in-Begin.ensures.state)
    ∙ sym (begin_held code m o c.in-Begin.n body s (stack_of m))
    ∙ ap (λ k. bare_step (step_on code (shown k) (commands_of m) (s ∷ stack_of m) [])) (sym c.in-Begin.is)) c.run_step-in-Ok.ensures
