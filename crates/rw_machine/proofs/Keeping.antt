-- The steps of programs, as the machine of the code holds them.
use Rattle.std.proofs.Common.{◌≡◌, refl, ap, ◌∙◌, ℕ, suc, ◌+◌, true, List, [], ◌∷◌, ◌++◌, map, reverse, Option, Some, None, arith}
use Rattle.std.specs.Prelude.{Result, Ok, Err, IfOk}
use Rattle.rw_terms.specs.declared.term.Term.{Term}
use Rattle.rw_terms.specs.declared.term.Sort.{Sort}
use Rattle.rw_programs.specs.declared.prog.Arm.{Arm}
use Rattle.rw_programs.specs.declared.prog.Pin.{Pin}
use Rattle.std.proofs.lemmas.List.{reverse-append}
use Rattle.rw_programs.specs.declared.prog.ModCode.{ModCode}
use Rattle.rw_programs.specs.declared.prog.Code.{Code}
use Rattle.rw_programs.specs.declared.prog.Prog.{Prog, Call, OpCall, Assign, Skip}
use Rattle.rw_programs.specs.declared.prog.Prog.TheViews as made
use Rattle.rw_programs.specs.State.{Name, State, empty, put, put_all, with_own}
use Rattle.rw_programs.specs.Tables.{find_proc, find_module, returned, held, hold}
use Rattle.rw_evaluation.specs.declared.stop.AbortCause.TheVariants.{NoGuard}
use Rattle.rw_evaluation.specs.declared.stop.Stop.{Stop}
use Rattle.rw_evaluation.specs.declared.stop.Stop.TheVariants.{Aborted}
use Rattle.rw_machine.specs.declared.machine.Command.{Command as Kept}
use Rattle.rw_machine.specs.declared.machine.Command.TheVariants as kept
use Rattle.rw_machine.specs.declared.machine.Machine.{Machine}
use Rattle.rw_evaluation.specs.Evaluation.{one, all_seen}
use Rattle.rw_numbering.specs.Loops.{loops, first_in_proc, first_in_start, first_in_operation}
use Rattle.rw_machine.specs.Machine.{Pick, Took, None_true, Stopped, chosen, turned, some_of, Entered, entered, Command, Run, Again, Leave, Return, Give_back, Begin, Close, config, Stepped, step_run, step_again, step_on}
use Rattle.rw_frames.specs.Bodies.{zero_of, begun, started}
use Rattle.rw_machine.specs.Kept.{counted, bare, bare_step, shown, commands_of, pick_of, choice_of, loop_of, kept_some, kept_below, opened_below, opened_some}
use Rattle.rw_machine.proofs.Stepping.{sequence_step, block_step, module_step, if_step, do_step, again_step}

bare_shown : (c : Kept) → bare (shown c) ≡ shown c
bare_shown (kept.Run n c) = refl
bare_shown (kept.Again n k c) = refl
bare_shown (kept.Leave x) = refl
bare_shown (kept.Return f names) = refl
bare_shown (kept.GiveBack m o names) = refl
bare_shown (kept.Begin m n c) = refl
bare_shown (kept.Close m) = refl

bare_all : (cs : List Kept) → map bare (map shown cs) ≡ map shown cs
bare_all [] = refl
bare_all (c ∷ cs) = ap (λ x. x ∷ map bare (map shown cs)) (bare_shown c) ∙ ap (λ l. shown c ∷ l) (bare_all cs)

-- the commands that are kept are as they are kept
pub bare_commands : (m : Machine) → map bare (commands_of m) ≡ commands_of m
bare_commands m = bare_all (reverse m.commands)

abbrev Held : Type 0
Held = Result (List Command × List State) Stop

module _ (code : Code) (n : ℕ) (m : Machine) (s : State) (ss : List State) where
  -- what the step of the program comes to
  abbrev pub Comes : Prog → Held
  Comes c = bare_step (step_run code n c (commands_of m) s ss [])

  pub skip_comes : Comes Skip ≡ Ok (commands_of m, s ∷ ss)
  skip_comes = ap (λ l. Ok (l, s ∷ ss)) (bare_commands m)

  pub assign_comes : (names : List Name) (terms : List Term) → Comes (Assign names terms) ≡ one (all_seen s.own terms) (λ vs. Ok (commands_of m, with_own s (put_all names vs s.own) ∷ ss))
  assign_comes names terms = go (all_seen s.own terms)
    where
      go : (x : Result (List (Option _)) Stop) → bare_step (one x (λ vs. Ok (config (commands_of m) (with_own s (put_all names vs s.own) ∷ ss) []))) ≡ one x (λ vs. Ok (commands_of m, with_own s (put_all names vs s.own) ∷ ss))
      go (Ok vs) = ap (λ l. Ok (l, with_own s (put_all names vs s.own) ∷ ss)) (bare_commands m)
      go (Err w) = refl

  pub sequence_comes : (c d : Prog) → Comes (made.Seq c d) ≡ Ok (Run n c ∷ Run (n + loops c) d ∷ commands_of m, s ∷ ss)
  sequence_comes c d = ap bare_step (sequence_step code n (commands_of m) s ss [] c d) ∙ ap (λ l. Ok (Run n c ∷ Run (n + loops c) d ∷ l, s ∷ ss)) (bare_commands m)

  pub block_comes : (x : Name) (sort : Sort) (c : Prog)
      → Comes (made.Block x sort c) ≡ Ok (Run n c ∷ Leave x ∷ commands_of m, with_own s (put x (Some (zero_of sort)) s.own) ∷ ss)
  block_comes x sort c =
      ap bare_step (block_step code n (commands_of m) s ss [] x sort c)
      ∙ ap (λ l. Ok (Run n c ∷ Leave x ∷ l, with_own s (put x (Some (zero_of sort)) s.own) ∷ ss)) (bare_commands m)

  chosen_is : (y : Pick) → bare_step (chosen y (commands_of m) (s ∷ ss) []) ≡ choice_of y (commands_of m) (s ∷ ss)
  chosen_is (Took i c) = ap (λ l. Ok (Run i c ∷ l, s ∷ ss)) (bare_commands m)
  chosen_is None_true = refl
  chosen_is (Stopped w) = refl

  pub if_comes : (arms : List Arm) → Comes (made.If arms) ≡ choice_of (pick_of n arms s.own) (commands_of m) (s ∷ ss)
  if_comes arms = ap bare_step (if_step code (commands_of m) s ss [] n arms) ∙ chosen_is (pick_of n arms s.own)

  pub turned_is : (y : Pick) (e : Entered) (loop : Prog) → bare_step (turned y e loop (commands_of m) (s ∷ ss) []) ≡ loop_of y e.loop e.turns loop (commands_of m) (s ∷ ss)
  turned_is (Took i c) e loop =
      let j : suc e.turns ≡ e.turns + 1 = omega arith in
      ap (λ l. Ok (Run i c ∷ Again (counted e.loop (suc e.turns)) loop ∷ l, s ∷ ss)) (bare_commands m)
      ∙ ap (λ k. Ok (Run i c ∷ Again (counted e.loop k) loop ∷ commands_of m, s ∷ ss)) j
  turned_is None_true e loop = ap (λ l. Ok (l, s ∷ ss)) (bare_commands m)
  turned_is (Stopped w) e loop = refl

  pub do_comes : (v : Term) (arms : List Arm) → Comes (made.Do v arms) ≡ loop_of (pick_of (n + 1) arms s.own) n 0 (made.Do v arms) (commands_of m) (s ∷ ss)
  do_comes v arms =
      let j : suc n ≡ n + 1 = omega arith in
      ap bare_step (do_step code (commands_of m) s ss [] n v arms) ∙ turned_is (pick_of (suc n) arms s.own) (entered n v s) (made.Do v arms)
      ∙ ap (λ k. loop_of (pick_of k arms s.own) n 0 (made.Do v arms) (commands_of m) (s ∷ ss)) j

  one_is : {A : Type 0} (x : Result A Stop) (k : A → Stepped) (j : A → Held) → ((a : A) → bare_step (k a) ≡ j a) → bare_step (one x k) ≡ one x j
  one_is (Ok a) k j f = f a
  one_is (Err w) k j f = refl

  some_is : {A : Type 0} (o : Option A) (k : A → Stepped) (j : A → Held) → ((a : A) → bare_step (k a) ≡ j a) → bare_step (some_of o k) ≡ kept_some o j
  some_is None k j f = refl
  some_is (Some a) k j f = f a

  pub call_comes : (f : Name) (args : List Term) (names : List Name)
      → Comes (Call f args names) ≡ one (all_seen s.own args) (λ vs. kept_some (find_proc f code.procs) (λ e. Ok (Run (first_in_proc code f) e.body ∷ Return f names ∷ commands_of m, begun empty e vs ∷ s ∷ ss)))
  call_comes f args names = one_is (all_seen s.own args) _ _ (λ vs. some_is (find_proc f code.procs) _ _
      (λ e. ap (λ l. Ok (Run (first_in_proc code f) e.body ∷ Return f names ∷ l, begun empty e vs ∷ s ∷ ss)) (bare_commands m)))

  pub operation_comes : (o p : Name) (args : List Term) (names : List Name)
      → Comes (OpCall o p args names) ≡ one (all_seen s.own args) (λ vs. kept_some (find_module o code.modules) (λ d. kept_some (find_proc p d.operations) (λ e.
      Ok (Run (first_in_operation code o d p) e.body ∷ Give_back o p names ∷ commands_of m, begun (held true d s) e vs ∷ s ∷ ss))))
  operation_comes o p args names = one_is (all_seen s.own args) _ _ (λ vs. some_is (find_module o code.modules) _ _ (λ d. some_is (find_proc p d.operations) _ _
      (λ e. ap (λ l. Ok (Run (first_in_operation code o d p) e.body ∷ Give_back o p names ∷ l, begun (held true d s) e vs ∷ s ∷ ss)) (bare_commands m))))

  pub module_comes : (o : Name) (c : Prog)
      → Comes (made.ModBlock o c) ≡ kept_some (find_module o code.modules) (λ d.
      Ok (Run (first_in_start code o) d.start ∷ Begin o n c ∷ Close o ∷ commands_of m, started d ∷ s ∷ ss))
  module_comes o c =
      ap bare_step (module_step code n (commands_of m) s ss [] o c) ∙ some_is (find_module o code.modules) _ _
      (λ d. ap (λ l. Ok (Run (first_in_start code o) d.start ∷ Begin o n c ∷ Close o ∷ l, started d ∷ s ∷ ss)) (bare_commands m))

pub con_comes : (code : Code) (n : ℕ) (cs : List Command) (s : State) (ss : List State) (pins : List Pin) (c : Prog) → bare_step (step_run code n (made.Con pins c) cs s ss []) ≡ Err (Aborted NoGuard)
unfolding Rattle.rw_programs.specs.declared.prog.Prog.TheBlock.hidden-the_row-Prog-0 denote.Hole.Carrier.hidden
con_comes code n cs s ss pins c = refl

-- the first command is the last one that is kept
pub popped : (cs : List Kept) (c : Kept) → map shown (reverse (cs ++ c ∷ [])) ≡ shown c ∷ map shown (reverse cs)
popped cs c = ap (map shown) (reverse-append cs (c ∷ []))

module _ (code : Code) (m : Machine) where
  some_held : {A : Type 0} (o : Option A) (k : A → Stepped) (j : A → Held) → ((a : A) → bare_step (k a) ≡ j a) → bare_step (some_of o k) ≡ kept_some o j
  some_held None k j f = refl
  some_held (Some a) k j f = f a

  pub leave_held : (x : Name) (s : State) (ss : List State) → bare_step (step_on code (Leave x) (commands_of m) (s ∷ ss) []) ≡ Ok (commands_of m, with_own s (put x None s.own) ∷ ss)
  leave_held x s ss = ap (λ l. Ok (l, with_own s (put x None s.own) ∷ ss)) (bare_commands m)

  pub return_held : (f : Name) (names : List Name) (t : State) (ss : List State)
      → bare_step (step_on code (Return f names) (commands_of m) (t ∷ ss) []) ≡ kept_below ss (λ s ss. kept_some (find_proc f code.procs) (λ e. Ok (commands_of m, returned e names t s ∷ ss)))
  return_held f names t [] = refl
  return_held f names t (s ∷ ss) = some_held (find_proc f code.procs) _ _ (λ e. ap (λ l. Ok (l, returned e names t s ∷ ss)) (bare_commands m))

  pub give_held : (o p : Name) (names : List Name) (t : State) (ss : List State)
      → bare_step (step_on code (Give_back o p names) (commands_of m) (t ∷ ss) [])
      ≡ kept_below ss (λ s ss. kept_some (find_module o code.modules) (λ d. kept_some (find_proc p d.operations) (λ e. Ok (commands_of m, hold true d t.own (returned e names t s) ∷ ss))))
  give_held o p names t [] = refl
  give_held o p names t (s ∷ ss) = some_held (find_module o code.modules) _ _ (λ d. some_held (find_proc p d.operations) _ _
      (λ e. ap (λ l. Ok (l, hold true d t.own (returned e names t s) ∷ ss)) (bare_commands m)))

  pub close_held : (o : Name) (s : State) (ss : List State)
      → bare_step (step_on code (Close o) (commands_of m) (s ∷ ss) []) ≡ kept_some (find_module o code.modules) (λ d. Ok (commands_of m, hold true d empty s ∷ ss))
  close_held o s ss = some_held (find_module o code.modules) _ _ (λ d. ap (λ l. Ok (l, hold true d empty s ∷ ss)) (bare_commands m))

  some_opened : (o : Option ModCode) (f : ModCode → State) (ss : List State) (k : State → List State → Stepped)
      → bare_step (some_of o (λ d. k (f d) ss)) ≡ one (opened_some o (λ d. Ok (f d, ss))) (λ p. bare_step (k p.0 p.1))
  some_opened None f ss k = refl
  some_opened (Some d) f ss k = refl

  pub begin_held : (o : Name) (n : ℕ) (c : Prog) (t : State) (ss : List State)
      → bare_step (step_on code (Begin o n c) (commands_of m) (t ∷ ss) [])
      ≡ one (opened_below ss (λ s ss. opened_some (find_module o code.modules) (λ d. Ok (hold true d t.own s, ss)))) (λ p. bare_step (step_run code n c (commands_of m) p.0 p.1 []))
  begin_held o n c t [] = refl
  begin_held o n c t (s ∷ ss) = some_opened (find_module o code.modules) (λ d. hold true d t.own s) ss (λ s ss. step_run code n c (commands_of m) s ss [])

  pub again_held : (e : Entered) (v : Term) (arms : List Arm) (s : State) (ss : List State)
      → bare_step (step_again code e (made.Do v arms) (commands_of m) s ss []) ≡ loop_of (pick_of (e.loop + 1) arms s.own) e.loop e.turns (made.Do v arms) (commands_of m) (s ∷ ss)
  again_held e v arms s ss =
      let j : suc e.loop ≡ e.loop + 1 = omega arith in
      ap bare_step (again_step code (commands_of m) s ss [] e v arms) ∙ turned_is code e.loop m s ss (pick_of (suc e.loop) arms s.own) e (made.Do v arms)
      ∙ ap (λ k. loop_of (pick_of k arms s.own) e.loop e.turns (made.Do v arms) (commands_of m) (s ∷ ss)) j

-- without a state there is no step
pub empty_stuck : (code : Code) (c : Command) (cs : List Command) → bare_step (step_on code c cs [] []) ≡ Err (Aborted NoGuard)
empty_stuck code (Run n c) cs = refl
empty_stuck code (Again e c) cs = refl
empty_stuck code (Leave x) cs = refl
empty_stuck code (Return f names) cs = refl
empty_stuck code (Give_back m o names) cs = refl
empty_stuck code (Begin m n c) cs = refl
empty_stuck code (Close m) cs = refl

module _ (code : Code) (e : Entered) (cs : List Command) (s : State) (ss : List State) where
  abbrev NoLoop : Prog → Type 0
  NoLoop c = bare_step (step_again code e c cs s ss []) ≡ Err (Aborted NoGuard)

  pub no_loop_seq : (c d : Prog) → NoLoop (made.Seq c d)
  unfolding Rattle.rw_programs.specs.declared.prog.Prog.TheBlock.hidden-the_row-Prog-0 denote.Hole.Carrier.hidden
  no_loop_seq c d = refl

  pub no_loop_if : (arms : List Arm) → NoLoop (made.If arms)
  unfolding Rattle.rw_programs.specs.declared.prog.Prog.TheBlock.hidden-the_row-Arm-1 denote.Hole.Carrier.hidden
  no_loop_if arms = refl

  pub no_loop_block : (x : Name) (sort : Sort) (c : Prog) → NoLoop (made.Block x sort c)
  unfolding Rattle.rw_programs.specs.declared.prog.Prog.TheBlock.hidden-the_row-Prog-0 denote.Hole.Carrier.hidden
  no_loop_block x sort c = refl

  pub no_loop_con : (pins : List Pin) (c : Prog) → NoLoop (made.Con pins c)
  unfolding Rattle.rw_programs.specs.declared.prog.Prog.TheBlock.hidden-the_row-Prog-0 denote.Hole.Carrier.hidden
  no_loop_con pins c = refl

  pub no_loop_module : (o : Name) (c : Prog) → NoLoop (made.ModBlock o c)
  unfolding Rattle.rw_programs.specs.declared.prog.Prog.TheBlock.hidden-the_row-Prog-0 denote.Hole.Carrier.hidden
  no_loop_module o c = refl

pub if_ok : {A X : Type 0} (P Q : A → Type 0) (r : Result A X) → ((a : A) → P a → Q a) → IfOk r P → IfOk r Q
if_ok P Q (Ok a) f h = f a h
if_ok P Q (Err e) f h = tt
