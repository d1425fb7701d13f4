-- The steps of programs as the code makes them.
use Rattle.std.proofs.Common.{◌≡◌, refl, ap, ℕ, suc, ◌+◌, List, [], ◌∷◌, Some}
use Rattle.std.specs.Prelude.{Ok}
use Rattle.rw_terms.specs.declared.term.Term.{Term}
use Rattle.rw_terms.specs.declared.term.Sort.{Sort}
use Rattle.rw_programs.specs.declared.prog.Arm.{Arm}
use Rattle.rw_programs.specs.declared.prog.Code.{Code}
use Rattle.rw_programs.specs.declared.prog.Prog.{Prog, If', Do'}
use Rattle.rw_programs.specs.declared.prog.Prog.TheViews as made
use Rattle.rw_programs.specs.State.{Name, State, put, with_own}
use Rattle.rw_programs.specs.Tables.{find_module}
use Rattle.rw_evaluation.specs.Evaluation.{tested}
use Rattle.rw_numbering.specs.Loops.{loops, first_in_start}
use Rattle.rw_machine.specs.Machine.{Pick, None_true, pick_by, pick, chosen, turned, some_of, Entered, entered, Command, Run, Leave, Begin, Close, config, step_run, step_again}
use Rattle.rw_frames.specs.Bodies.{zero_of, started}
use Rattle.rw_machine.specs.Kept.{pick_of}

module _ (code : Code) (n : ℕ) (cs : List Command) (s : State) (ss : List State) (done : List Entered) where
  pub sequence_step : (c d : Prog) → step_run code n (made.Seq c d) cs s ss done ≡ Ok (config (Run n c ∷ Run (n + loops c) d ∷ cs) (s ∷ ss) done)
  unfolding Rattle.rw_programs.specs.declared.prog.Prog.TheBlock.hidden-the_row-Prog-0 denote.Hole.Carrier.hidden
  sequence_step c d = refl

  pub block_step : (x : Name) (sort : Sort) (c : Prog)
      → step_run code n (made.Block x sort c) cs s ss done ≡ Ok (config (Run n c ∷ Leave x ∷ cs) (with_own s (put x (Some (zero_of sort)) s.own) ∷ ss) done)
  unfolding Rattle.rw_programs.specs.declared.prog.Prog.TheBlock.hidden-the_row-Prog-0 denote.Hole.Carrier.hidden
  block_step x sort c = refl

  pub module_step : (m : Name) (c : Prog)
      → step_run code n (made.ModBlock m c) cs s ss done
      ≡ some_of (find_module m code.modules) (λ d. Ok (config (Run (first_in_start code m) d.start ∷ Begin m n c ∷ Close m ∷ cs) (started d ∷ s ∷ ss) done))
  unfolding Rattle.rw_programs.specs.declared.prog.Prog.TheBlock.hidden-the_row-Prog-0 denote.Hole.Carrier.hidden
  module_step m c = refl

-- what is picked in an alternation or a loop
abbrev picked_in : ℕ → Prog → State → Pick
picked_in n (If' shape arms) s = pick n arms s
picked_in n (Do' v shape arms) s = pick n arms s
picked_in n c s = None_true

picked_if : (n : ℕ) (arms : List Arm) (s : State) → picked_in n (made.If arms) s ≡ pick_of n arms s.own
unfolding Rattle.rw_programs.specs.declared.prog.Prog.TheBlock.hidden-the_row-Arm-1 denote.Hole.Carrier.hidden
picked_if n [] s = refl
picked_if n (a ∷ arms) s = ap (pick_by (tested s.own a.guard) n a.body) (picked_if (n + loops a.body) arms s)

picked_do : (n : ℕ) (v : Term) (arms : List Arm) (s : State) → picked_in n (made.Do v arms) s ≡ pick_of n arms s.own
unfolding Rattle.rw_programs.specs.declared.prog.Prog.TheBlock.hidden-the_row-Arm-1 denote.Hole.Carrier.hidden
picked_do n v arms s = picked_if n arms s

module _ (code : Code) (cs : List Command) (s : State) (ss : List State) (done : List Entered) where
  pub if_step : (n : ℕ) (arms : List Arm) → step_run code n (made.If arms) cs s ss done ≡ chosen (pick_of n arms s.own) cs (s ∷ ss) done
  unfolding Rattle.rw_programs.specs.declared.prog.Prog.TheBlock.hidden-the_row-Arm-1 denote.Hole.Carrier.hidden
  if_step n arms = ap (λ y. chosen y cs (s ∷ ss) done) (picked_if n arms s)

  pub do_step : (n : ℕ) (v : Term) (arms : List Arm)
      → step_run code n (made.Do v arms) cs s ss done ≡ turned (pick_of (suc n) arms s.own) (entered n v s) (made.Do v arms) cs (s ∷ ss) done
  unfolding Rattle.rw_programs.specs.declared.prog.Prog.TheBlock.hidden-the_row-Arm-1 denote.Hole.Carrier.hidden
  do_step n v arms = ap (λ y. turned y (entered n v s) (made.Do v arms) cs (s ∷ ss) done) (picked_do (suc n) v arms s)

  pub again_step : (e : Entered) (v : Term) (arms : List Arm)
      → step_again code e (made.Do v arms) cs s ss done ≡ turned (pick_of (suc e.loop) arms s.own) e (made.Do v arms) cs (s ∷ ss) done
  unfolding Rattle.rw_programs.specs.declared.prog.Prog.TheBlock.hidden-the_row-Arm-1 denote.Hole.Carrier.hidden
  again_step e v arms = ap (λ y. turned y e (made.Do v arms) cs (s ∷ ss) done) (picked_do (suc e.loop) v arms s)
