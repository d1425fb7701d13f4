-- What a filled alternation or loop does, by its guards and the programs behind them.
use Rattle.std.proofs.Common.{ℕ, suc, ◌≤◌, List, [], ◌∷◌, inl, inr}
use Rattle.rw_terms.specs.declared.term.Term.{Term}
use Rattle.rw_terms.specs.declared.term.Formula.{Formula}
use Rattle.rw_terms.specs.Defined.{GuardDefined}
use Rattle.rw_terms.specs.Validity.{Each}
use Rattle.rw_programs.specs.declared.prog.Prog.{Prog, If'}
use Rattle.rw_programs.specs.declared.prog.Prog.TheVariants as prog
use Rattle.rw_programs.specs.State.{State, Holds}
use Rattle.rw_programs.specs.Tables.{Table}
use Rattle.rw_programs.specs.Meaning.{Bodies, bodies, bodies_before, ends_by, sure_by, arm_ends, arms_sure, NoGuard, GuardsDefined, Chain, IsBound}
use Rattle.rw_meaning.specs.Filling.{fill}
use Rattle.rw_loops.specs.Laws.{arms_from}
use Rattle.rw_loops.specs.Turns.{Turns}
use Rattle.rw_loops.proofs.GuardLemmas.{Denies}

module _ (E : Table) (calls before : Bodies) (ks : ℕ → Prog) where
  -- P of each guard and what is put for the kid behind it, where the kids are numbered from n on
  abbrev pub EachArm : (Formula → Prog → Type 0) → ℕ → List Formula → Type 0
  EachArm P n [] = Unit {0}
  EachArm P n (g ∷ gs) = P g (ks n) × EachArm P (suc n) gs

  -- what is said of the guards and arms of an alternation, or of a loop
  abbrev defined_in : Prog → State → Type 0
  defined_in (If' shape arms) s = GuardsDefined arms s
  defined_in _ s = ⊥

  abbrev none_in : Prog → State → Type 0
  none_in (If' shape arms) s = NoGuard E.library arms s
  none_in _ s = ⊥

  abbrev sure_in : Prog → State → Type 0
  sure_in (If' shape arms) s = arms_sure E calls before arms s
  sure_in _ s = ⊥

  abbrev ends_in : Prog → State → State → Type 0
  ends_in (If' shape arms) s t = arm_ends E calls before arms s t
  ends_in _ s t = ⊥

  abbrev filled : ℕ → List Formula → Prog
  filled n gs = fill ks (prog.If (arms_from n gs))

  defined : (gs : List Formula) (n : ℕ) (s : State) → Each (GuardDefined s.own s.own) gs → defined_in (filled n gs) s
  unfolding Rattle.rw_programs.specs.declared.prog.Prog.TheBlock.hidden-the_row-Arm-1 denote.Hole.Carrier.hidden
  defined [] n s h = tt
  defined (g ∷ gs) n s h = (h.0, defined gs (suc n) s h.1)

  none : (gs : List Formula) (n : ℕ) (s : State) → none_in (filled n gs) s → Each (Denies E.library s s) gs
  unfolding Rattle.rw_programs.specs.declared.prog.Prog.TheBlock.hidden-the_row-Arm-1 denote.Hole.Carrier.hidden
  none [] n s h = tt
  none (g ∷ gs) n s h = (h.0, none gs (suc n) s h.1)

  sure : (gs : List Formula) (n : ℕ) (s : State) → EachArm (λ g c. Holds E.library g s s → sure_by E calls before c s) n gs → sure_in (filled n gs) s
  unfolding Rattle.rw_programs.specs.declared.prog.Prog.TheBlock.hidden-the_row-Arm-1 denote.Hole.Carrier.hidden
  sure [] n s h = tt
  sure (g ∷ gs) n s h = (h.0, sure gs (suc n) s h.1)

  ends : (C : Type 0) (gs : List Formula) (n : ℕ) (s t : State) → EachArm (λ g c. Holds E.library g s s → ends_by E calls before c s t → C) n gs → ends_in (filled n gs) s t → C
  unfolding Rattle.rw_programs.specs.declared.prog.Prog.TheBlock.hidden-the_row-Arm-1 denote.Hole.Carrier.hidden
  ends C [] n s t h e = absurd e
  ends C (g ∷ gs) n s t h (inl e) = h.0 e.0 e.1
  ends C (g ∷ gs) n s t h (inr e) = ends C gs (suc n) s t h.1 e

  -- the alternation is sure where its guards are defined, not all of them fail, and each body is sure where its guard holds
  pub if_sure : (gs : List Formula) (s : State) → Each (GuardDefined s.own s.own) gs → ¬ (Each (Denies E.library s s) gs)
      → EachArm (λ g c. Holds E.library g s s → sure_by E calls before c s) 1 gs → sure_by E calls before (fill ks (prog.If (arms_from 1 gs))) s
  unfolding Rattle.rw_programs.specs.declared.prog.Prog.TheBlock.hidden-the_row-Arm-1 denote.Hole.Carrier.hidden
  if_sure gs s d some h = (defined gs 1 s d, (λ n. some (none gs 1 s n)), sure gs 1 s h)

  -- what each body's ends have where its guard holds, the ends of the alternation have
  pub if_ends : (C : Type 0) (gs : List Formula) (s t : State) → EachArm (λ g c. Holds E.library g s s → ends_by E calls before c s t → C) 1 gs
      → ends_by E calls before (fill ks (prog.If (arms_from 1 gs))) s t → C
  unfolding Rattle.rw_programs.specs.declared.prog.Prog.TheBlock.hidden-the_row-Arm-1 denote.Hole.Carrier.hidden
  if_ends C gs s t h e = ends C gs 1 s t h e

  -- a loop's arms are those of the alternation with the same guards
  abbrev pub Turn : List Formula → State → State → Type 0
  Turn gs s t = ends_in (filled 1 gs) s t

  -- what each body's ends have where its guard holds, a turn has
  pub turn_ends : (C : Type 0) (gs : List Formula) (s t : State) → EachArm (λ g c. Holds E.library g s s → ends_by E calls before c s t → C) 1 gs → Turn gs s t → C
  turn_ends C gs s t h e = ends C gs 1 s t h e

  -- the loop is sure where its turns are bounded, and at the end of each chain its guards are defined and each body is sure where its guard holds
  pub do_sure : (v : Term) (gs : List Formula) (s : State) → (n : ℕ) → ((k : ℕ) (t : State) → Chain (Turn gs) k s t → k ≤ n) → IsBound E.by_variant v s n
      → ((k : ℕ) (t : State) → Chain (Turn gs) k s t → Each (GuardDefined t.own t.own) gs × EachArm (λ g c. Holds E.library g t t → sure_by E calls before c t) 1 gs)
      → sure_by E calls before (fill ks (prog.Do v (arms_from 1 gs))) s
  unfolding Rattle.rw_programs.specs.declared.prog.Prog.TheBlock.hidden-the_row-Arm-1 denote.Hole.Carrier.hidden
  do_sure v gs s n bound is at = ((n, bound, is), λ k t e. let h = at k t e in (defined gs 1 t h.0, sure gs 1 t h.1))

  -- its ends are those of chains after which every guard fails
  pub do_ends : (v : Term) (gs : List Formula) (s t : State) → ends_by E calls before (fill ks (prog.Do v (arms_from 1 gs))) s t → ((n : ℕ) × Chain (Turn gs) n s t) × Each (Denies E.library t t) gs
  unfolding Rattle.rw_programs.specs.declared.prog.Prog.TheBlock.hidden-the_row-Arm-1 denote.Hole.Carrier.hidden
  do_ends v gs s t e = (e.0, none gs 1 t e.1)

-- the turns of a filled loop are those of its guards and bodies
pub loop_turns : (E : Table) (p k : ℕ) (ks : ℕ → Prog) (v : Term) (gs : List Formula) (n : ℕ) (s t : State) → Turns E p k (fill ks (prog.Do v (arms_from 1 gs))) n s t
    → Chain (Turn E (bodies E p k) (bodies_before E p) ks gs) n s t
unfolding Rattle.rw_programs.specs.declared.prog.Prog.TheBlock.hidden-the_row-Arm-1 denote.Hole.Carrier.hidden
loop_turns E p k ks v gs n s t e = e
