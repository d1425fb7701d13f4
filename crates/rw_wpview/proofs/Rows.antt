-- What the code makes is what the definitions match on.
use Rattle.std.proofs.Common.{◌≡◌, refl, ℕ, suc, ◌+◌, Bool, ◌||◌, List, [], ◌∷◌, ◌++◌, map, ap}
use Rattle.rw_terms.specs.declared.term.Term.{Term}
use Rattle.rw_terms.specs.declared.term.Formula.{Formula}
use Rattle.rw_terms.specs.declared.term.Sort.{Sort}
use Rattle.rw_terms.specs.declared.scope.Entry.{Entry}
use Rattle.rw_terms.specs.declared.sequent.Sequent.{Sequent}
use Rattle.rw_noted.specs.declared.noted.NotedArm.{NotedArm}
use Rattle.rw_noted.specs.declared.noted.Noted.{Noted, If', Do'}
use Rattle.rw_noted.specs.declared.noted.Noted.TheViews as made
use Rattle.rw_wpview.specs.Loops.{loops, guards_of, with_turn, with_local}
use Rattle.rw_wpview.specs.Before.{before_choice, for_all, before, choices}
use Rattle.rw_wpview.specs.Conditions.{turned, loop_rests, loop_turns, of_loops}
use Rattle.rw_wpview.specs.Misfits.{Part, Guard, Variant, Invariant, Local, of_some}
use Rattle.rw_wpview.specs.Arms.{arm_loops, guards, choice, turn_of, of_arms, of_some_arm}

pub seq_loops : (c d : Noted) → loops (made.Seq c d) ≡ loops c + loops d
unfolding Rattle.rw_noted.specs.declared.noted.Noted.TheBlock.hidden-the_row-Noted-0 denote.Hole.Carrier.hidden
seq_loops c d = refl

pub block_loops : (x : List ℕ) (sort : Sort) (c : Noted) → loops (made.Block x sort c) ≡ loops c
unfolding Rattle.rw_noted.specs.declared.noted.Noted.TheBlock.hidden-the_row-Noted-0 denote.Hole.Carrier.hidden
block_loops x sort c = refl

pub if_loops : (arms : List NotedArm) → loops (made.If arms) ≡ arm_loops arms
unfolding Rattle.rw_noted.specs.declared.noted.Noted.TheBlock.hidden-the_row-NotedArm-1 denote.Hole.Carrier.hidden
if_loops [] = refl
if_loops (a ∷ arms) = ap (λ n. loops a.body + n) (if_loops arms)

pub do_loops : (v : Term) (i : Formula) (arms : List NotedArm) → loops (made.Do v i arms) ≡ suc (arm_loops arms)
unfolding Rattle.rw_noted.specs.declared.noted.Noted.TheBlock.hidden-the_row-NotedArm-1 denote.Hole.Carrier.hidden
do_loops v i arms = ap suc (if_loops arms)

-- the guards of an alternation or a loop
abbrev row_guards : Noted → List Formula
row_guards (If' shape arms) = guards_of arms
row_guards _ = []

guards_are : (arms : List NotedArm) → row_guards (made.If arms) ≡ guards arms
unfolding Rattle.rw_noted.specs.declared.noted.Noted.TheBlock.hidden-the_row-NotedArm-1 denote.Hole.Carrier.hidden
guards_are [] = refl
guards_are (a ∷ arms) = ap (λ gs. a.guard ∷ gs) (guards_are arms)

module _ (scope : List Entry) (f : Formula) where
  pub seq_before : (c d : Noted) → before scope (made.Seq c d) f ≡ before scope c (before scope d f)
  unfolding Rattle.rw_noted.specs.declared.noted.Noted.TheBlock.hidden-the_row-Noted-0 denote.Hole.Carrier.hidden
  seq_before c d = refl

  pub block_before : (x : List ℕ) (sort : Sort) (c : Noted) → before scope (made.Block x sort c) f ≡ for_all x sort (before (with_local scope x sort) c f)
  unfolding Rattle.rw_noted.specs.declared.noted.Noted.TheBlock.hidden-the_row-Noted-0 denote.Hole.Carrier.hidden
  block_before x sort c = refl

  abbrev row_choices : Noted → List Formula
  row_choices (If' shape arms) = choices scope arms f
  row_choices _ = []

  choices_are : (arms : List NotedArm) → row_choices (made.If arms) ≡ map (choice scope f) arms
  unfolding Rattle.rw_noted.specs.declared.noted.Noted.TheBlock.hidden-the_row-NotedArm-1 denote.Hole.Carrier.hidden
  choices_are [] = refl
  choices_are (a ∷ arms) = ap (λ gs. choice scope f a ∷ gs) (choices_are arms)

  pub if_before : (arms : List NotedArm) → before scope (made.If arms) f ≡ before_choice scope (guards arms) (map (choice scope f) arms)
  unfolding Rattle.rw_noted.specs.declared.noted.Noted.TheBlock.hidden-the_row-NotedArm-1 denote.Hole.Carrier.hidden
  if_before arms = λ i. before_choice scope (guards_are arms i) (choices_are arms i)

  pub do_before : (v : Term) (i : Formula) (arms : List NotedArm) → before scope (made.Do v i arms) f ≡ i
  unfolding Rattle.rw_noted.specs.declared.noted.Noted.TheBlock.hidden-the_row-NotedArm-1 denote.Hole.Carrier.hidden
  do_before v i arms = refl

module _ (scope : List Entry) (n : ℕ) (f : Formula) where
  pub seq_conditions : (c d : Noted) → of_loops scope n (made.Seq c d) f ≡ of_loops scope n c (before scope d f) ++ of_loops scope (n + loops c) d f
  unfolding Rattle.rw_noted.specs.declared.noted.Noted.TheBlock.hidden-the_row-Noted-0 denote.Hole.Carrier.hidden
  seq_conditions c d = refl

  pub block_conditions : (x : List ℕ) (sort : Sort) (c : Noted) → of_loops scope n (made.Block x sort c) f ≡ of_loops (with_local scope x sort) n c f
  unfolding Rattle.rw_noted.specs.declared.noted.Noted.TheBlock.hidden-the_row-Noted-0 denote.Hole.Carrier.hidden
  block_conditions x sort c = refl

pub if_conditions : (scope : List Entry) (n : ℕ) (f : Formula) (arms : List NotedArm) → of_loops scope n (made.If arms) f ≡ of_arms scope n arms f
unfolding Rattle.rw_noted.specs.declared.noted.Noted.TheBlock.hidden-the_row-NotedArm-1 denote.Hole.Carrier.hidden
if_conditions scope n f [] = refl
if_conditions scope n f (a ∷ arms) = ap (λ qs. of_loops scope n a.body f ++ qs) (if_conditions scope (n + loops a.body) f arms)

module _ (scope : List Entry) (n : ℕ) (v : Term) (i : Formula) where
  abbrev row_turns : Noted → List Sequent
  row_turns (If' shape arms) = loop_turns (with_turn scope n) n v i arms
  row_turns _ = []

  turns_are : (arms : List NotedArm) → row_turns (made.If arms) ≡ map (turn_of (with_turn scope n) n v i) arms
  unfolding Rattle.rw_noted.specs.declared.noted.Noted.TheBlock.hidden-the_row-NotedArm-1 denote.Hole.Carrier.hidden
  turns_are [] = refl
  turns_are (a ∷ arms) = ap (λ qs. turn_of (with_turn scope n) n v i a ∷ qs) (turns_are arms)

  pub do_conditions : (f : Formula) (arms : List NotedArm) → of_loops scope n (made.Do v i arms) f
      ≡ loop_rests scope i (guards arms) f ++ (map (turn_of (with_turn scope n) n v i) arms ++ of_arms (with_turn scope n) (suc n) arms (turned n v i))
  unfolding Rattle.rw_noted.specs.declared.noted.Noted.TheBlock.hidden-the_row-NotedArm-1 denote.Hole.Carrier.hidden
  do_conditions f arms = λ j. loop_rests scope i (guards_are arms j) f ++ (turns_are arms j ++ if_conditions (with_turn scope n) (suc n) (turned n v i) arms j)

module _ (is : List Entry → Part → Bool) where
  pub seq_some : (scope : List Entry) (n : ℕ) (c d : Noted) → of_some is scope n (made.Seq c d) ≡ (of_some is scope n c || of_some is scope (n + loops c) d)
  unfolding Rattle.rw_noted.specs.declared.noted.Noted.TheBlock.hidden-the_row-Noted-0 denote.Hole.Carrier.hidden
  seq_some scope n c d = refl

  pub block_some : (scope : List Entry) (n : ℕ) (x : List ℕ) (sort : Sort) (c : Noted)
      → of_some is scope n (made.Block x sort c) ≡ (is scope (Local x sort) || of_some is (with_local scope x sort) n c)
  unfolding Rattle.rw_noted.specs.declared.noted.Noted.TheBlock.hidden-the_row-Noted-0 denote.Hole.Carrier.hidden
  block_some scope n x sort c = refl

  pub if_some : (scope : List Entry) (n : ℕ) (arms : List NotedArm) → of_some is scope n (made.If arms) ≡ of_some_arm is scope n arms
  unfolding Rattle.rw_noted.specs.declared.noted.Noted.TheBlock.hidden-the_row-NotedArm-1 denote.Hole.Carrier.hidden
  if_some scope n [] = refl
  if_some scope n (a ∷ arms) = ap (λ b. is scope (Guard a.guard) || (of_some is scope n a.body || b)) (if_some scope (n + loops a.body) arms)

  pub do_some : (scope : List Entry) (n : ℕ) (v : Term) (i : Formula) (arms : List NotedArm)
      → of_some is scope n (made.Do v i arms) ≡ (is scope (Variant v) || (is scope (Invariant i) || of_some_arm is (with_turn scope n) (suc n) arms))
  unfolding Rattle.rw_noted.specs.declared.noted.Noted.TheBlock.hidden-the_row-NotedArm-1 denote.Hole.Carrier.hidden
  do_some scope n v i arms = ap (λ b. is scope (Variant v) || (is scope (Invariant i) || b)) (if_some (with_turn scope n) (suc n) arms)
