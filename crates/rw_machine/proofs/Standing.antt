-- Where a run stands: the machine of the code is what is kept of the configuration that the run has come to.
use Rattle.std.proofs.Common.{◌≡◌, refl, sym, ap, subst, ◌∙◌, ℕ, zero, suc, ◌+◌, ◌-◌, ◌<◌, ◌≤◌, Bool, true, false, ◌||◌, List, [], ◌∷◌, map, length, reverse, replicate, Option, Some, None, slice_get, arith}
use Rattle.std.specs.Prelude.{nat_lt, is_some, bytes_eq, Result, Ok, Err}
use Rattle.std.proofs.lemmas.Option.{slice_get_within}
use Rattle.std.proofs.lemmas.List.{length-map, length-reverse}
use Rattle.rw_terms.specs.State.{Value, State as Map, given}
use Rattle.rw_programs.specs.declared.prog.Param.{Param}
use Rattle.rw_programs.specs.declared.prog.Code.{Code}
use Rattle.rw_programs.specs.declared.prog.Prog.{Prog, Spec, Kid, Skip, Assign, If', Do', Call, OpCall}
use Rattle.rw_programs.specs.Made.{Seq, Block, Con, ModBlock}
use Rattle.rw_programs.specs.State.{Name, State, is_in, names_of, read_all}
use Rattle.rw_meaning.proofs.Tests.{bytes_same}
use Rattle.rw_evaluation.specs.declared.stop.Stop.{Stop}
use Rattle.rw_evaluation.specs.declared.stop.Stop.TheVariants.{TooWide, Aborted}
use Rattle.rw_evaluation.specs.declared.value.Value.{Value as RunValue}
use Rattle.rw_evaluation.specs.Evaluation.{one}
use Rattle.rw_machine.specs.declared.machine.Machine.{Machine}
use Rattle.rw_machine.specs.declared.outcome.LoopCount.{LoopCount}
use Rattle.rw_machine.specs.declared.outcome.RunEnd.{RunEnd}
use Rattle.rw_machine.specs.declared.outcome.RunEnd.TheVariants as run_end
use Rattle.rw_machine.specs.Machine.{Command, Run, Again, Leave, Return, Give_back, Begin, Close, Config, Stepped, step, step_by}
use Rattle.rw_machine.specs.Outcome.{steps, trace, first, Outcome, Ended, Halted, Limited, if_over, go_on, outcome_in, outcome, start_of, no_count, count_of, Counts, Tells}
use Rattle.rw_numbering.specs.Loops.{all_loops}
use Rattle.rw_machine.specs.CodeFits.{CodeFits, StartFits}
use Rattle.rw_machine.specs.Counts.{entry_in, doing, count_in, Few, RoomFor}
use Rattle.rw_machine.specs.Kept.{bare, shown, commands_of, stack_of, bare_step, kept_step, FirstFits, values_in, ToldEnd, told_halt}
use Rattle.rw_machine.proofs.Bare.{step_bare}
use Rattle.rw_machine.proofs.Counted.{counts_are_few}
use Rattle.rw_machine.proofs.Going.{steps_may_go_on}
use Rattle.rw_machine.proofs.LeavingFits.{ends_have_values}
use Rattle.rw_machine.proofs.Tallying.{count_length, count_get, counts_after}

pub record Stands (code : Code) (s : State) (limit done : ℕ) (m : Machine) (counts : List LoopCount) : Type 0 where
  pub at : Config
  pub ran : steps code done (first code s) ≡ Ok at
  pub rest : outcome_in code (limit - done) done at ≡ outcome code s limit
  pub commands : map bare at.commands ≡ commands_of m
  pub stack : at.stack ≡ stack_of m
  pub counted : Counts code (trace at) counts

-- what is kept of commands says what the next step does with loops, and how many they are
bare_length : (cs : List Command) → length (map bare cs) ≡ length cs
bare_length cs = length-map cs bare

bare_doing : (cs : List Command) → doing (map bare cs) ≡ doing cs
bare_doing [] = refl
bare_doing (Run n c ∷ cs) = refl
bare_doing (Again e c ∷ cs) = refl
bare_doing (Leave x ∷ cs) = refl
bare_doing (Return f names ∷ cs) = refl
bare_doing (Give_back m o names ∷ cs) = refl
bare_doing (Begin m n c ∷ cs) = refl
bare_doing (Close m ∷ cs) = refl

pub commands_length : (m : Machine) → length (commands_of m) ≡ length m.commands
commands_length m = length-map (reverse m.commands) shown ∙ length-reverse m.commands

entry_room : (n : ℕ) (c : Prog) → RoomFor (entry_in n c)
entry_room n (Spec w) = tt
entry_room n (Kid j) = tt
entry_room n Skip = tt
entry_room n (Assign names terms) = tt
entry_room n (Seq c d) = tt
entry_room n (If' shape arms) = tt
entry_room n (Do' v shape arms) = tt
entry_room n (Block x sort c) = tt
entry_room n (Con pins c) = tt
entry_room n (Call f args names) = tt
entry_room n (OpCall m o args names) = tt
entry_room n (ModBlock m c) = tt

-- where a step may be asked for, its turn can be counted
pub room_for : (code : Code) (cs : List Command) → FirstFits code cs → RoomFor (doing cs)
room_for code [] h = tt
room_for code (Run n c ∷ cs) h = entry_room n c
room_for code (Again e c ∷ cs) h = h.1
room_for code (Leave x ∷ cs) h = tt
room_for code (Return f names ∷ cs) h = tt
room_for code (Give_back m o names ∷ cs) h = tt
room_for code (Begin m n c ∷ cs) h = entry_room n c
room_for code (Close m ∷ cs) h = tt

one_more_step : (code : Code) (n : ℕ) (c d : Config) (x : Stepped) → steps code n c ≡ Ok d → step code d ≡ x → steps code (suc n) c ≡ x
one_more_step code zero c d x e i = go (step code c) refl
  where
    same : c ≡ d
    same = cc

    go : (y : Stepped) → step code c ≡ y → one y (steps code 0) ≡ x
    go (Ok b) j = sym j ∙ ap (step code) same ∙ i
    go (Err w) j = sym j ∙ ap (step code) same ∙ i
one_more_step code (suc n) c d x e i = go (step code c) e (λ b. one_more_step code n b d x)
  where
    go : (y : Stepped) → one y (steps code n) ≡ Ok d → ((b : Config) → steps code n b ≡ Ok d → step code d ≡ x → steps code (suc n) b ≡ x) → one y (steps code (suc n)) ≡ x
    go (Ok b) j more = more b j i
    go (Err w) j more = absurd (cc)

replicate_length : {A : Type 0} (n : ℕ) (a : A) → length (replicate n a) ≡ n
replicate_length zero a = refl
replicate_length (suc n) a = ap suc (replicate_length n a)

replicate_get : {A : Type 0} (n i : ℕ) (a : A) → i < n → slice_get (replicate n a) i ≡ Some a
replicate_get zero i a l = absurd (omega (arith, l))
replicate_get (suc n) zero a l = refl
replicate_get (suc n) (suc i) a l = replicate_get n i a (omega (arith, l))

abbrev held_ok : List Command × List State → Result (List Command × List State) Stop
held_ok p = Ok p

held_same : (p q : List Command × List State) → held_ok p ≡ held_ok q → p ≡ q
held_same p q e = cc

-- whether commands are left
pub none_left : (m : Machine) → m.commands ≡ [] → commands_of m ≡ []
none_left m e = ap (λ l. map shown (reverse l)) e

pub some_left : (m : Machine) → ¬ (m.commands ≡ []) → ¬ (commands_of m ≡ [])
some_left m n e = n (none m.commands (sym (commands_length m) ∙ ap length e))
  where
    none : {A : Type 0} (l : List A) → length l ≡ 0 → l ≡ []
    none [] i = refl
    none (x ∷ l) i = absurd (omega (arith, i))

-- before the first step
pub begin_stands : (code : Code) (s : State) (limit : ℕ) (m : Machine) (counts : List LoopCount) (n : ℕ) → commands_of m ≡ Run 0 code.main ∷ [] → stack_of m ≡ s ∷ [] → counts ≡ replicate n no_count → n ≡ all_loops code
    → Stands code s limit 0 m counts
begin_stands code s limit m counts n ec es el en = record {
  at = first code s;
  ran = refl;
  rest = let i : limit - 0 ≡ limit = omega arith in ap (λ k. outcome_in code k 0 (first code s)) i;
  commands = sym ec;
  stack = sym es;
  counted = subst (Counts code []) (sym el) (replicate_length n no_count ∙ en, λ i l. replicate_get n i no_count (subst (λ k. i < k) (sym en) l));
}

module _ (code : Code) (s : State) (limit done : ℕ) (m : Machine) (counts : List LoopCount) (h : Stands code s limit done m counts) where
  -- a step may be asked for, and can be counted
  pub may_step : done + 1 ≤ 4294967295 → FirstFits code (commands_of m)
  may_step l = subst (FirstFits code) h.commands (steps_may_go_on code s done h.at h.ran l)

  pub may_count : done + 1 ≤ 4294967295 → (i : ℕ) (l : LoopCount) → slice_get counts i ≡ Some l → Few l
  may_count le i l e =
      let within : i < all_loops code = subst (λ k. i < k) h.counted.0 (slice_get_within counts i l e) in
      let same : count_of i (trace h.at) ≡ l = let j = h.counted.1 i within in cc in
      let f = counts_are_few code s done h.at h.ran i in
      let a = f.0 in let b = f.1 in
      subst Few same (omega (arith, a, le), omega (arith, b, le))

  steps_as : bare_step (step code h.at) ≡ bare_step (step_by code (commands_of m) (stack_of m) [])
  steps_as = step_bare code h.at.commands h.at.stack h.at.over ∙ ap (λ cs. bare_step (step_by code cs h.at.stack [])) h.commands ∙ ap (λ ss. bare_step (step_by code (commands_of m) ss [])) h.stack

  -- some command is left
  going : ¬ (commands_of m ≡ []) → (a b : Outcome) → if_over h.at.commands a b ≡ b
  going n a b = go h.at.commands refl
    where
      go : (cs : List Command) → h.at.commands ≡ cs → if_over cs a b ≡ b
      go [] e = absurd (n (sym h.commands ∙ ap (map bare) e))
      go (c ∷ cs) e = refl

  next_rest : ¬ (commands_of m ≡ []) → done < limit → outcome_in code (limit - done) done h.at ≡ go_on (step code h.at) done (outcome_in code (limit - (suc done)) (suc done))
  next_rest n l =
      let i : limit - done ≡ suc (limit - (suc done)) = omega (arith, l) in
      ap (λ k. outcome_in code k done h.at) i ∙ going n (Ended h.at done) (go_on (step code h.at) done (outcome_in code (limit - (suc done)) (suc done)))

  -- a step that is made
  pub next_stands : ¬ (commands_of m ≡ []) → done < limit → (m' : Machine) → kept_step (Ok tt) m' ≡ bare_step (step_by code (commands_of m) (stack_of m) []) → (counts' : List LoopCount)
      → counts' ≡ count_in (doing (commands_of m)) (nat_lt (length (commands_of m)) (length (commands_of m'))) counts → Stands code s limit (done + 1) m' counts'
  next_stands n l m' e counts' ec = let k : suc done ≡ done + 1 = omega arith in subst (λ k. Stands code s limit k m' counts') k (go (step code h.at) refl (steps_as ∙ sym e))
    where
      go : (x : Stepped) → step code h.at ≡ x → bare_step x ≡ Ok (commands_of m', stack_of m') → Stands code s limit (suc done) m' counts'
      go (Err w) i j = absurd (cc)
      go (Ok d) i j = record {
        at = d;
        ran = one_more_step code done (first code s) h.at (Ok d) h.ran i;
        rest = sym (ap (λ x. go_on x done (outcome_in code (limit - (suc done)) (suc done))) i) ∙ sym (next_rest n l) ∙ h.rest;
        commands = kept.0;
        stack = kept.1;
        counted = subst (Counts code (trace d)) (sym ec') (count_length _ _ counts ∙ h.counted.0, λ k within. count_get _ _ counts k _ (h.counted.1 k within) ∙ ap Some (sym (counts_after code h.at d i k)));
      }
        where
          kept : (map bare d.commands ≡ commands_of m') × (d.stack ≡ stack_of m')
          kept = let p = held_same (map bare d.commands, d.stack) (commands_of m', stack_of m') j in (ap (λ p. p.0) p, ap (λ p. p.1) p)

          ec' : counts' ≡ count_in (doing h.at.commands) (nat_lt (length h.at.commands) (length d.commands)) counts
          ec' =
              let a : doing (commands_of m) ≡ doing h.at.commands = ap doing (sym h.commands) ∙ bare_doing h.at.commands in
              let b : length (commands_of m) ≡ length h.at.commands = ap length (sym h.commands) ∙ bare_length h.at.commands in
              let c : length (commands_of m') ≡ length d.commands = ap length (sym kept.0) ∙ bare_length d.commands in
              ec ∙ ap (λ a. count_in a (nat_lt (length (commands_of m)) (length (commands_of m'))) counts) a
              ∙ ap (λ b. count_in (doing h.at.commands) (nat_lt b (length (commands_of m'))) counts) b
              ∙ ap (λ c. count_in (doing h.at.commands) (nat_lt (length h.at.commands) c) counts) c

  -- a step that is not made
  pub halts : ¬ (commands_of m ≡ []) → done < limit → (w : Stop) (m' : Machine) → kept_step (Err w) m' ≡ bare_step (step_by code (commands_of m) (stack_of m) []) → outcome code s limit ≡ Halted w done
  halts n l w m' e = sym h.rest ∙ next_rest n l ∙ go (step code h.at) (steps_as ∙ sym e)
    where
      go : (x : Stepped) → bare_step x ≡ Err w → go_on x done (outcome_in code (limit - (suc done)) (suc done)) ≡ Halted w done
      go (Err v) j = let i : v ≡ w = cc in ap (λ v. Halted v done) i
      go (Ok d) j = absurd (cc)

  -- no command is left
  over_at : commands_of m ≡ [] → h.at.commands ≡ []
  over_at e = go h.at.commands refl
    where
      go : (cs : List Command) → h.at.commands ≡ cs → h.at.commands ≡ []
      go [] i = i
      go (c ∷ cs) i = let j : map bare h.at.commands ≡ [] = h.commands ∙ e in let k : bare c ∷ map bare cs ≡ [] = sym (ap (map bare) i) ∙ j in absurd (cc)

  ends : commands_of m ≡ [] → outcome code s limit ≡ Ended h.at done
  ends e = sym h.rest ∙ go (limit - done)
    where
      go : (left : ℕ) → outcome_in code left done h.at ≡ Ended h.at done
      go zero = ap (λ cs. if_over cs (Ended h.at done) Limited) (over_at e)
      go (suc left) = ap (λ cs. if_over cs (Ended h.at done) (go_on (step code h.at) done (outcome_in code left (suc done)))) (over_at e)

  pub limited : ¬ (commands_of m ≡ []) → done ≡ limit → outcome code s limit ≡ Limited
  limited n e = let i : limit - done ≡ 0 = omega (arith, e) in sym h.rest ∙ ap (λ k. outcome_in code k done h.at) i ∙ going n (Ended h.at done) Limited

-- values that are there are those that are read
read_is : (ps : List Param) (m : Map) → ((x : Name) → is_in x (names_of ps) ≡ true → is_some (m x) ≡ true) → values_in m ps ≡ read_all (names_of ps) m
read_is [] m h = refl
read_is (p ∷ ps) m h = go (m p.name) refl (h p.name own) ∙ ap (λ vs. m p.name ∷ vs) (read_is ps m (λ x i. h x (more x i)))
  where
    own : is_in p.name (names_of (p ∷ ps)) ≡ true
    own = subst (λ b. (b || is_in p.name (names_of ps)) ≡ true) (sym (bytes_same p.name p.name refl)) refl

    more : (x : Name) → is_in x (names_of ps) ≡ true → is_in x (names_of (p ∷ ps)) ≡ true
    more x i = or (bytes_eq x p.name) i
      where
        or : (b : Bool) → is_in x (names_of ps) ≡ true → (b || is_in x (names_of ps)) ≡ true
        or true i = refl
        or false i = i

    go : (o : Option Value) → m p.name ≡ o → is_some o ≡ true → values_in m (p ∷ ps) ≡ m p.name ∷ values_in m ps
    go None e i = absurd (cc)
    go (Some v) e i = ap (λ o. Some (given o) ∷ values_in m ps) e ∙ ap (λ o. o ∷ values_in m ps) (sym e)

-- the end of a run is told
pub end_told : (code : Code) (globals : List Param) → CodeFits code globals → (vs : List RunValue) → StartFits globals vs → (limit done : ℕ) (m : Machine) (counts : List LoopCount)
    → Stands code (start_of globals vs) limit done m counts → commands_of m ≡ [] → (r : RunEnd) → ToldEnd globals (stack_of m) done counts r → Tells code globals limit (outcome code (start_of globals vs) limit) r
end_told code globals fits vs start limit done m counts h e r told = subst (λ o. Tells code globals limit o r) (sym (ends code (start_of globals vs) limit done m counts h e)) (go r told)
  where
    last : (s : State) × (h.at.stack ≡ s ∷ []) × ((x : Name) → is_in x (names_of globals) ≡ true → is_some (s.own x) ≡ true)
    last = ends_have_values code globals fits vs start done h.at h.ran (over_at code (start_of globals vs) limit done m counts h e)

    go : (r : RunEnd) → ToldEnd globals (stack_of m) done counts r → Tells code globals limit (Ended h.at done) r
    go (run_end.Ended state n loops) t =
        (last.0, last.1, t.0 last.0 [] (sym h.stack ∙ last.1) ∙ read_is globals last.0.own last.2, t.1, subst (Counts code (trace h.at)) (sym t.2) h.counted)
    go (run_end.TooWide n) t = absurd t
    go (run_end.StepLimit n) t = absurd t
    go (run_end.Aborted cause n) t = absurd t

-- a step that is not made is told
pub halt_told : (code : Code) (globals : List Param) (limit : ℕ) (w : Stop) (k : ℕ) → Tells code globals limit (Halted w k) (told_halt w k)
halt_told code globals limit TooWide k = refl
halt_told code globals limit (Aborted cause) k = (refl, refl)
