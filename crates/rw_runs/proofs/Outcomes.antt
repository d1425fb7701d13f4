-- The outcome of a run, by its steps.
use Rattle.std.proofs.Common.{◌≡◌, refl, sym, ap, subst, ◌∙◌, ℕ, zero, suc, ◌+◌, ◌≤◌, true, List, [], ◌∷◌, arith}
use Rattle.std.specs.Prelude.{Ok, Err}
use Rattle.rw_programs.specs.declared.prog.Code.{Code}
use Rattle.rw_programs.specs.State.{State}
use Rattle.rw_evaluation.specs.declared.stop.Stop.{Stop}
use Rattle.rw_evaluation.specs.declared.stop.Stop.TheVariants.{TooWide}
use Rattle.rw_evaluation.specs.Evaluation.{one}
use Rattle.rw_machine.specs.Machine.{Entered, Command, Config, config, Stepped, step}
use Rattle.rw_machine.specs.Outcome.{steps, Outcome, Ended, Halted, Limited, if_over, go_on, outcome_in}
use Rattle.rw_runs.proofs.Landing.{Lands}
use Rattle.rw_runs.specs.Ends.{IsOver}
use Rattle.rw_runs.proofs.Runs.{Comes, steps_add}

-- what an outcome says of the steps from c
abbrev pub Says : Code → ℕ → Config → Outcome → Type 0
Says code done c (Ended d k) = (j : ℕ) × (k ≡ done + j) × (steps code j c ≡ Ok d) × (d.commands ≡ [])
Says code done c (Halted w k) = (j : ℕ) × (steps code (suc j) c ≡ Err w)
Says code done c Limited = Unit {0}

module _ (code : Code) where
  says_over : (left done : ℕ) (c : Config) (o : Outcome) → Says code done c o → Says code done c (if_over c.commands (Ended c done) o)
  says_over left done c o h = go c.commands refl
    where
      go : (cs : List Command) → c.commands ≡ cs → Says code done c (if_over cs (Ended c done) o)
      go [] e = (0, omega arith, refl, e)
      go (x ∷ cs) e = h

  says_next : (done : ℕ) (c d : Config) (o : Outcome) → step code c ≡ Ok d → Says code (suc done) d o → Says code done c o
  says_next done c d (Ended e k) i h = let l = h.1 in (suc h.0, omega (arith, l), ap (λ x. one x (steps code h.0)) i ∙ h.2, h.3)
  says_next done c d (Halted w k) i h = (suc h.0, ap (λ x. one x (steps code (suc h.0))) i ∙ h.1)
  says_next done c d Limited i h = tt

  pub says : (left done : ℕ) (c : Config) → Says code done c (outcome_in code left done c)
  says zero done c = says_over zero done c Limited tt
  says (suc left) done c = says_over (suc left) done c _ (go (step code c) refl (λ d. says left (suc done) d))
    where
      go : (x : Stepped) → step code c ≡ x → ((d : Config) → Says code (suc done) d (outcome_in code left (suc done) d)) → Says code done c (go_on x done (outcome_in code left (suc done)))
      go (Ok d) e more = says_next done c d (outcome_in code left (suc done) d) e (more d)
      go (Err w) e more = (0, ap (λ x. one x (steps code 0)) e)

  stays : (n : ℕ) (ss : List State) (over : List Entered) → steps code n (config [] ss over) ≡ Ok (config [] ss over)
  stays zero ss over = refl
  stays (suc n) ss over = stays n ss over

  -- a run that comes to an end stops only by width
  pub only_wide : (c : Config) (Q : State → Type 0) → Comes true code c [] [] Q → (m : ℕ) (w : Stop) → steps code m c ≡ Err w → w ≡ TooWide
  only_wide c Q a m w e = go (steps code a.0 c) refl a.1
    where
      sum : steps code (a.0 + m) c ≡ Err w
      sum = let o : a.0 + m ≡ m + a.0 = omega arith in ap (λ k. steps code k c) o ∙ (steps_add true code m a.0 c ∙ ap (λ x. one x (steps code a.0)) e)

      go : (x : Stepped) → steps code a.0 c ≡ x → Lands x [] [] Q → w ≡ TooWide
      go (Ok d) i l =
          let still : steps code (a.0 + m) c ≡ Ok (config [] (l.0 ∷ []) l.1) =
          steps_add true code a.0 m c ∙ (ap (λ x. one x (steps code m)) i ∙ (ap (steps code m) l.3 ∙ stays m (l.0 ∷ []) l.1)) in
          let no : Err w ≡ Ok (config [] (l.0 ∷ []) l.1) = sym sum ∙ still in
          absurd (cc)
      go (Err v) i l =
          let same : Err w ≡ steps code (a.0 + m) c = sym sum in
          let wide : steps code (a.0 + m) c ≡ Err v = steps_add true code a.0 m c ∙ ap (λ x. one x (steps code m)) i in
          let both : Err w ≡ Err v = same ∙ wide in
          let same_stop : w ≡ v = cc in
          same_stop ∙ l

  -- the outcome where n steps come to the end, or to a number that is too wide
  within : (n left done total : ℕ) (c : Config) (Q : State → Type 0) → n ≤ left → done + n ≡ total → Lands (steps code n c) [] [] Q → IsOver (outcome_in code left done c) total
  within zero left done total c Q le i l = subst (λ c. IsOver (outcome_in code left done c) total) (sym l.3) (ended left)
    where
      ended : (left : ℕ) → IsOver (outcome_in code left done (config [] (l.0 ∷ []) l.1)) total
      ended zero = omega (arith, i)
      ended (suc left) = omega (arith, i)
  within (suc n) zero done total c Q le i l = absurd (omega (arith, le))
  within (suc n) (suc left) done total c Q le i l = over c.commands refl (λ d k. within n left (suc done) total d Q (omega (arith, le)) (omega (arith, i)) k)
    where
      next : (x : Stepped) → step code c ≡ x → Lands (one x (steps code n)) [] [] Q → ((d : Config) → Lands (steps code n d) [] [] Q → IsOver (outcome_in code left (suc done) d) total)
          → IsOver (go_on x done (outcome_in code left (suc done))) total
      next (Ok d) e k more = more d k
      next (Err w) e k more = (k, omega (arith, i))

      over : (cs : List Command) → c.commands ≡ cs → ((d : Config) → Lands (steps code n d) [] [] Q → IsOver (outcome_in code left (suc done) d) total)
          → IsOver (if_over cs (Ended c done) (go_on (step code c) done (outcome_in code left (suc done)))) total
      over [] e more = omega (arith, i)
      over (x ∷ cs) e more = next (step code c) refl l more

  pub comes_over : (c : Config) (Q : State → Type 0) → Comes true code c [] [] Q → (n : ℕ) × ((limit : ℕ) → n ≤ limit → IsOver (outcome_in code limit 0 c) n)
  comes_over c Q a = (a.0, λ limit le. within a.0 limit 0 a.0 c Q le (omega arith) a.1)
