-- An arm is read up to a later place.
use Rattle.std.proofs.Common.{◌≡◌, ℕ, ◌<◌, ◌≤◌, List, [], ◌∷◌, length, drop, sym, ap, ◌∙◌, arith, length-drop, true≢false, ◌⊎◌, inl, inr}
use Rattle.std.proofs.lemmas.Bool.{cases_lt}
use Rattle.rw_programs.specs.declared.prog.Arm.{Arm}
use Rattle.rw_tokens.specs.Tokens.{Token, LeadsTo}
use Rattle.rw_tokens.proofs.Shorter.{shortens}
use Rattle.rw_forms.specs.Forms.{Given, an_arm, Form, gives}
use Rattle.rw_forms.specs.Reading.{stops, read_form}
use Rattle.rw_forms.proofs.Grammar.{Keeps}
use Rattle.rw_forms.proofs.Texts.{nothing}
use Rattle.rw_forms.proofs.Endings.{stops_as}
use Rattle.rw_forms.proofs.Parts.{end_stops}
use Rattle.rw_program_reader.specs.Programs.{arm, program}
use Rattle.rw_program_reader.proofs.Keeping.{arm_keeps, program_keeps}

leads_on : (a : List ℕ) (ts : List Token) (b : List ℕ) → LeadsTo a ts b → length b ≤ length a
leads_on a [] b l = omega (arith, ap length l)
leads_on a (t ∷ ts) b l = let s = shortens a t l.0 l.1 in let r = leads_on l.0 ts b l.2 in omega arith

-- what stands there is a rest of what stood here
rest_of_it : (P : Given → Type 0) (f : Form) (here there : List ℕ) → Keeps P nothing f → read_form f here ≡ stops there → length there ≤ length here
unfolding read_form
rest_of_it P f here there k e = let s = stops_as P nothing (length here) f here there k (omega arith) e in leads_on here s.before there s.leads

pub arm_on : (most : ℕ) (line : List ℕ) (at next : ℕ) (a : Arm) → next ≤ length line → ((k : Arm → Form) → read_form (arm most (program most) k) (drop at line) ≡ read_form (k a) (drop next line)) → at ≤ length line → at ≤ next
arm_on most line at next a v h w = by_end (cases_lt next (length line))
  where
    kept : Keeps (λ g. Unit {0}) nothing (arm most (program most) (λ b. gives (an_arm a)))
    kept = arm_keeps (λ g. Unit {0}) nothing most (program most) (λ b. gives (an_arm a)) (program_keeps most) (λ b t s. absurd (true≢false (sym s))) (λ b. tt)

    by_end : (next < length line) ⊎ (length line ≤ next) → at ≤ next
    by_end (inl l) =
        let r = rest_of_it (λ g. Unit {0}) (arm most (program most) (λ b. gives (an_arm a))) (drop at line) (drop next line) kept (h (λ b. gives (an_arm a)) ∙ end_stops (an_arm a) line next l) in
        let x = length-drop at line in
        let y = length-drop next line in
        omega arith
    by_end (inr l) = omega arith
