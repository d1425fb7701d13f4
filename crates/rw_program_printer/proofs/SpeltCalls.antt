-- What is printed of a step that uses a procedure or a module spells it.
use Rattle.std.proofs.Common.{◌≡◌, ℕ, true, List, [], ◌∷◌, ◌++◌, length, refl, sym, subst, arith, append_assoc, append-nil, inl, inr}
use Rattle.std.specs.Prelude.{◌&&◌, codes}
use Rattle.std.proofs.lemmas.Bool.{and_parts}
use Rattle.rw_terms.specs.Names.{is_name}
use Rattle.rw_terms.specs.declared.term.Term.{Term}
use Rattle.rw_heads.specs.declared.step.CallStep.{CallStep}
use Rattle.rw_heads.specs.declared.step.ModStep.{ModStep}
use Rattle.rw_heads.specs.declared.step.ModStep.TheVariants as modules
use Rattle.rw_tokens.specs.Tokens.{text, LeadsTo, skip}
use Rattle.rw_forms.specs.Forms.{any_name, Given, Form, gives, takes, IsOf}
use Rattle.rw_forms.specs.Phrases.{mark}
use Rattle.rw_forms.specs.Reading.{TextSpellsAs}
use Rattle.rw_printer.specs.Readable.{readable_terms, named_terms}
use Rattle.rw_printer.specs.ReadsBack.{TermsStayWithin}
use Rattle.rw_printer.proofs.Lexed.{starts_with, skip_start, name_starts}
use Rattle.rw_printer.proofs.Fronts.{ends_stops}
use Rattle.rw_printer.proofs.Spelling.{spelt_from, spelt_to, chain, mapped, marked}
use Rattle.rw_printer.proofs.SpeltParts.{name_spelt}
use Rattle.rw_program_reader.specs.Programs.{passed}
use Rattle.rw_program_reader.specs.Steps.{called, call_step, operated, module_step, given_call, given_module, call_form, module_form}
use Rattle.rw_program_printer.specs.Layout.{passed_text}
use Rattle.rw_program_printer.specs.Readable.{readable_names, named_names}
use Rattle.rw_program_printer.specs.Steps.{call_text, module_text}
use Rattle.rw_program_printer.specs.StepsReadBack.{named_call, named_module, CallReadsBack, ModuleReadsBack}
use Rattle.rw_program_printer.proofs.Tokens.{IsBare, dot_alone}
use Rattle.rw_program_printer.proofs.SpeltParts.{good_names}
use Rattle.rw_program_printer.proofs.Spelt.{skip_end, passed_in}
use Rattle.rw_program_printer.proofs.SpeltSteps.{Shown, behind_word}

grouped_called : (f a r : List ℕ) → (f ++ a) ++ r ≡ f ++ (a ++ r)
grouped_called f a r = simp append_assoc

called_shown : (s : CallStep) → (readable_terms s.args && readable_names s.results) ≡ true → named_call s ≡ true → TermsStayWithin 511 s.args → Shown called s (s.name ++ passed_text s.args s.results)
unfolding called
called_shown s p n w = λ r e.
    let q = and_parts (readable_terms s.args) (readable_names s.results) p in
    let m = and_parts (is_name s.name) (named_terms s.args && named_names s.results) n in
    let o = and_parts (named_terms s.args) (named_names s.results) m.1 in
    let y = passed_text s.args s.results ++ r in
    let z = grouped_called s.name (passed_text s.args s.results) r in (
      subst IsBare (sym z) (skip_start _ (starts_with s.name y (name_starts s.name m.0))),
      spelt_from z (chain (takes any_name) (λ g k. passed 512 (λ a. k (record { name = g; args = a.0; results = a.1 }))) s.name s (name_spelt s.name y m.0 refl)
          (mapped (passed 512) (λ a. record { name = s.name; args = a.0; results = a.1 }) (s.args, s.results) (passed_in 512 s.args s.results r (omega arith) w q.0 o.0 (good_names s.results q.1 o.1)))),
    )

call_shown : (s : CallStep) → Shown called s (s.name ++ passed_text s.args s.results) → Shown call_step s (call_text s)
unfolding call_step
call_shown s h = behind_word called call_step (λ z. z) s 99 (codes "all") (s.name ++ passed_text s.args s.results) refl refl refl (λ k n rest v i. record { first = text (codes "call"); rest = rest; filling = tt; tokens_are = refl; fills = refl; more = i }) h

grouped_operated : (m f a r : List ℕ) → (m ++ codes "." ++ f ++ a) ++ r ≡ m ++ (46 ∷ (f ++ (a ++ r)))
grouped_operated m f a r = simp append_assoc

operated_shown : (m f : List ℕ) (ts : List Term) (xs : List (List ℕ)) → (readable_terms ts && readable_names xs) ≡ true → named_module (modules.Op m f ts xs) ≡ true → TermsStayWithin 511 ts → Shown operated (modules.Op m f ts xs) (m ++ codes "." ++ f ++ passed_text ts xs)
unfolding operated
operated_shown m f ts xs p n w = λ r e.
    let q = and_parts (readable_terms ts) (readable_names xs) p in
    let a = and_parts (is_name m) (is_name f && (named_terms ts && named_names xs)) n in
    let b = and_parts (is_name f) (named_terms ts && named_names xs) a.1 in
    let o = and_parts (named_terms ts) (named_names xs) b.1 in
    let y = passed_text ts xs ++ r in
    let x = f ++ y in
    let z = grouped_operated m f (passed_text ts xs) r in (
      subst IsBare (sym z) (skip_start _ (starts_with m _ (name_starts m a.0))),
      spelt_from z (chain (takes any_name) (λ g k. mark (codes ".") (takes any_name (λ u. passed 512 (λ c. k (modules.Op g u c.0 c.1))))) m (modules.Op m f ts xs) (name_spelt m (46 ∷ x) a.0 refl)
          (marked (codes ".") (λ k. takes any_name (λ u. passed 512 (λ c. k (modules.Op m u c.0 c.1)))) (modules.Op m f ts xs) (dot_alone x (skip_start x (starts_with f y (name_starts f b.0))))
          (chain (takes any_name) (λ u k. passed 512 (λ c. k (modules.Op m u c.0 c.1))) f (modules.Op m f ts xs) (name_spelt f y b.0 refl)
          (mapped (passed 512) (λ c. modules.Op m f c.0 c.1) (ts, xs) (passed_in 512 ts xs r (omega arith) w q.0 o.0 (good_names xs q.1 o.1)))))),
    )

operation_shown : (m f : List ℕ) (ts : List Term) (xs : List (List ℕ)) → Shown operated (modules.Op m f ts xs) (m ++ codes "." ++ f ++ passed_text ts xs) → Shown module_step (modules.Op m f ts xs) (module_text (modules.Op m f ts xs))
unfolding module_step
operation_shown m f ts xs h = behind_word operated module_step (λ z. z) (modules.Op m f ts xs) 111 (codes "p") (m ++ codes "." ++ f ++ passed_text ts xs) refl refl refl (λ k n rest v i. inr (record { first = text (codes "op"); rest = rest; filling = tt; tokens_are = refl; fills = refl; more = i })) h

open_shown : (m : List ℕ) → is_name m ≡ true → Shown module_step (modules.Open m) (module_text (modules.Open m))
unfolding module_step
open_shown m n = behind_word (takes any_name) module_step modules.Open m 109 (codes "odule") m refl refl refl (λ k i rest v x. inl (rest, refl, x)) (λ r e. (skip_start _ (starts_with m r (name_starts m n)), name_spelt m r n (ends_stops r e)))

-- a step that is shown reads back

spells : {A : Type 0} (part : (A → Form) → Form) (give : A → Given) (s : A) (written : List ℕ) → Shown part s written → TextSpellsAs (part (λ u. gives (give u))) written (give s)
spells part give s written h =
    let x = h [] refl in
    let z = append-nil written in
    let y = spelt_to skip_end (spelt_from (sym z) x.1) in (
      y.tokens,
      subst (λ t. LeadsTo t y.tokens []) (sym (subst (λ t. skip t ≡ t) z x.0)) y.leads,
      subst (λ t. IsOf (part (λ u. gives (give u))) (length y.tokens) t (give s)) (append-nil y.tokens) (y.is (λ u. gives (give u)) (length y.tokens) [] (give s) (refl, refl)),
    )

pub call_reads_back : (s : CallStep) → named_call s ≡ true → CallReadsBack (call_text s) s
unfolding call_form
call_reads_back s n p w = spells call_step given_call s (call_text s) (call_shown s (called_shown s p n w))

pub module_reads_back : (s : ModStep) → named_module s ≡ true → ModuleReadsBack (module_text s) s
unfolding module_form
module_reads_back (modules.Open m) n p w = spells module_step given_module (modules.Open m) (module_text (modules.Open m)) (open_shown m n)
module_reads_back (modules.Op m f ts xs) n p w = spells module_step given_module (modules.Op m f ts xs) (module_text (modules.Op m f ts xs)) (operation_shown m f ts xs (operated_shown m f ts xs p n w))
