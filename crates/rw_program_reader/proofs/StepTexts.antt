-- A text is read as a step that uses a procedure or a module exactly where its tokens spell it, and has the fault that is
-- told exactly where it has it.
use Rattle.std.proofs.Common.{◌≡◌, ℕ, List, refl, ap, ◌∙◌, drop, ◌⊎◌}
use Rattle.rw_terms.specs.declared.term.Term.{Term}
use Rattle.rw_heads.specs.declared.step.CallStep.{CallStep}
use Rattle.rw_heads.specs.declared.step.ModStep.{ModStep}
use Rattle.rw_heads.specs.declared.step.ModStep.TheVariants as steps
use Rattle.rw_forms.specs.declared.request.ReadError.{ReadError}
use Rattle.rw_forms.specs.declared.request.ReadError.TheVariants.{Syntax, Memory}
use Rattle.rw_tokens.specs.Tokens.{skip}
use Rattle.rw_forms.specs.Forms.{Given, gives}
use Rattle.rw_forms.specs.Progress.{StopsAt}
use Rattle.rw_forms.specs.Reading.{whole, read_form, TextSpellsAs, IsFaultAs}
use Rattle.rw_forms.proofs.Grammar.{Keeps}
use Rattle.rw_forms.proofs.Texts.{nothing, one_text}
use Rattle.rw_program_reader.specs.Steps.{called, call_step, operated, module_step, given_call, given_module, call_form, module_form}
use Rattle.rw_program_reader.proofs.Keeping.{passed_keeps}
use Rattle.rw_program_reader.proofs.Texts.{read_ok, read_err}

-- what is given of a call step, and of a step of a module

abbrev call_of : List ℕ → List Term → List (List ℕ) → CallStep
call_of x ts xs = record { name = x; args = ts; results = xs }

equal_parts : (x y : List ℕ) (ts us : List Term) (xs ys : List (List ℕ)) → x ≡ y → ts ≡ us → xs ≡ ys → call_of x ts xs ≡ call_of y us ys
equal_parts x y ts us xs ys a b c = ap (λ z. call_of z ts xs) a ∙ ap (λ z. call_of y z xs) b ∙ ap (λ z. call_of y us z) c

same_call : (s t : CallStep) → given_call s ≡ given_call t → s ≡ t
same_call s t e = equal_parts s.name t.name s.args t.args s.results t.results (cc (e)) (cc (e)) (cc (e))

same_module : (s t : ModStep) → given_module s ≡ given_module t → s ≡ t
same_module (steps.Open m) (steps.Open n) e = cc (e)
same_module (steps.Open m) (steps.Op n o ts xs) e = absurd (cc (e))
same_module (steps.Op m o ts xs) (steps.Open n) e = absurd (cc (e))
same_module (steps.Op m o ts xs) (steps.Op n p us ys) e = cc (e)

abbrev IsCall : Given → Type 0
IsCall v = (s : CallStep) × (v ≡ given_call s)

abbrev IsModule : Given → Type 0
IsModule v = (s : ModStep) × (v ≡ given_module s)

call_keeps : Keeps IsCall nothing call_form
unfolding call_form call_step called
call_keeps = (refl, λ x. (refl, λ p. passed_keeps IsCall nothing 512 (λ a. gives (given_call (record { name = p; args = a.0; results = a.1 }))) (λ a. (record { name = p; args = a.0; results = a.1 }, refl))))

module_keeps : Keeps IsModule nothing module_form
unfolding module_form module_step operated
module_keeps = (
  refl,
  (refl, λ m. (steps.Open m, refl)),
  (refl, λ x. (refl, λ m. (refl, λ y. (refl, λ o. passed_keeps IsModule nothing 512 (λ a. gives (given_module (steps.Op m o a.0 a.1))) (λ a. (steps.Op m o a.0 a.1, refl)))))),
)

pub one_call_step : (text : List ℕ) (s t : CallStep) → TextSpellsAs call_form text (given_call s) → TextSpellsAs call_form text (given_call t) → s ≡ t
one_call_step text s t a b = same_call s t (one_text IsCall call_form call_keeps text (given_call s) (given_call t) a b)

pub one_module_step : (text : List ℕ) (s t : ModStep) → TextSpellsAs module_form text (given_module s) → TextSpellsAs module_form text (given_module t) → s ≡ t
one_module_step text s t a b = same_module s t (one_text IsModule module_form module_keeps text (given_module s) (given_module t) a b)

pub call_ok : (text : List ℕ) (at : ℕ) (s : CallStep) → drop at text ≡ skip text → read_form call_form (drop at text) ≡ whole (given_call s) → TextSpellsAs call_form text (given_call s)
call_ok text at s = read_ok IsCall call_form call_keeps text at (given_call s)

pub call_err : (text : List ℕ) (at : ℕ) (e : ReadError) → drop at text ≡ skip text → StopsAt text e (read_form call_form (drop at text)) → (e ≡ Memory) ⊎ ((o : ℕ) × (e ≡ Syntax o) × IsFaultAs call_form text o)
call_err = read_err IsCall call_form call_keeps

pub module_ok : (text : List ℕ) (at : ℕ) (s : ModStep) → drop at text ≡ skip text → read_form module_form (drop at text) ≡ whole (given_module s) → TextSpellsAs module_form text (given_module s)
module_ok text at s = read_ok IsModule module_form module_keeps text at (given_module s)

pub module_err : (text : List ℕ) (at : ℕ) (e : ReadError) → drop at text ≡ skip text → StopsAt text e (read_form module_form (drop at text)) → (e ≡ Memory) ⊎ ((o : ℕ) × (e ≡ Syntax o) × IsFaultAs module_form text o)
module_err = read_err IsModule module_form module_keeps
