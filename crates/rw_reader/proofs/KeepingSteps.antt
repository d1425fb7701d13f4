-- The forms of steps keep their choices apart.
use Rattle.std.proofs.Common.{◌≡◌, ℕ, Bool, true, false, List, refl}
use Rattle.std.specs.Prelude.{codes}
use Rattle.rw_terms.specs.Names.{is_name, is_reserved, reserved}
use Rattle.rw_terms.specs.declared.term.Term.{Term}
use Rattle.rw_terms.specs.declared.term.Formula.{Formula}
use Rattle.rw_laws.specs.declared.step.BasicStep.{BasicStep}
use Rattle.rw_laws.specs.declared.step.BasicStep.TheVariants as basic
use Rattle.rw_loops.specs.declared.step.LoopStep.{LoopStep}
use Rattle.rw_loops.specs.declared.step.LoopStep.TheVariants as loops
use Rattle.rw_nodes.specs.declared.edit.Step.{Step}
use Rattle.rw_nodes.specs.declared.edit.Step.TheVariants as steps
use Rattle.rw_tokens.specs.Tokens.{Token, text}
use Rattle.rw_tokens.specs.Classes.{mark_texts, text_class, class_of}
use Rattle.rw_forms.specs.Forms.{Given, Form}
use Rattle.rw_forms.specs.Phrases.{mark, formula, terms, formulas}
use Rattle.rw_reader.specs.Steps.{assignment, iteration, block, loop_step, constants_and_formula, pinned, constant_step, named_step, step}
use Rattle.rw_forms.specs.Reading.{ends_value}
use Rattle.rw_forms.proofs.Grammar.{starts, Keeps}
use Rattle.rw_forms.proofs.Keeping.{mark_ends, semicolon_ends, sort_keeps, formula_keeps, term_keeps, names_keep, constants_keep, terms_keep, formulas_keep}

-- what follows a part that ends with a value ends it
abbrev Ends : {A : Type 0} → (Token → Bool) → (A → Form) → Type 0
Ends {A = A} F k = (x : A) (t : Token) → starts (k x) F t ≡ true → ends_value t ≡ true

abbrev All : {A : Type 0} → (Given → Type 0) → (Token → Bool) → (A → Form) → Type 0
All {A = A} P F k = (x : A) → Keeps P F (k x)

-- a token does not go on what follows a part
abbrev Without : {A : Type 0} → (Token → Bool) → Token → (A → Form) → Type 0
Without {A = A} F t k = (x : A) → starts (k x) F t ≡ false

bar_ends : ends_value (text (codes "|")) ≡ true
unfolding mark_texts text_class class_of is_name is_reserved reserved Rattle.rw_tokens.specs.Classes.name_class
bar_ends = refl

guards_keep : (P : Given → Type 0) (F : Token → Bool) (k : List Formula → Form) → Ends F k → Without F (text (codes "|")) k → All P F k → Keeps P F (formulas 511 (codes "|") k)
guards_keep P F k d e h = formulas_keep P F 511 (codes "|") k bar_ends d e h

assignment_keeps : (P : Given → Type 0) (F : Token → Bool) (k : List (List ℕ) × List Term → Form) → Ends F k → Without F (text (codes ",")) k → All P F k → Keeps P F (assignment k)
unfolding assignment
assignment_keeps P F k d e h = names_keep P F (λ xs. mark (codes ":=") (terms 512 (λ ts. k (xs, ts)))) (λ xs. refl) (λ xs. (refl, λ x. terms_keep P F 512 (λ ts. k (xs, ts)) (λ ts. d (xs, ts)) (λ ts. e (xs, ts)) (λ ts. h (xs, ts))))

iteration_keeps : (P : Given → Type 0) (F : Token → Bool) (k : LoopStep → Form) → Ends F k → Without F (text (codes "|")) k → All P F k → Keeps P F (iteration k)
unfolding iteration
iteration_keeps P F k d e h =
    term_keeps P F 511 (λ v. mark (codes ";") (formulas 511 (codes "|") (λ gs. k (loops.Do v gs)))) (λ v t. mark_ends F (codes ";") (formulas 511 (codes "|") (λ gs. k (loops.Do v gs))) t semicolon_ends)
    (λ v. (refl, λ x. guards_keep P F (λ gs. k (loops.Do v gs)) (λ gs. d (loops.Do v gs)) (λ gs. e (loops.Do v gs)) (λ gs. h (loops.Do v gs))))

block_keeps : (P : Given → Type 0) (F : Token → Bool) (k : LoopStep → Form) → All P F k → Keeps P F (block k)
unfolding block
block_keeps P F k h = (refl, λ x. (refl, λ y. sort_keeps P F (λ s. k (loops.Block x s)) (λ s. h (loops.Block x s))))

loop_step_keeps : (P : Given → Type 0) (F : Token → Bool) (k : LoopStep → Form) → Ends F k → Without F (text (codes "|")) k → All P F k → Keeps P F (loop_step k)
unfolding loop_step
loop_step_keeps P F k d e h = (
  refl,
  guards_keep P F (λ gs. k (loops.If gs)) (λ gs. d (loops.If gs)) (λ gs. e (loops.If gs)) (λ gs. h (loops.If gs)),
  (refl, iteration_keeps P F k d e h, (refl, λ x. block_keeps P F k h)),
)

seqcon_keeps : (P : Given → Type 0) (F : Token → Bool) (k : BasicStep → Form) → Ends F k → All P F k → Keeps P F (constants_and_formula k)
unfolding constants_and_formula
seqcon_keeps P F k d h = constants_keep P F (λ xs. mark (codes ":") (formula 512 (λ f. k (basic.SeqCon xs f)))) (λ xs. refl) (λ xs. (refl, λ x. formula_keeps P F 512 (λ f. k (basic.SeqCon xs f)) (λ f. d (basic.SeqCon xs f)) (λ f. h (basic.SeqCon xs f))))

pinned_keeps : (P : Given → Type 0) (F : Token → Bool) (k : BasicStep → Form) → Ends F k → All P F k → Keeps P F (pinned k)
unfolding pinned
pinned_keeps P F k d h = (refl, λ x. (refl, λ y. term_keeps P F 512 (λ t. k (basic.Con x t)) (λ t. d (basic.Con x t)) (λ t. h (basic.Con x t))))

constant_step_keeps : (P : Given → Type 0) (F : Token → Bool) (k : Step → Form) → Ends F k → Without F (text (codes "|")) k → All P F k → Keeps P F (constant_step k)
unfolding constant_step loop_step
constant_step_keeps P F k d e h = (
  refl,
  seqcon_keeps P F (λ s. k (steps.Basic s)) (λ s. d (steps.Basic s)) (λ s. h (steps.Basic s)),
  (
    refl,
    pinned_keeps P F (λ s. k (steps.Basic s)) (λ s. d (steps.Basic s)) (λ s. h (steps.Basic s)),
    loop_step_keeps P F (λ s. k (steps.Loop s)) (λ s. d (steps.Loop s)) (λ s. e (steps.Loop s)) (λ s. h (steps.Loop s)),
  ),
)

-- what follows a step
pub record Behind (F : Token → Bool) (k : Step → Form) : Type 0 where
  pub ends : Ends F k
  pub bar : Without F (text (codes "|")) k
  pub comma : Without F (text (codes ",")) k

named_step_keeps : (P : Given → Type 0) (F : Token → Bool) (k : Step → Form) → Behind F k → All P F k → Keeps P F (named_step k)
unfolding named_step constant_step loop_step
named_step_keeps P F k b h = (
  refl,
  assignment_keeps P F (λ p. k (steps.Basic (basic.Assign p.0 p.1))) (λ p. b.ends (steps.Basic (basic.Assign p.0 p.1))) (λ p. b.comma (steps.Basic (basic.Assign p.0 p.1))) (λ p. h (steps.Basic (basic.Assign p.0 p.1))),
  (
    refl,
    assignment_keeps P F (λ p. k (steps.Basic (basic.Follow p.0 p.1))) (λ p. b.ends (steps.Basic (basic.Follow p.0 p.1))) (λ p. b.comma (steps.Basic (basic.Follow p.0 p.1))) (λ p. h (steps.Basic (basic.Follow p.0 p.1))),
    (
      refl,
      names_keep P F (λ xs. k (steps.Basic (basic.Contract xs))) (λ xs. b.comma (steps.Basic (basic.Contract xs))) (λ xs. h (steps.Basic (basic.Contract xs))),
      (
        refl,
        names_keep P F (λ xs. k (steps.Basic (basic.Expand xs))) (λ xs. b.comma (steps.Basic (basic.Expand xs))) (λ xs. h (steps.Basic (basic.Expand xs))),
        constant_step_keeps P F k b.ends b.bar h,
      ),
    ),
  ),
)

by_formula : (P : Given → Type 0) (F : Token → Bool) (k : Step → Form) → Ends F k → All P F k → (make : Formula → BasicStep) → Keeps P F (formula 512 (λ f. k (steps.Basic (make f))))
by_formula P F k d h make = formula_keeps P F 512 (λ f. k (steps.Basic (make f))) (λ f. d (steps.Basic (make f))) (λ f. h (steps.Basic (make f)))

pub step_keeps : (P : Given → Type 0) (F : Token → Bool) (k : Step → Form) → Behind F k → All P F k → Keeps P F (step k)
unfolding step named_step constant_step loop_step
step_keeps P F k b h = (
  refl,
  h (steps.Basic basic.Skip),
  (refl, by_formula P F k b.ends h basic.Weaken, (refl, by_formula P F k b.ends h basic.Strengthen, (refl, by_formula P F k b.ends h basic.Seq, named_step_keeps P F k b h))),
)
