-- The grammar of steps.
use Rattle.std.specs.Prelude.{ℕ, List, codes}
use Rattle.rw_terms.specs.declared.term.Term.{Term}
use Rattle.rw_laws.specs.declared.step.BasicStep.{BasicStep}
use Rattle.rw_laws.specs.declared.step.BasicStep.TheVariants as basic
use Rattle.rw_loops.specs.declared.step.LoopStep.{LoopStep}
use Rattle.rw_loops.specs.declared.step.LoopStep.TheVariants as loops
use Rattle.rw_nodes.specs.declared.edit.Step.{Step}
use Rattle.rw_nodes.specs.declared.edit.Step.TheVariants as steps
use Rattle.rw_forms.specs.Forms.{a_variable, a_constant, Form, takes, either}
use Rattle.rw_forms.specs.Phrases.{mark, sort, formula, term, terms, formulas, names, constants}

-- NAMES := TERMS
unfoldable pub assignment : (List (List ℕ) × List Term → Form) → Form
assignment k = names (λ xs. mark (codes ":=") (terms 512 (λ ts. k (xs, ts))))

-- TERM ; GUARDS, behind `do`; `if` and `do` count one in the nest of their parts
unfoldable pub iteration : (LoopStep → Form) → Form
iteration k = term 511 (λ v. mark (codes ";") (formulas 511 (codes "|") (λ gs. k (loops.Do v gs))))

-- NAME : SORT, behind `block`
unfoldable pub block : (LoopStep → Form) → Form
block k = takes a_variable (λ x. mark (codes ":") (sort (λ s. k (loops.Block x s))))

-- the steps of alternation, iteration and local blocks
unfoldable pub loop_step : (LoopStep → Form) → Form
loop_step k = either (codes "if") (formulas 511 (codes "|") (λ gs. k (loops.If gs))) (either (codes "do") (iteration k) (mark (codes "block") (block k)))

-- NAMES : FORM, of constants, behind `seqcon`
unfoldable pub constants_and_formula : (BasicStep → Form) → Form
constants_and_formula k = constants (λ xs. mark (codes ":") (formula 512 (λ f. k (basic.SeqCon xs f))))

-- NAME = TERM, of a constant, behind `con`
unfoldable pub pinned : (BasicStep → Form) → Form
pinned k = takes a_constant (λ x. mark (codes "=") (term 512 (λ t. k (basic.Con x t))))

-- the steps with constants, and those of `loop_step`
unfoldable pub constant_step : (Step → Form) → Form
constant_step k = either (codes "seqcon") (constants_and_formula (λ s. k (steps.Basic s))) (either (codes "con") (pinned (λ s. k (steps.Basic s))) (loop_step (λ s. k (steps.Loop s))))

-- the steps with names behind their word, and those of `constant_step`
unfoldable pub named_step : (Step → Form) → Form
named_step k =
    either (codes "assign") (assignment (λ p. k (steps.Basic (basic.Assign p.0 p.1)))) (either (codes "follow") (assignment (λ p. k (steps.Basic (basic.Follow p.0 p.1))))
    (either (codes "contract") (names (λ xs. k (steps.Basic (basic.Contract xs)))) (either (codes "expand") (names (λ xs. k (steps.Basic (basic.Expand xs)))) (constant_step k))))

-- a step
unfoldable pub step : (Step → Form) → Form
step k =
    either (codes "skip") (k (steps.Basic basic.Skip)) (either (codes "weaken") (formula 512 (λ f. k (steps.Basic (basic.Weaken f))))
    (either (codes "strengthen") (formula 512 (λ f. k (steps.Basic (basic.Strengthen f)))) (either (codes "seq") (formula 512 (λ f. k (steps.Basic (basic.Seq f)))) (named_step k))))
