-- How the shut steps hand on to one another.
use Rattle.std.proofs.Common.{◌≡◌, ℕ, true, false, cond, List, [], ◌∷◌, Some, None, refl, ap, ◌∙◌}
use Rattle.std.specs.Prelude.{leb, option_and_then}
use Rattle.rw_syntax.specs.declared.token.Token.{Token}
use Rattle.rw_syntax.specs.declared.frame.Part.{Part}
use Rattle.rw_syntax.specs.declared.frame.Frame.{Frame}
use Rattle.rw_syntax.specs.declared.frame.Frame.TheVariants as frames
use Rattle.rw_syntax.specs.declared.frame.Head.TheVariants as heads
use Rattle.rw_syntax.specs.declared.frame.Partial.{Partial}
use Rattle.rw_syntax.specs.declared.state.State.TheVariants as states
use Rattle.rw_syntax.specs.Grammar.{head_level}
use Rattle.rw_syntax.specs.Machine.{State, nest, hole, begun, word_part, is_open, limited}
use Rattle.rw_syntax.specs.Steps.{begin_shut, partial_shut, go_on_shut, step_shut, advance_shut, finish_shut}

pub step_wants : (goal : ℕ) (fs : List Frame) (t : Token) → step_shut goal (states.Wants fs) t ≡ begin_shut (hole goal fs) fs t
unfolding step_shut begin_shut
step_wants goal fs t = refl

pub step_partial : (goal : ℕ) (p : Partial) (fs : List Frame) (t : Token) → step_shut goal (states.Partial p fs) t ≡ partial_shut p fs t
unfolding step_shut partial_shut
step_partial goal p fs t = refl

pub step_has : (goal : ℕ) (v : Part) (n c : ℕ) (fs : List Frame) (t : Token) → step_shut goal (states.Has v n c fs) t ≡ go_on_shut goal v n c fs t
unfolding step_shut go_on_shut
step_has goal v n c fs t = refl

pub step_open : (goal : ℕ) (w : List ℕ) (fs : List Frame) (t : Token) → is_open t ≡ true → step_shut goal (states.Worded w fs) t ≡ begun (hole goal fs) (head_level (heads.Named w)) (states.Wants (frames.Call (heads.Named w) [] ∷ fs))
unfolding step_shut go_on_shut
step_open goal w fs t e = ap (λ b. cond b (begun (hole goal fs) (head_level (heads.Named w)) (states.Wants (frames.Call (heads.Named w) [] ∷ fs))) (go_on_shut goal (word_part w fs) 9 0 fs t)) e

pub step_word : (goal : ℕ) (w : List ℕ) (fs : List Frame) (t : Token) → is_open t ≡ false → step_shut goal (states.Worded w fs) t ≡ go_on_shut goal (word_part w fs) 9 0 fs t
unfolding step_shut go_on_shut
step_word goal w fs t e = ap (λ b. cond b (begun (hole goal fs) (head_level (heads.Named w)) (states.Wants (frames.Call (heads.Named w) [] ∷ fs))) (go_on_shut goal (word_part w fs) 9 0 fs t)) e

pub ruleset shut = (step_wants, step_partial, step_has, step_open, step_word)

advance_is : (most goal : ℕ) (s : State) (t : Token) → advance_shut most goal s t ≡ option_and_then (limited most) (step_shut goal s t)
unfolding step_shut advance_shut
advance_is most goal s t = refl

pub advance_none : (most goal : ℕ) (s : State) (t : Token) → step_shut goal s t ≡ None → advance_shut most goal s t ≡ None
advance_none most goal s t e = advance_is most goal s t ∙ ap (option_and_then (limited most)) e

pub advance_some : (most goal : ℕ) (s : State) (t : Token) (x : State) → step_shut goal s t ≡ Some x → leb (nest x) most ≡ true → advance_shut most goal s t ≡ Some x
advance_some most goal s t x e l = advance_is most goal s t ∙ ap (option_and_then (limited most)) e ∙ ap (λ b. cond b (Some x) None) l

pub advance_past : (most goal : ℕ) (s : State) (t : Token) (x : State) → step_shut goal s t ≡ Some x → leb (nest x) most ≡ false → advance_shut most goal s t ≡ None
advance_past most goal s t x e l = advance_is most goal s t ∙ ap (option_and_then (limited most)) e ∙ ap (λ b. cond b (Some x) None) l

pub ruleset advances = (advance_none, advance_some, advance_past)

pub finish_wants : (goal : ℕ) (fs : List Frame) → finish_shut goal (states.Wants fs) ≡ None
unfolding finish_shut
finish_wants goal fs = refl

pub finish_partial : (goal : ℕ) (p : Partial) (fs : List Frame) → finish_shut goal (states.Partial p fs) ≡ None
unfolding finish_shut
finish_partial goal p fs = refl

pub finish_word : (goal : ℕ) (w : List ℕ) (fs : List Frame) → finish_shut goal (states.Worded w fs) ≡ finish_shut goal (states.Has (word_part w fs) 9 0 fs)
unfolding finish_shut
finish_word goal w fs = refl

pub ruleset finishes = (finish_wants, finish_partial, finish_word)
