-- Tokens that end a value: behind a whole value the machine does not go on with them.
use Rattle.std.proofs.Common.{◌≡◌, ℕ, Bool, true, false, cond, arith, List, [], ◌∷◌, Option, Some, None, refl, sym, ap, ◌∙◌, true≢false}
use Rattle.std.specs.Prelude.{leb, eqb, ◌||◌, option_and_then}
use Rattle.std.proofs.lemmas.Bool.Decides.{nat_tests}
use Rattle.std.proofs.lemmas.Bool.{or_parts}
use Rattle.rw_syntax.specs.declared.token.Token.{Token}
use Rattle.rw_syntax.specs.declared.token.Token.TheVariants as tokens
use Rattle.rw_syntax.specs.declared.frame.Part.{Part}
use Rattle.rw_syntax.specs.declared.frame.Frame.{Frame}
use Rattle.rw_syntax.specs.Grammar.{fits}
use Rattle.rw_syntax.specs.Machine.{State, wants, partial, worded, has, step, finish, finish_with, whole, frame_level, frame_hole, frame_chain, made, ended, closed, indexed, listed, go_on, word_part, limited, advance}
use Rattle.rw_syntax.specs.Stops.{stops_at, is_bracketed, is_inside}
use Rattle.rw_syntax.proofs.Choices.{guarded, chained, some_is}

whole_is : (goal : ℕ) (m : State) (v : Part) → whole goal m ≡ Some v → (n c : ℕ) × (m ≡ has v n c [])
whole_is goal (has u n c []) v e = let g = guarded (fits goal n) (Some u) v e in (n, c, ap (λ x. has x n c []) (some_is g.1))
whole_is goal (has u n c (f ∷ fs)) v e = absurd (cc)
whole_is goal (wants fs) v e = absurd (cc)
whole_is goal (partial p fs) v e = absurd (cc)
whole_is goal (worded w fs) v e = absurd (cc)

none_behind : (goal : ℕ) (u : Part) (n c : ℕ) (fs : List Frame) (v : Part) (next_state : State → Option State) → ((v : Part) (n c : ℕ) → next_state (has v n c []) ≡ None) → finish_with goal u n c fs ≡ Some v → option_and_then next_state (ended 1 u n c fs) ≡ None
none_behind goal u n c fs v next_state h e =
    let q = chained (whole goal) (ended 1 u n c fs) v e in
    let w = whole_is goal q.0 v q.2 in
    ap (option_and_then next_state) q.1 ∙ ap next_state w.2 ∙ h v w.0 w.1

go_on_stops : (goal : ℕ) (u : Part) (n c : ℕ) (fs : List Frame) (v : Part) (t : Token) → stops_at t ≡ true → finish_with goal u n c fs ≡ Some v → go_on goal u n c fs t ≡ None
go_on_stops goal u n c fs v (tokens.Infix op) s e = absurd (true≢false (sym s))
go_on_stops goal u n c fs v tokens.OpenSquare s e = absurd (true≢false (sym s))
go_on_stops goal u n c fs v tokens.Close s e = none_behind goal u n c fs v closed (λ v n c. refl) e
go_on_stops goal u n c fs v tokens.CloseSquare s e = none_behind goal u n c fs v indexed (λ v n c. refl) e
go_on_stops goal u n c fs v tokens.Comma s e = none_behind goal u n c fs v listed (λ v n c. refl) e
go_on_stops goal u n c fs v _ s e = refl

word_stops : (goal : ℕ) (w : List ℕ) (fs : List Frame) (v : Part) (t : Token) → stops_at t ≡ true → finish_with goal (word_part w fs) 9 0 fs ≡ Some v → step goal (worded w fs) t ≡ None
word_stops goal w fs v tokens.Open s e = absurd (true≢false (sym s))
word_stops goal w fs v t s e = go_on_stops goal (word_part w fs) 9 0 fs v t s e

step_stops : (goal : ℕ) (m : State) (v : Part) (t : Token) → stops_at t ≡ true → finish goal m ≡ Some v → step goal m t ≡ None
step_stops goal (wants fs) v t s e = absurd (cc)
step_stops goal (partial p fs) v t s e = absurd (cc)
step_stops goal (worded w fs) v t s e = word_stops goal w fs v t s e
step_stops goal (has u n c fs) v t s e = go_on_stops goal u n c fs v t s e

pub advance_stops : (most goal : ℕ) (m : State) (v : Part) (t : Token) → stops_at t ≡ true → finish goal m ≡ Some v → advance most goal m t ≡ None
advance_stops most goal m v t s e = ap (option_and_then (limited most)) (step_stops goal m v t s e)

-- without an open bracket all that is open ends

no_bracket : (n : ℕ) → eqb n 0 ≡ false → leb 1 n ≡ true
no_bracket n e = grind (arith, nat_tests)

a_bracket : (n : ℕ) → eqb n 0 ≡ true → leb 1 n ≡ false
a_bracket n e = grind (arith, nat_tests)

ended_empty : (v : Part) (n c : ℕ) (fs : List Frame) (s : State) → is_bracketed fs ≡ false → ended 1 v n c fs ≡ Some s → (u : Part) × (m : ℕ) × (d : ℕ) × (s ≡ has u m d [])
unfolding ended
ended_empty v n c [] s b e = (v, n, c, sym (some_is e))
ended_empty v n c (f ∷ fs) s b e =
    let k = or_parts (eqb (frame_level f) 0) (is_bracketed fs) b in
    let on = sym (ap (λ x. cond x (cond (fits (frame_hole f) n) (ended 1 (made f v) (frame_level f) (frame_chain f) fs) None) (Some (has v n c (f ∷ fs)))) (no_bracket (frame_level f) k.0)) ∙ e in
    let g = guarded (fits (frame_hole f) n) (ended 1 (made f v) (frame_level f) (frame_chain f) fs) s on in
    ended_empty (made f v) (frame_level f) (frame_chain f) fs s k.1 g.1

none_after : (v : Part) (n c : ℕ) (fs : List Frame) (next_state : State → Option State) → ((v : Part) (n c : ℕ) → next_state (has v n c []) ≡ None) → is_bracketed fs ≡ false → option_and_then next_state (ended 1 v n c fs) ≡ None
none_after v n c fs next_state h b = go (ended 1 v n c fs) refl
  where
    go : (o : Option State) → ended 1 v n c fs ≡ o → option_and_then next_state o ≡ None
    go None e = refl
    go (Some s) e = let r = ended_empty v n c fs s b e in ap next_state r.3 ∙ h r.0 r.1 r.2

go_on_out : (goal : ℕ) (v : Part) (n c : ℕ) (fs : List Frame) (t : Token) → is_bracketed fs ≡ false → stops_at t ≡ true → go_on goal v n c fs t ≡ None
go_on_out goal v n c fs (tokens.Infix op) b s = absurd (true≢false (sym s))
go_on_out goal v n c fs tokens.OpenSquare b s = absurd (true≢false (sym s))
go_on_out goal v n c fs tokens.Close b s = none_after v n c fs closed (λ v n c. refl) b
go_on_out goal v n c fs tokens.CloseSquare b s = none_after v n c fs indexed (λ v n c. refl) b
go_on_out goal v n c fs tokens.Comma b s = none_after v n c fs listed (λ v n c. refl) b
go_on_out goal v n c fs _ b s = refl

word_out : (goal : ℕ) (w : List ℕ) (fs : List Frame) (t : Token) → is_bracketed fs ≡ false → stops_at t ≡ true → step goal (worded w fs) t ≡ None
word_out goal w fs tokens.Open b s = absurd (true≢false (sym s))
word_out goal w fs t b s = go_on_out goal (word_part w fs) 9 0 fs t b s

step_out : (goal : ℕ) (m : State) (t : Token) → is_inside m ≡ false → stops_at t ≡ true → step goal m t ≡ None
step_out goal (wants fs) t b s = absurd (true≢false b)
step_out goal (partial p fs) t b s = absurd (true≢false b)
step_out goal (worded w fs) t b s = word_out goal w fs t b s
step_out goal (has v n c fs) t b s = go_on_out goal v n c fs t b s

-- outside brackets what ends a value is refused
pub advance_out : (most goal : ℕ) (m : State) (t : Token) → is_inside m ≡ false → stops_at t ≡ true → advance most goal m t ≡ None
advance_out most goal m t b s = ap (option_and_then (limited most)) (step_out goal m t b s)

-- inside brackets there is no value

ended_inside : (goal : ℕ) (v : Part) (n c : ℕ) (fs : List Frame) → is_bracketed fs ≡ true → option_and_then (whole goal) (ended 1 v n c fs) ≡ None
unfolding ended
ended_inside goal v n c [] b = absurd (true≢false (sym b))
ended_inside goal v n c (f ∷ fs) b = go (eqb (frame_level f) 0) refl b (λ k. ended_inside goal (made f v) (frame_level f) (frame_chain f) fs k)
  where
    test : (b : Bool) → leb 1 (frame_level f) ≡ b → option_and_then (whole goal) (cond b (cond (fits (frame_hole f) n) (ended 1 (made f v) (frame_level f) (frame_chain f) fs) None) (Some (has v n c (f ∷ fs)))) ≡ option_and_then (whole goal) (cond (leb 1 (frame_level f)) (cond (fits (frame_hole f) n) (ended 1 (made f v) (frame_level f) (frame_chain f) fs) None) (Some (has v n c (f ∷ fs))))
    test b e = ap (λ x. option_and_then (whole goal) (cond x (cond (fits (frame_hole f) n) (ended 1 (made f v) (frame_level f) (frame_chain f) fs) None) (Some (has v n c (f ∷ fs))))) (sym e)

    fit : (b : Bool) (o : Option State) → option_and_then (whole goal) o ≡ None → option_and_then (whole goal) (cond b o None) ≡ None
    fit true o e = e
    fit false o e = refl

    go : (z : Bool) → eqb (frame_level f) 0 ≡ z → (z || is_bracketed fs) ≡ true → (is_bracketed fs ≡ true → option_and_then (whole goal) (ended 1 (made f v) (frame_level f) (frame_chain f) fs) ≡ None) →
        option_and_then (whole goal) (cond (leb 1 (frame_level f)) (cond (fits (frame_hole f) n) (ended 1 (made f v) (frame_level f) (frame_chain f) fs) None) (Some (has v n c (f ∷ fs)))) ≡ None
    go true z e h = sym (test false (a_bracket (frame_level f) z))
    go false z e h = sym (test true (no_bracket (frame_level f) z)) ∙ fit (fits (frame_hole f) n) (ended 1 (made f v) (frame_level f) (frame_chain f) fs) (h e)

pub finish_inside : (goal : ℕ) (m : State) → is_inside m ≡ true → finish goal m ≡ None
finish_inside goal (wants fs) b = refl
finish_inside goal (partial p fs) b = refl
finish_inside goal (worded w fs) b = ended_inside goal (word_part w fs) 9 0 fs b
finish_inside goal (has v n c fs) b = ended_inside goal v n c fs b
