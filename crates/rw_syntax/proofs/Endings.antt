-- One turn of the loop that ends frames.
use Rattle.std.proofs.Common.{◌≡◌, ℕ, ◌+◌, ◌≤◌, ◌<◌, Bool, true, false, cond, List, [], ◌∷◌, Some, None, refl, ap, ◌∙◌, arith}
use Rattle.std.specs.Prelude.{leb}
use Rattle.rw_syntax.specs.declared.frame.Part.{Part}
use Rattle.rw_syntax.specs.declared.frame.Frame.{Frame}
use Rattle.rw_syntax.specs.declared.frame.Frame.TheVariants as frames
use Rattle.rw_syntax.specs.Grammar.{fits}
use Rattle.rw_syntax.specs.Machine.{has, frame_level, frame_hole, frame_chain, frame_nest, stack_nest, made, ended, top_level}
use Rattle.std.proofs.lemmas.Bool.{le-leb, lt-leb}

turn : (bound : ℕ) (v : Part) (n c : ℕ) (f : Frame) (fs : List Frame) (b : Bool) → leb bound (frame_level f) ≡ b → ended bound v n c (f ∷ fs) ≡ cond b (cond (fits (frame_hole f) n) (ended bound (made f v) (frame_level f) (frame_chain f) fs) None) (Some (has v n c (f ∷ fs)))
unfolding ended
turn bound v n c f fs b e = ap (λ x. cond x (cond (fits (frame_hole f) n) (ended bound (made f v) (frame_level f) (frame_chain f) fs) None) (Some (has v n c (f ∷ fs)))) e

pub ended_top : (bound : ℕ) (v : Part) (n c : ℕ) (stack : List Frame) (f : Frame) (fs : List Frame) → stack ≡ f ∷ fs → bound ≤ top_level stack → fits (frame_hole f) n ≡ true → ended bound v n c stack ≡ ended bound (made f v) (frame_level f) (frame_chain f) fs
ended_top bound v n c stack f fs e h k =
    let q : bound ≤ frame_level f = rw e at h in
    ap (ended bound v n c) e ∙ turn bound v n c f fs true (le-leb bound (frame_level f) q) ∙ ap (λ b. cond b (ended bound (made f v) (frame_level f) (frame_chain f) fs) None) k

pub ended_mismatch : (bound : ℕ) (v : Part) (n c : ℕ) (stack : List Frame) (f : Frame) (fs : List Frame) → stack ≡ f ∷ fs → bound ≤ top_level stack → fits (frame_hole f) n ≡ false → ended bound v n c stack ≡ None
ended_mismatch bound v n c stack f fs e h k =
    let q : bound ≤ frame_level f = rw e at h in
    ap (ended bound v n c) e ∙ turn bound v n c f fs true (le-leb bound (frame_level f) q) ∙ ap (λ b. cond b (ended bound (made f v) (frame_level f) (frame_chain f) fs) None) k

pub ended_stops : (bound : ℕ) (v : Part) (n c : ℕ) (stack : List Frame) → top_level stack < bound → ended bound v n c stack ≡ Some (has v n c stack)
unfolding ended
ended_stops bound v n c [] h = refl
ended_stops bound v n c (f ∷ fs) h = turn bound v n c f fs false (lt-leb bound (frame_level f) h)

pub not_empty : (bound : ℕ) (stack : List Frame) → stack ≡ [] → 1 ≤ bound → bound ≤ top_level stack → ⊥
not_empty bound stack e o h = let q : bound ≤ 0 = rw e at h in omega arith

-- what is left of a chain when a frame ends was counted at the frame
pub nest_falls : (f : Frame) (d : ℕ) → d + frame_chain f ≤ frame_nest f d
nest_falls (frames.Prefix p) d = omega arith
nest_falls (frames.Infix op u c) d = omega arith
nest_falls (frames.Group only) d = omega arith
nest_falls (frames.Index u c) d = omega arith
nest_falls (frames.Call h us) d = omega arith

pub nest_below : (stack : List Frame) (f : Frame) (fs : List Frame) → stack ≡ f ∷ fs → stack_nest fs ≤ stack_nest stack
nest_below stack f fs e = let q : stack_nest stack ≡ frame_nest f (stack_nest fs) = ap stack_nest e in let r = nest_falls f (stack_nest fs) in omega arith
