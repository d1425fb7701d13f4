-- Looking for an open bracket from the innermost frame on.
use Rattle.std.proofs.Common.{◌≡◌, ℕ, ◌+◌, ◌≤◌, Bool, true, false, List, [], ◌∷◌, length, drop, refl, sym, ap, ◌∙◌}
use Rattle.std.specs.Prelude.{eqb, ◌||◌}
use Rattle.std.proofs.lemmas.List.{drop_all}
use Rattle.rw_syntax.specs.declared.frame.Frame.{Frame}
use Rattle.rw_syntax.specs.Machine.{frame_level}
use Rattle.rw_syntax.specs.Stops.{is_bracketed}

pub found_here : (fs below : List Frame) (f : Frame) (depth : ℕ) → is_bracketed fs ≡ is_bracketed (drop depth fs) → drop depth fs ≡ f ∷ below → eqb (frame_level f) 0 ≡ true → true ≡ is_bracketed fs
found_here fs below f depth e d z = sym (e ∙ ap is_bracketed d ∙ ap (λ b. b || is_bracketed below) z)

pub passed : (fs : List Frame) (f : Frame) (depth : ℕ) → is_bracketed fs ≡ is_bracketed (drop depth fs) → drop depth fs ≡ f ∷ drop (depth + 1) fs → eqb (frame_level f) 0 ≡ false → is_bracketed fs ≡ is_bracketed (drop (depth + 1) fs)
passed fs f depth e d z = e ∙ ap is_bracketed d ∙ ap (λ b. b || is_bracketed (drop (depth + 1) fs)) z

pub none_left : (fs : List Frame) (depth : ℕ) → is_bracketed fs ≡ is_bracketed (drop depth fs) → length fs ≤ depth → false ≡ is_bracketed fs
none_left fs depth e h = sym (e ∙ ap is_bracketed (drop_all depth fs h))
