-- What ends a value, and where one stands inside brackets.
use Rattle.std.specs.Prelude.{ℕ, Bool, true, false, ◌||◌, eqb, List, [], ◌∷◌}
use Rattle.rw_syntax.specs.declared.token.Token.{Token}
use Rattle.rw_syntax.specs.declared.token.Token.TheVariants as tokens
use Rattle.rw_syntax.specs.declared.frame.Frame.{Frame}
use Rattle.rw_syntax.specs.Machine.{State, wants, partial, worded, has, frame_level}

-- whether a whole value does not go on with a token
abbrev pub stops_at : Token → Bool
stops_at (tokens.Infix op) = false
stops_at tokens.Open = false
stops_at tokens.OpenSquare = false
stops_at _ = true

-- whether a bracket is open
abbrev pub is_bracketed : List Frame → Bool
is_bracketed [] = false
is_bracketed (f ∷ fs) = eqb (frame_level f) 0 || is_bracketed fs

-- whether more must follow
abbrev pub is_inside : State → Bool
is_inside (wants fs) = true
is_inside (partial p fs) = true
is_inside (worded w fs) = is_bracketed fs
is_inside (has v n c fs) = is_bracketed fs
