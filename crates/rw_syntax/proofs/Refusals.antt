-- What a token is to the machine where an operand is wanted, and behind an operand.
use Rattle.std.proofs.Common.{◌≡◌, ℕ, Bool, List, Some, None, refl}
use Rattle.rw_syntax.specs.declared.token.Quantifier.{Quantifier}
use Rattle.rw_syntax.specs.declared.frame.Part.{Part}
use Rattle.rw_syntax.specs.declared.token.Token.TheVariants as tokens
use Rattle.rw_syntax.specs.declared.frame.Frame.{Frame}
use Rattle.rw_syntax.specs.declared.frame.Partial.TheVariants as partials
use Rattle.rw_syntax.specs.declared.state.State.TheVariants as states
use Rattle.rw_syntax.specs.Steps.{begin_shut, close_shut, close_square_shut, comma_shut, open_square_shut, go_on_shut}

pub no_int : (wanted : ℕ) (fs : List Frame) → begin_shut wanted fs tokens.Int ≡ None
unfolding begin_shut
no_int wanted fs = refl

pub no_array : (wanted : ℕ) (fs : List Frame) → begin_shut wanted fs tokens.Array ≡ None
unfolding begin_shut
no_array wanted fs = refl

pub no_close : (wanted : ℕ) (fs : List Frame) → begin_shut wanted fs tokens.Close ≡ None
unfolding begin_shut
no_close wanted fs = refl

pub no_opensquare : (wanted : ℕ) (fs : List Frame) → begin_shut wanted fs tokens.OpenSquare ≡ None
unfolding begin_shut
no_opensquare wanted fs = refl

pub no_closesquare : (wanted : ℕ) (fs : List Frame) → begin_shut wanted fs tokens.CloseSquare ≡ None
unfolding begin_shut
no_closesquare wanted fs = refl

pub no_comma : (wanted : ℕ) (fs : List Frame) → begin_shut wanted fs tokens.Comma ≡ None
unfolding begin_shut
no_comma wanted fs = refl

pub no_colon : (wanted : ℕ) (fs : List Frame) → begin_shut wanted fs tokens.Colon ≡ None
unfolding begin_shut
no_colon wanted fs = refl

pub no_dot : (wanted : ℕ) (fs : List Frame) → begin_shut wanted fs tokens.Dot ≡ None
unfolding begin_shut
no_dot wanted fs = refl

pub begin_word : (wanted : ℕ) (fs : List Frame) (w : List ℕ) → begin_shut wanted fs (tokens.Word w) ≡ Some (states.Worded w fs)
unfolding begin_shut
begin_word wanted fs w = refl

pub begin_put : (wanted : ℕ) (fs : List Frame) → begin_shut wanted fs tokens.Put ≡ Some (states.Partial partials.Putting fs)
unfolding begin_shut
begin_put wanted fs = refl

pub ruleset begins = (begin_word, begin_put, no_int, no_array, no_close, no_opensquare, no_closesquare, no_comma, no_colon, no_dot)

pub no_number : (goal : ℕ) (v : Part) (n0 c : ℕ) (fs : List Frame) (n : ℕ) → go_on_shut goal v n0 c fs (tokens.Number n) ≡ None
unfolding go_on_shut
no_number goal v n0 c fs n = refl

pub no_word : (goal : ℕ) (v : Part) (n0 c : ℕ) (fs : List Frame) (w : List ℕ) → go_on_shut goal v n0 c fs (tokens.Word w) ≡ None
unfolding go_on_shut
no_word goal v n0 c fs w = refl

pub no_initial : (goal : ℕ) (v : Part) (n0 c : ℕ) (fs : List Frame) (w : List ℕ) → go_on_shut goal v n0 c fs (tokens.Initial w) ≡ None
unfolding go_on_shut
no_initial goal v n0 c fs w = refl

pub no_place : (goal : ℕ) (v : Part) (n0 c : ℕ) (fs : List Frame) (n : ℕ) → go_on_shut goal v n0 c fs (tokens.Place n) ≡ None
unfolding go_on_shut
no_place goal v n0 c fs n = refl

pub no_truth : (goal : ℕ) (v : Part) (n0 c : ℕ) (fs : List Frame) (b : Bool) → go_on_shut goal v n0 c fs (tokens.Truth b) ≡ None
unfolding go_on_shut
no_truth goal v n0 c fs b = refl

pub no_not : (goal : ℕ) (v : Part) (n0 c : ℕ) (fs : List Frame) → go_on_shut goal v n0 c fs tokens.Not ≡ None
unfolding go_on_shut
no_not goal v n0 c fs = refl

pub no_quantifier : (goal : ℕ) (v : Part) (n0 c : ℕ) (fs : List Frame) (q : Quantifier) → go_on_shut goal v n0 c fs (tokens.Quantifier q) ≡ None
unfolding go_on_shut
no_quantifier goal v n0 c fs q = refl

pub no_int_behind : (goal : ℕ) (v : Part) (n0 c : ℕ) (fs : List Frame) → go_on_shut goal v n0 c fs tokens.Int ≡ None
unfolding go_on_shut
no_int_behind goal v n0 c fs = refl

pub no_array_behind : (goal : ℕ) (v : Part) (n0 c : ℕ) (fs : List Frame) → go_on_shut goal v n0 c fs tokens.Array ≡ None
unfolding go_on_shut
no_array_behind goal v n0 c fs = refl

pub no_put : (goal : ℕ) (v : Part) (n0 c : ℕ) (fs : List Frame) → go_on_shut goal v n0 c fs tokens.Put ≡ None
unfolding go_on_shut
no_put goal v n0 c fs = refl

pub no_open : (goal : ℕ) (v : Part) (n0 c : ℕ) (fs : List Frame) → go_on_shut goal v n0 c fs tokens.Open ≡ None
unfolding go_on_shut
no_open goal v n0 c fs = refl

pub no_colon_behind : (goal : ℕ) (v : Part) (n0 c : ℕ) (fs : List Frame) → go_on_shut goal v n0 c fs tokens.Colon ≡ None
unfolding go_on_shut
no_colon_behind goal v n0 c fs = refl

pub no_dot_behind : (goal : ℕ) (v : Part) (n0 c : ℕ) (fs : List Frame) → go_on_shut goal v n0 c fs tokens.Dot ≡ None
unfolding go_on_shut
no_dot_behind goal v n0 c fs = refl

pub go_close : (goal : ℕ) (v : Part) (n0 c : ℕ) (fs : List Frame) → go_on_shut goal v n0 c fs tokens.Close ≡ close_shut v n0 c fs
unfolding go_on_shut close_shut
go_close goal v n0 c fs = refl

pub go_close_square : (goal : ℕ) (v : Part) (n0 c : ℕ) (fs : List Frame) → go_on_shut goal v n0 c fs tokens.CloseSquare ≡ close_square_shut v n0 c fs
unfolding go_on_shut close_square_shut
go_close_square goal v n0 c fs = refl

pub go_comma : (goal : ℕ) (v : Part) (n0 c : ℕ) (fs : List Frame) → go_on_shut goal v n0 c fs tokens.Comma ≡ comma_shut v n0 c fs
unfolding go_on_shut comma_shut
go_comma goal v n0 c fs = refl

pub go_open_square : (goal : ℕ) (v : Part) (n0 c : ℕ) (fs : List Frame) → go_on_shut goal v n0 c fs tokens.OpenSquare ≡ open_square_shut v n0 c fs
unfolding go_on_shut open_square_shut
go_open_square goal v n0 c fs = refl

pub ruleset goes = (go_close, go_close_square, go_comma, go_open_square, no_number, no_word, no_initial, no_place, no_truth, no_not, no_quantifier, no_int_behind, no_array_behind, no_put, no_open, no_colon_behind, no_dot_behind)
