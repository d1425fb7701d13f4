-- The steps of the machine, shut: code that only hands on need not see them.
use Rattle.std.specs.Prelude.{ℕ, suc, cond, List, ◌∷◌, Option, Some, None, option_and_then}
use Rattle.rw_syntax.specs.declared.token.Token.{Token}
use Rattle.rw_syntax.specs.declared.frame.Part.{Part}
use Rattle.rw_syntax.specs.declared.frame.Frame.{Frame}
use Rattle.rw_syntax.specs.declared.frame.Frame.TheVariants as frames
use Rattle.rw_syntax.specs.declared.frame.Partial.{Partial}
use Rattle.rw_syntax.specs.Grammar.{fits}
use Rattle.rw_syntax.specs.Machine.{State, wants, scope, ended, begin, partial_step, closed, indexed, listed, go_on, step, advance, finish}

-- where an operand of a level is wanted
unfoldable pub begin_shut : ℕ → List Frame → Token → Option State
begin_shut wanted fs t = begin wanted (scope fs) fs t

-- behind the first tokens of a quantifier or of `put`
unfoldable pub partial_shut : Partial → List Frame → Token → Option State
partial_shut p fs t = partial_step p fs t

-- a parenthesis, a bracket, a comma and an index behind an operand
unfoldable pub close_shut : Part → ℕ → ℕ → List Frame → Option State
close_shut v n c fs = option_and_then closed (ended 1 v n c fs)

unfoldable pub close_square_shut : Part → ℕ → ℕ → List Frame → Option State
close_square_shut v n c fs = option_and_then indexed (ended 1 v n c fs)

unfoldable pub comma_shut : Part → ℕ → ℕ → List Frame → Option State
comma_shut v n c fs = option_and_then listed (ended 1 v n c fs)

unfoldable pub open_square_shut : Part → ℕ → ℕ → List Frame → Option State
open_square_shut v n c fs = cond (fits 9 n) (Some (wants (frames.Index v (suc c) ∷ fs))) None

-- behind an operand
unfoldable pub go_on_shut : ℕ → Part → ℕ → ℕ → List Frame → Token → Option State
go_on_shut goal v n c fs t = go_on goal v n c fs t

-- one more token
unfoldable pub step_shut : ℕ → State → Token → Option State
step_shut goal s t = step goal s t

-- a step with a nest within `most`
unfoldable pub advance_shut : ℕ → ℕ → State → Token → Option State
advance_shut most goal s t = advance most goal s t

-- the end of the tokens
unfoldable pub finish_shut : ℕ → State → Option Part
finish_shut goal s = finish goal s
