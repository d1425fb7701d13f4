-- How a list of tokens is read from left to right, with what is open on a stack.
use Rattle.std.specs.Prelude.{ℕ, suc, ◌+◌, Bool, true, false, cond, leb, ltb, List, [], ◌∷◌, ◌++◌, length, Option, Some, None, option_and_then}
use Rattle.rw_terms.specs.declared.term.Sort.{Sort}
use Rattle.rw_terms.specs.declared.term.Sort.TheVariants as sorts
use Rattle.rw_syntax.specs.declared.token.Infix.{Infix}
use Rattle.rw_syntax.specs.declared.token.Infix.TheVariants as infixes
use Rattle.rw_syntax.specs.declared.token.Quantifier.{Quantifier}
use Rattle.rw_syntax.specs.declared.token.Token.{Token}
use Rattle.rw_syntax.specs.declared.token.Token.TheVariants as tokens
use Rattle.rw_syntax.specs.declared.frame.Part.{Part}
use Rattle.rw_syntax.specs.declared.frame.Binder.{Binder}
use Rattle.rw_syntax.specs.declared.frame.Binder.TheVariants as binders
use Rattle.rw_syntax.specs.declared.frame.Prefix.TheVariants as prefixes
use Rattle.rw_syntax.specs.declared.frame.Head.{Head}
use Rattle.rw_syntax.specs.declared.frame.Head.TheVariants as heads
use Rattle.rw_syntax.specs.declared.frame.Frame.{Frame}
use Rattle.rw_syntax.specs.declared.frame.Frame.TheVariants as frames
use Rattle.rw_syntax.specs.declared.frame.Partial.{Partial}
pub use Rattle.rw_syntax.specs.declared.state.State.{State}
use Rattle.rw_syntax.specs.declared.state.Operand.{Operand}
pub use Rattle.rw_syntax.specs.Open.{frame_level, frame_hole, made, frame_chain, hole, top_level, frame_scope, scope, frame_nest, stack_nest}
pub use Rattle.rw_syntax.specs.declared.state.State.TheVariants.{Wants as wants, Partial as partial, Worded as worded, Has as has}
use Rattle.rw_syntax.specs.declared.frame.Partial.TheVariants as partials
use Rattle.rw_syntax.specs.Grammar.{Leaf, number, word, initial, place, truth, leaf_level, leaf_part, level_of, left_of, head_level, shut, fits, is_known, is_length, is_binder, takes, read_at, applied, as_term, adds}

-- the nest behind the first tokens of a quantifier or of `put`
abbrev pub partial_nest : Partial → ℕ → ℕ
partial_nest (partials.Naming q) d = suc d
partial_nest (partials.Named q b) d = suc d
partial_nest (partials.Sorting q b) d = suc d
partial_nest (partials.Measuring q b) d = suc d
partial_nest (partials.Sorted q b s) d = suc d
partial_nest partials.Putting d = d

-- an operand that was read
abbrev pub has_of : Operand → State
has_of o = has o.part o.level o.chain o.stack

-- the nest behind the tokens that were read
abbrev pub nest : State → ℕ
nest (wants fs) = stack_nest fs
nest (partial p fs) = partial_nest p (stack_nest fs)
nest (worded w fs) = stack_nest fs
nest (has v n c fs) = stack_nest fs + c

-- ends the frames whose level is at least `bound`
unfoldable pub ended : ℕ → Part → ℕ → ℕ → List Frame → Option State
ended bound v n c [] = Some (has v n c [])
ended bound v n c (f ∷ fs) =
    cond (leb bound (frame_level f)) (cond (fits (frame_hole f) n) (ended bound (made f v) (frame_level f) (frame_chain f) fs) None) (Some (has v n c (f ∷ fs)))

-- a state, where an operand of a level may stand where one is wanted
abbrev pub begun : ℕ → ℕ → State → Option State
begun wanted n s = cond (leb wanted n) (Some s) None

-- an operand of one token
abbrev pub leaf_read : ℕ → List Binder → Leaf → List Frame → Option State
leaf_read wanted env l fs = cond (is_known env l) (begun wanted (leaf_level l) (has (leaf_part env l) (leaf_level l) 0 fs)) None

-- a token where an operand is wanted, under the names in scope
abbrev pub begin : ℕ → List Binder → List Frame → Token → Option State
begin wanted env fs (tokens.Number n) = leaf_read wanted env (number n) fs
begin wanted env fs (tokens.Word w) = Some (worded w fs)
begin wanted env fs (tokens.Initial w) = leaf_read wanted env (initial w) fs
begin wanted env fs (tokens.Place n) = leaf_read wanted env (place n) fs
begin wanted env fs (tokens.Truth b) = leaf_read wanted env (truth b) fs
begin wanted env fs (tokens.Infix infixes.Minus) = begun wanted 8 (wants (frames.Prefix prefixes.Minus ∷ fs))
begin wanted env fs (tokens.Infix _) = None
begin wanted env fs tokens.Not = begun wanted 4 (wants (frames.Prefix prefixes.Not ∷ fs))
begin wanted env fs (tokens.Quantifier q) = begun wanted 1 (partial (partials.Naming q) fs)
begin wanted env fs tokens.Put = Some (partial partials.Putting fs)
begin wanted env fs tokens.Open = Some (wants (frames.Group (leb 6 wanted) ∷ fs))
begin wanted env fs tokens.Int = None
begin wanted env fs tokens.Array = None
begin wanted env fs tokens.Close = None
begin wanted env fs tokens.OpenSquare = None
begin wanted env fs tokens.CloseSquare = None
begin wanted env fs tokens.Comma = None
begin wanted env fs tokens.Colon = None
begin wanted env fs tokens.Dot = None

-- the rest of a quantifier or of `put`

-- a binder behind a quantifier
abbrev pub named_by : Quantifier → Binder → List Frame → Option State
named_by q b fs = cond (is_binder b) (Some (partial (partials.Named q b) fs)) None

-- a token behind a quantifier
abbrev pub naming : Quantifier → List Frame → Token → Option State
naming q fs (tokens.Word w) = named_by q (binders.Named w) fs
naming q fs (tokens.Place n) = named_by q (binders.Numbered n) fs
naming q fs _ = None

-- a token behind a quantifier's binder
abbrev pub coloned : Quantifier → Binder → List Frame → Token → Option State
coloned q b fs tokens.Colon = Some (partial (partials.Sorting q b) fs)
coloned q b fs _ = None

-- a token where a sort is wanted
abbrev pub sorting : Quantifier → Binder → List Frame → Token → Option State
sorting q b fs tokens.Int = Some (partial (partials.Sorted q b sorts.Int) fs)
sorting q b fs tokens.Array = Some (partial (partials.Measuring q b) fs)
sorting q b fs _ = None

-- a token where an array's length is wanted
abbrev pub measuring : Quantifier → Binder → List Frame → Token → Option State
measuring q b fs (tokens.Number n) = cond (is_length n) (Some (partial (partials.Sorted q b (sorts.Array n)) fs)) None
measuring q b fs _ = None

-- a token behind a quantifier's sort
abbrev pub dotted : Quantifier → Binder → Sort → List Frame → Token → Option State
dotted q b s fs tokens.Dot = Some (wants (frames.Prefix (prefixes.Bind q b s) ∷ fs))
dotted q b s fs _ = None

-- a token behind `put`
abbrev pub putting : List Frame → Token → Option State
putting fs tokens.Open = Some (wants (frames.Call heads.Put [] ∷ fs))
putting fs _ = None

-- a token behind the first ones of a quantifier or of `put`
abbrev pub partial_step : Partial → List Frame → Token → Option State
partial_step (partials.Naming q) fs t = naming q fs t
partial_step (partials.Named q b) fs t = coloned q b fs t
partial_step (partials.Sorting q b) fs t = sorting q b fs t
partial_step (partials.Measuring q b) fs t = measuring q b fs t
partial_step (partials.Sorted q b s) fs t = dotted q b s fs t
partial_step partials.Putting fs t = putting fs t

-- behind an operand

-- an operator behind an operand that fits its left side
abbrev pub extended : ℕ → Infix → State → Option State
extended goal op (has v n c fs) = cond (fits (left_of op) n) (begun (hole goal fs) (level_of op) (wants (frames.Infix op v (adds op n c) ∷ fs))) None
extended goal op _ = None

-- what a closing parenthesis makes of the frame that it closes
abbrev pub closed_frame : Part → ℕ → Frame → List Frame → Option State
closed_frame v n (frames.Group only) fs = Some (has v (shut n) 0 fs)
closed_frame v n (frames.Call h us) fs = cond (takes h (length us)) (Some (has (applied h us v) (head_level h) 0 fs)) None
closed_frame v n (frames.Prefix p) fs = None
closed_frame v n (frames.Infix op u k) fs = None
closed_frame v n (frames.Index u k) fs = None

-- a closing parenthesis
abbrev pub closed : State → Option State
closed (has v n c (f ∷ fs)) = closed_frame v n f fs
closed _ = None

-- what a closing bracket makes of the frame that it closes
abbrev pub indexed_frame : Part → Frame → List Frame → Option State
indexed_frame v (frames.Index u k) fs = Some (has (read_at u v) 9 k fs)
indexed_frame v _ fs = None

-- a closing bracket
abbrev pub indexed : State → Option State
indexed (has v n c (f ∷ fs)) = indexed_frame v f fs
indexed _ = None

-- whether one more term than so many may follow
abbrev pub expects : Head → ℕ → Bool
expects heads.Put n = ltb n 2
expects (heads.Named w) n = true

-- what a comma makes of the frame that it stands in
abbrev pub listed_frame : Part → Frame → List Frame → Option State
listed_frame v (frames.Call h us) fs = cond (expects h (length us)) (Some (wants (frames.Call h (us ++ as_term v ∷ []) ∷ fs))) None
listed_frame v _ fs = None

-- a comma
abbrev pub listed : State → Option State
listed (has v n c (f ∷ fs)) = listed_frame v f fs
listed _ = None

-- a token behind an operand
abbrev pub go_on : ℕ → Part → ℕ → ℕ → List Frame → Token → Option State
go_on goal v n c fs (tokens.Infix op) = option_and_then (extended goal op) (ended (left_of op) v n c fs)
go_on goal v n c fs tokens.Close = option_and_then closed (ended 1 v n c fs)
go_on goal v n c fs tokens.CloseSquare = option_and_then indexed (ended 1 v n c fs)
go_on goal v n c fs tokens.Comma = option_and_then listed (ended 1 v n c fs)
go_on goal v n c fs tokens.OpenSquare = cond (fits 9 n) (Some (wants (frames.Index v (suc c) ∷ fs))) None
go_on goal v n c fs _ = None

-- whether a token is an opening parenthesis
abbrev pub is_open : Token → Bool
is_open tokens.Open = true
is_open _ = false

-- what a word is that is no head
abbrev pub word_part : List ℕ → List Frame → Part
word_part w fs = leaf_part (scope fs) (word w)

-- the state behind one more token
abbrev pub step : ℕ → State → Token → Option State
step goal (wants fs) t = begin (hole goal fs) (scope fs) fs t
step goal (partial p fs) t = partial_step p fs t
step goal (worded w fs) t = cond (is_open t) (begun (hole goal fs) (head_level (heads.Named w)) (wants (frames.Call (heads.Named w) [] ∷ fs))) (go_on goal (word_part w fs) 9 0 fs t)
step goal (has v n c fs) t = go_on goal v n c fs t

-- the state behind more tokens
unfoldable pub run : ℕ → State → List Token → Option State
run goal s [] = Some s
run goal s (t ∷ ts) = option_and_then (λ s2. run goal s2 ts) (step goal s t)

-- the nests from a state on, and none where there is none
abbrev pub from_state : (State → List ℕ) → Option State → List ℕ
from_state f None = []
from_state f (Some s) = f s

-- the nest behind each token
unfoldable pub trace : ℕ → State → List Token → List ℕ
trace goal s [] = []
trace goal s (t ∷ ts) = from_state (λ s2. nest s2 ∷ trace goal s2 ts) (step goal s t)

-- an operand that stands for itself and is of the level that is read
abbrev pub whole : ℕ → State → Option Part
whole goal (has v n c []) = cond (fits goal n) (Some v) None
whole goal _ = None

-- the value where the tokens end behind an operand
abbrev pub finish_with : ℕ → Part → ℕ → ℕ → List Frame → Option Part
finish_with goal v n c fs = option_and_then (whole goal) (ended 1 v n c fs)

-- the value where the tokens end
abbrev pub finish : ℕ → State → Option Part
finish goal (wants fs) = None
finish goal (partial p fs) = None
finish goal (worded w fs) = finish_with goal (word_part w fs) 9 0 fs
finish goal (has v n c fs) = finish_with goal v n c fs

-- with a nest within `most`
abbrev pub limited : ℕ → State → Option State
limited most s = cond (leb (nest s) most) (Some s) None

-- the state behind one more token
abbrev pub advance : ℕ → ℕ → State → Token → Option State
advance most goal s t = option_and_then (limited most) (step goal s t)

-- the state behind more tokens, with a nest within `most` at each
unfoldable pub run_within : ℕ → ℕ → State → List Token → Option State
run_within most goal s [] = Some s
run_within most goal s (t ∷ ts) = option_and_then (λ s2. run_within most goal s2 ts) (advance most goal s t)
