-- What is begun and not ended: a stack of frames, the innermost first.
use Rattle.std.specs.Prelude.{ℕ, suc, ◌+◌, cond, List, [], ◌∷◌}
use Rattle.rw_syntax.specs.declared.frame.Part.{Part}
use Rattle.rw_syntax.specs.declared.frame.Binder.{Binder}
use Rattle.rw_syntax.specs.declared.frame.Frame.{Frame}
use Rattle.rw_syntax.specs.declared.frame.Frame.TheVariants as frames
use Rattle.rw_syntax.specs.Grammar.{level_of, right_of, prefix_level, inner, prefixed, joined}

-- the level of what a frame makes, and 0 for a bracket
abbrev pub frame_level : Frame → ℕ
frame_level (frames.Prefix p) = prefix_level p
frame_level (frames.Infix op v c) = level_of op
frame_level (frames.Group only) = 0
frame_level (frames.Index v c) = 0
frame_level (frames.Call h us) = 0

-- the level that is wanted behind a frame
abbrev pub frame_hole : Frame → ℕ
frame_hole (frames.Prefix p) = prefix_level p
frame_hole (frames.Infix op v c) = right_of op
frame_hole (frames.Group only) = cond only 6 1
frame_hole (frames.Index v c) = 6
frame_hole (frames.Call h us) = 6

-- what a frame that is no bracket makes of its right operand
abbrev pub made : Frame → Part → Part
made (frames.Prefix p) v = prefixed p v
made (frames.Infix op u c) v = joined op u v
made (frames.Group only) v = v
made (frames.Index u c) v = v
made (frames.Call h us) v = v

-- the operators of the chain that a frame is in
abbrev pub frame_chain : Frame → ℕ
frame_chain (frames.Prefix p) = 0
frame_chain (frames.Infix op u c) = c
frame_chain (frames.Group only) = 0
frame_chain (frames.Index u c) = 0
frame_chain (frames.Call h us) = 0

-- the level that is wanted behind the frames
abbrev pub hole : ℕ → List Frame → ℕ
hole goal [] = goal
hole goal (f ∷ fs) = frame_hole f

-- the level of the innermost frame
abbrev pub top_level : List Frame → ℕ
top_level [] = 0
top_level (f ∷ fs) = frame_level f

-- the names in scope behind a frame
abbrev pub frame_scope : Frame → List Binder → List Binder
frame_scope (frames.Prefix p) env = inner p env
frame_scope (frames.Infix op u c) env = env
frame_scope (frames.Group only) env = env
frame_scope (frames.Index u c) env = env
frame_scope (frames.Call h us) env = env

-- the names that are bound behind the frames
abbrev pub scope : List Frame → List Binder
scope [] = []
scope (f ∷ fs) = frame_scope f (scope fs)

-- the nest behind a frame; an index counts one for its bracket too
abbrev pub frame_nest : Frame → ℕ → ℕ
frame_nest (frames.Prefix p) d = suc d
frame_nest (frames.Infix op u c) d = d + c
frame_nest (frames.Group only) d = suc d
frame_nest (frames.Index u c) d = d + suc c
frame_nest (frames.Call h us) d = suc d

-- the nest behind the frames
abbrev pub stack_nest : List Frame → ℕ
stack_nest [] = 0
stack_nest (f ∷ fs) = frame_nest f (stack_nest fs)
