-- The binder that a frame is.
use Rattle.std.specs.Prelude.{Option, Some, None}
use Rattle.rw_syntax.specs.declared.frame.Binder.{Binder}
use Rattle.rw_syntax.specs.declared.frame.Prefix.{Prefix}
use Rattle.rw_syntax.specs.declared.frame.Prefix.TheVariants as prefixes
use Rattle.rw_syntax.specs.declared.frame.Frame.{Frame}
use Rattle.rw_syntax.specs.declared.frame.Frame.TheVariants as frames

-- the binder of a quantifier
abbrev pub prefix_binder : Prefix → Option Binder
prefix_binder prefixes.Minus = None
prefix_binder prefixes.Not = None
prefix_binder (prefixes.Bind q b s) = Some b

-- the binder that stands in a frame
abbrev pub frame_binder : Frame → Option Binder
frame_binder (frames.Prefix p) = prefix_binder p
frame_binder (frames.Infix op v c) = None
frame_binder (frames.Group only) = None
frame_binder (frames.Index v c) = None
frame_binder (frames.Call h us) = None
