-- The tests of what is in use: a definition that gets other sorts, and what is dropped.
use Rattle.std.specs.Prelude.{ℕ, if◌then◌else◌, List, [], Option, Some, None}
use Rattle.rw_programs.specs.declared.prog.Spec.{Spec}
use Rattle.rw_goals.specs.declared.library.Definition.{Definition}
use Rattle.rw_heads.specs.Listed.{has_name}
use Rattle.rw_library.specs.Parameters.{keeps_sorts}
use Rattle.rw_edits.specs.declared.edit.Spot.{Spot}
use Rattle.rw_edits.specs.declared.edit.Spot.TheVariants as spot
use Rattle.rw_edits.specs.declared.edit.TreeName.TheVariants as tree
use Rattle.rw_edits.specs.Names.{place_in}
use Rattle.rw_trees.specs.declared.parts.Parts.{Parts}
use Rattle.rw_trees.specs.Edits.{is_param}
use Rattle.rw_users.specs.Users.{user_in, root_speaks}
use Rattle.rw_edit_tests.specs.declared.refusal.EditRefusal.{EditRefusal}
use Rattle.rw_edit_tests.specs.declared.refusal.EditRefusal.TheVariants as refusal

-- what has a user is in use
abbrev pub in_use : List ℕ → Option Spot → Option EditRefusal
in_use x None = None
in_use x (Some s) = Some (refusal.InUse x s)

-- what uses a definition would be ill-formed where its parameters' sorts change
abbrev pub sorts_refusal : Parts → Definition → Option EditRefusal
sorts_refusal parts d = if keeps_sorts d parts.library.entries then None else in_use d.name (user_in d.name parts)

-- a global is in use where the root speaks of it
abbrev pub global_refusal : List ℕ → Option Spec → Option EditRefusal
global_refusal x root = if root_speaks x root then Some (refusal.InUse x (spot.At (place_in tree.Main []))) else None

-- the tests of a drop: the name is an entry's or a global's, and nothing uses it
abbrev pub drop_refusal : Parts → List ℕ → Option EditRefusal
drop_refusal parts x =
    if has_name x parts.order then in_use x (user_in x parts)
    else if is_param parts.globals x then global_refusal x parts.root
    else Some (refusal.Unknown x)
