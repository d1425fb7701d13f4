-- What surrounds the steps of a project's trees: what their laws read of the table.
use Rattle.std.specs.Prelude.{ℕ, suc, if◌then◌else◌, List, [], ◌∷◌, bytes_eq, Option, Some, None}
use Rattle.rw_terms.specs.declared.scope.Head.{Head}
use Rattle.rw_library.specs.Entries.{heads_of}
use Rattle.rw_edits.specs.declared.edit.Edit.{Edit}
use Rattle.rw_heads.specs.declared.head.ProcHead.{ProcHead}
use Rattle.rw_heads.specs.declared.head.Module.{Module}
use Rattle.rw_trees.specs.declared.parts.Parts.{Parts}
use Rattle.rw_trees.specs.Table.{entries_of, procs_of, modules_of, order_of}

-- the heads of predicates, the procedures and the modules, and the names of all entries in table order
pub record Around : Type 0 where
  pub heads : List Head
  pub procs : List ProcHead
  pub modules : List Module
  pub order : List (List ℕ)

-- what surrounds them in a project, and in the one that a list makes
abbrev pub around_in : Parts → Around
around_in parts = record { heads = heads_of parts.library.entries; procs = parts.procs; modules = parts.modules; order = parts.order }

abbrev pub around_of : List Edit → Around
around_of l = record { heads = heads_of (entries_of l); procs = procs_of l; modules = modules_of l; order = order_of l }

-- where a name stands, counted from 0, or how many there are
abbrev pub place_in : List (List ℕ) → List ℕ → ℕ
place_in [] x = 0
place_in (y ∷ ys) x = if bytes_eq y x then 0 else suc (place_in ys x)

-- the procedure of a name
abbrev pub find_head : List ProcHead → List ℕ → Option ProcHead
find_head [] x = None
find_head (h ∷ hs) x = if bytes_eq h.name x then Some h else find_head hs x
