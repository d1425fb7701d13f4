-- What the roots of trees are given.
use Rattle.std.specs.Prelude.{List, [], ◌++◌, map, false, Option, Some, None}
use Rattle.std.specs.Option.{option_map}
use Rattle.rw_terms.specs.declared.scope.Entry.{Entry}
use Rattle.rw_terms.specs.declared.scope.Kind.{Kind}
use Rattle.rw_terms.specs.declared.scope.Kind.TheVariants as kind
use Rattle.rw_programs.specs.declared.prog.Param.{Param}
use Rattle.rw_programs.specs.declared.prog.Spec.{Spec}
use Rattle.rw_programs.specs.declared.applied.Context.{Context}
use Rattle.rw_programs.specs.declared.applied.Child.{Child}
use Rattle.rw_programs.specs.State.{names_of}
use Rattle.rw_heads.specs.declared.head.ProcHead.{ProcHead}
use Rattle.rw_heads.specs.Heads.{find_proc}
use Rattle.rw_heads.specs.Listed.{name_place}
use Rattle.rw_edits.specs.declared.edit.TreeName.{TreeName}
use Rattle.rw_edits.specs.declared.edit.TreeName.TheVariants as tree
use Rattle.rw_trees.specs.Around.{Around}
use Rattle.rw_trees.specs.Edits.{global}

-- where the main tree stands: its scope is the globals
unfoldable pub main_context : List Param → Context
main_context globals = record { scope = map global globals; opened = []; order = 4294967295; inner = false }

-- the root is given the specification that was set last, over the globals
abbrev pub root_given : List Param → Option Spec → Option Child
root_given globals None = None
root_given globals (Some w) = Some (record { context = main_context globals; spec = w })

-- a parameter in a scope
abbrev pub entry_as : Kind → Param → Entry
entry_as k p = record { name = p.name; sort = p.sort; kind = k }

-- where the tree of a procedure stands: its scope is the values and the results, and its place that of the procedure in the table
unfoldable pub proc_context : Around → ProcHead → Context
proc_context around h = record {
  scope = map (entry_as kind.Value) h.values ++ map (entry_as kind.Outcome) h.results;
  opened = [];
  order = name_place h.name around.order;
  inner = false;
}

-- what a head promises: its results are the frame
unfoldable pub proc_spec : ProcHead → Spec
proc_spec h = record { frame = names_of h.results; pre = h.pre; post = h.post }

abbrev pub proc_given : Around → ProcHead → Child
proc_given around h = record { context = proc_context around h; spec = proc_spec h }

-- what the root of a tree is given; the trees of modules have nothing yet
abbrev pub tree_given : Around → List Param → Option Spec → TreeName → Option Child
tree_given around globals root tree.Main = root_given globals root
tree_given around globals root (tree.Proc x) = option_map (proc_given around) (find_proc x around.procs)
tree_given around globals root (tree.Start m) = None
tree_given around globals root (tree.Oper m x) = None
