-- What a closed derivation promises.
use Rattle.std.specs.Prelude.{◌≡◌, ℕ, true, false, List, [], map, Some}
use Rattle.rw_terms.specs.declared.scope.Entry.{Entry}
use Rattle.rw_terms.specs.declared.term.Formula.{Formula}
use Rattle.rw_programs.specs.declared.prog.Spec.{Spec}
use Rattle.rw_programs.specs.declared.prog.Prog.{Prog}
use Rattle.rw_programs.specs.declared.prog.Prog.TheVariants as prog
use Rattle.rw_programs.specs.State.{State, Fits, Holds}
use Rattle.rw_programs.specs.Tables.{Table}
use Rattle.rw_programs.specs.Refine.{Wp, Refines}
use Rattle.rw_goals.specs.Library.{definitions_of}
use Rattle.rw_nodes.specs.declared.edit.Edit.{Edit}
use Rattle.rw_nodes.specs.Edits.{global, globals_of, root_of}
use Rattle.rw_tree.specs.Accepting.{IsGood}
use Rattle.rw_anew.specs.Anew.{library_of}
use Rattle.rw_anew.specs.Uses.{IsClosed}
use Rattle.rw_collect.specs.Code.{code_of}

-- what the specifications are read by: the definitions of the table; loops go by their variants; no procedures and modules are there
-- yet
abbrev pub heads_by : List Edit → Table
heads_by l = record { library = definitions_of (library_of l); is_concrete = false; by_variant = true; procs = []; modules = [] }

-- what the collected program is read by: no predicate stands in code
abbrev pub table : Table
table = record { library = []; is_concrete = true; by_variant = false; procs = []; modules = [] }

-- the names of the main tree: the globals
abbrev pub scope_of : List Edit → List Entry
scope_of l = map global (globals_of l)

-- the collected program refines the root: for every formula the root's weakest precondition implies the program's
pub record CodeRefinesRoot (l : List Edit) : Type 0 where
  pub root : Spec
  pub is_root : root_of l ≡ Some root
  pub program : Prog
  pub is_code : code_of l ≡ Some program
  pub refines : Refines (scope_of l) (prog.Spec root) (heads_by l) program table
  pub preconditions : (f : Formula) (s : State) → Fits (scope_of l) s → Wp (heads_by l) (prog.Spec root) (λ t. Holds (heads_by l).library f t t) s → Wp table program (λ t. Holds (heads_by l).library f t t) s

-- where accepted edits make a closed derivation, its program refines its root
abbrev pub ClosedRefines : Type 0
ClosedRefines = (most : ℕ) (l : List Edit) → IsGood most l → IsClosed l → CodeRefinesRoot l
