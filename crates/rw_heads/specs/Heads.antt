-- Procedures, modules and operations by their names.
use Rattle.std.specs.Prelude.{ℕ, Bool, List, [], Option, Some, None, bytes_eq}
use Rattle.std.specs.List.{list_any, find}
use Rattle.rw_heads.specs.declared.head.ProcHead.{ProcHead}
use Rattle.rw_heads.specs.declared.head.Module.{Module}
use Rattle.rw_heads.specs.declared.head.Oper.{Oper}
use Rattle.rw_heads.specs.Listed.{put_by, change_by, without_by, place_by}

-- whether a procedure has the name
abbrev pub is_proc : List ℕ → ProcHead → Bool
is_proc x h = bytes_eq h.name x

-- whether some procedure has it
abbrev pub has_proc : List ℕ → List ProcHead → Bool
has_proc x procs = list_any (is_proc x) procs

-- the procedure of a name
abbrev pub find_proc : List ℕ → List ProcHead → Option ProcHead
find_proc x procs = find (is_proc x) procs

-- where it stands, counted from 0, or how many there are
abbrev pub proc_place : List ℕ → List ProcHead → ℕ
proc_place x procs = place_by (is_proc x) procs

-- the procedures with one set: it keeps its place, and a new one goes last
abbrev pub put_proc : List ProcHead → ProcHead → List ProcHead
put_proc procs h = put_by (is_proc h.name) (λ g. h) h procs

-- the procedures but that of a name
abbrev pub without_proc : List ℕ → List ProcHead → List ProcHead
without_proc x procs = without_by (is_proc x) procs

-- whether a module has the name
abbrev pub is_module : List ℕ → Module → Bool
is_module x m = bytes_eq m.name x

-- whether some module has it
abbrev pub has_module : List ℕ → List Module → Bool
has_module x modules = list_any (is_module x) modules

-- the module of a name
abbrev pub find_module : List ℕ → List Module → Option Module
find_module x modules = find (is_module x) modules

-- where it stands, counted from 0, or how many there are
abbrev pub module_place : List ℕ → List Module → ℕ
module_place x modules = place_by (is_module x) modules

-- a module with these operations
abbrev pub with_operations : List Oper → Module → Module
with_operations operations m = record m { operations = operations }

-- the modules with one set, which keeps its place and its operations
abbrev pub put_module : List Module → Module → List Module
put_module modules m = put_by (is_module m.name) (λ n. with_operations n.operations m) m modules

-- the modules but that of a name
abbrev pub without_module : List ℕ → List Module → List Module
without_module x modules = without_by (is_module x) modules

-- whether an operation has the name
abbrev pub is_oper : List ℕ → Oper → Bool
is_oper x o = bytes_eq o.name x

-- whether some operation has it
abbrev pub has_oper : List ℕ → List Oper → Bool
has_oper x operations = list_any (is_oper x) operations

-- the operation of a name
abbrev pub find_oper : List ℕ → List Oper → Option Oper
find_oper x operations = find (is_oper x) operations

-- where it stands, counted from 0, or how many there are
abbrev pub oper_place : List ℕ → List Oper → ℕ
oper_place x operations = place_by (is_oper x) operations

-- the operations with one set: it keeps its place, and a new one goes last
abbrev pub put_oper : List Oper → Oper → List Oper
put_oper operations o = put_by (is_oper o.name) (λ n. o) o operations

-- the modules with an operation set in that of a name
abbrev pub modules_with : List Module → List ℕ → Oper → List Module
modules_with modules x o = change_by (is_module x) (λ m. with_operations (put_oper m.operations o) m) modules

abbrev pub operations_in : Option Module → List Oper
operations_in None = []
operations_in (Some m) = m.operations

-- the operations of the module of a name
abbrev pub operations_of : List ℕ → List Module → List Oper
operations_of x modules = operations_in (find_module x modules)
