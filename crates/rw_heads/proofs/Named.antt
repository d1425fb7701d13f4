-- Where the procedure, the module, the operation or the name stands.
use Rattle.std.proofs.Common.{◌≡◌, ℕ, ◌<◌, true, false, List, length, remove, Some}
use Rattle.std.specs.Prelude.{slice_set, bytes_eq}
use Rattle.std.specs.List.{slice_get}
use Rattle.rw_heads.specs.declared.head.ProcHead.{ProcHead}
use Rattle.rw_heads.specs.declared.head.Module.{Module}
use Rattle.rw_heads.specs.declared.head.Oper.{Oper}
use Rattle.rw_heads.specs.Listed.{change_by, name_place, without_name}
use Rattle.rw_heads.specs.Heads.{is_proc, has_proc, find_proc, proc_place, put_proc, without_proc, is_module, has_module, find_module, module_place, put_module, without_module, with_operations, is_oper, has_oper, find_oper, oper_place, put_oper}
use Rattle.rw_heads.proofs.Listed.{place_found, found_there, put_there, put_changed, none_changed, removed}

pub proc_there : (procs : List ProcHead) (x : List ℕ) → has_proc x procs ≡ true → proc_place x procs < length procs
proc_there procs x h = place_found (is_proc x) procs h

pub proc_found : (procs : List ProcHead) (x : List ℕ) (g : ProcHead) → slice_get procs (proc_place x procs) ≡ Some g → find_proc x procs ≡ Some g
proc_found procs x g e = found_there (is_proc x) procs g e

pub proc_put : (procs : List ProcHead) (h g : ProcHead) → slice_get procs (proc_place h.name procs) ≡ Some g → slice_set procs (proc_place h.name procs) h ≡ put_proc procs h
proc_put procs h g e = put_there (is_proc h.name) (λ k. h) h procs g e

pub proc_removed : (procs : List ProcHead) (x : List ℕ) → remove procs (proc_place x procs) ≡ without_proc x procs
proc_removed procs x = removed (is_proc x) procs

pub module_there : (modules : List Module) (x : List ℕ) → has_module x modules ≡ true → module_place x modules < length modules
module_there modules x h = place_found (is_module x) modules h

pub module_found : (modules : List Module) (x : List ℕ) (m : Module) → slice_get modules (module_place x modules) ≡ Some m → find_module x modules ≡ Some m
module_found modules x m e = found_there (is_module x) modules m e

pub module_put : (modules : List Module) (m n : Module) → slice_get modules (module_place m.name modules) ≡ Some n → slice_set modules (module_place m.name modules) (with_operations n.operations m) ≡ put_module modules m
module_put modules m n e = put_there (is_module m.name) (λ k. with_operations k.operations m) m modules n e

pub module_changed : (modules : List Module) (m : Module) → has_module m.name modules ≡ true → put_module modules m ≡ change_by (is_module m.name) (λ n. with_operations n.operations m) modules
module_changed modules m h = put_changed (is_module m.name) (λ n. with_operations n.operations m) m modules h

pub module_kept : (modules : List Module) (m : Module) → has_module m.name modules ≡ false → modules ≡ change_by (is_module m.name) (λ n. with_operations n.operations m) modules
module_kept modules m h = none_changed (is_module m.name) (λ n. with_operations n.operations m) modules h

pub module_removed : (modules : List Module) (x : List ℕ) → remove modules (module_place x modules) ≡ without_module x modules
module_removed modules x = removed (is_module x) modules

pub oper_there : (operations : List Oper) (x : List ℕ) → has_oper x operations ≡ true → oper_place x operations < length operations
oper_there operations x h = place_found (is_oper x) operations h

pub oper_found : (operations : List Oper) (x : List ℕ) (o : Oper) → slice_get operations (oper_place x operations) ≡ Some o → find_oper x operations ≡ Some o
oper_found operations x o e = found_there (is_oper x) operations o e

pub oper_put : (operations : List Oper) (o k : Oper) → slice_get operations (oper_place o.name operations) ≡ Some k → slice_set operations (oper_place o.name operations) o ≡ put_oper operations o
oper_put operations o k e = put_there (is_oper o.name) (λ j. o) o operations k e

pub name_removed : (names : List (List ℕ)) (x : List ℕ) → remove names (name_place x names) ≡ without_name x names
name_removed names x = removed (λ y. bytes_eq y x) names
