-- The first loops of bodies are among the loops of the code.
use Rattle.std.proofs.Common.{◌≡◌, subst, ◌+◌, ◌≤◌, Bool, true, false, cond, if◌then◌else◌, List, [], ◌∷◌, Some, arith}
use Rattle.std.specs.Prelude.{bytes_eq}
use Rattle.rw_programs.specs.declared.prog.ProcCode.{ProcCode}
use Rattle.rw_programs.specs.declared.prog.ModCode.{ModCode}
use Rattle.rw_programs.specs.declared.prog.Code.{Code}
use Rattle.rw_programs.specs.State.{Name}
use Rattle.rw_programs.specs.Tables.{find_module}
use Rattle.rw_numbering.specs.Loops.{loops, loops_before, bodies_loops, module_loops, modules_before, first_in_proc, first_in_start, first_in_operation, modules_loops, all_loops}

before_within : (f : Name) (es : List ProcCode) → loops_before f es ≤ bodies_loops es
before_within f [] = omega arith
before_within f (e ∷ es) = go (bytes_eq e.name f) (before_within f es)
  where
    go : (b : Bool) → loops_before f es ≤ bodies_loops es → cond b 0 (loops e.body + loops_before f es) ≤ loops e.body + bodies_loops es
    go true h = omega arith
    go false h = omega (arith, h)

modules_within : (m : Name) (ds : List ModCode) → modules_before m ds ≤ modules_loops ds
modules_within m [] = omega arith
modules_within m (d ∷ ds) = go (bytes_eq d.name m) (modules_within m ds)
  where
    go : (b : Bool) → modules_before m ds ≤ modules_loops ds → cond b 0 (module_loops d + modules_before m ds) ≤ module_loops d + modules_loops ds
    go true h = omega arith
    go false h = omega (arith, h)

pub module_within : (m : Name) (ds : List ModCode) (d : ModCode) → find_module m ds ≡ Some d → modules_before m ds + module_loops d ≤ modules_loops ds
module_within m [] d e = absurd (cc)
module_within m (a ∷ ds) d e = go (bytes_eq a.name m) e (module_within m ds d)
  where
    go : (b : Bool) → (if b then Some a else find_module m ds) ≡ Some d → (find_module m ds ≡ Some d → modules_before m ds + module_loops d ≤ modules_loops ds)
        → cond b 0 (module_loops a + modules_before m ds) + module_loops d ≤ module_loops a + modules_loops ds
    go true e h = let i : a ≡ d = cc in subst (λ x. 0 + module_loops x ≤ module_loops a + modules_loops ds) i (omega arith)
    go false e h = let k = h e in omega (arith, k)

pub proc_number : (code : Code) (f : Name) → first_in_proc code f ≤ all_loops code
proc_number code f = let h = before_within f code.procs in omega (arith, h)

pub start_number : (code : Code) (m : Name) → first_in_start code m ≤ all_loops code
start_number code m = let h = modules_within m code.modules in omega (arith, h)

pub operation_number : (code : Code) (m : Name) (d : ModCode) (o : Name) → find_module m code.modules ≡ Some d → first_in_operation code m d o ≤ all_loops code
operation_number code m d o e = let h = module_within m code.modules d e in let k = before_within o d.operations in omega (arith, h, k)
