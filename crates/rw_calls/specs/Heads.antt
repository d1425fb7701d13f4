-- Tables whose bodies are what they are to meet.
use Rattle.std.specs.Prelude.{◌≡◌, ℕ, true, false, List, ◌++◌, find, Some}
use Rattle.rw_terms.specs.declared.scope.Entry.{Entry}
use Rattle.rw_terms.specs.declared.scope.Head.{Head}
use Rattle.rw_terms.specs.declared.term.Term.{Term}
use Rattle.rw_terms.specs.declared.term.Formula.TheVariants.{True}
use Rattle.rw_terms.specs.Scopes.{has_name}
use Rattle.rw_faults.specs.Initial.{is_twice}
use Rattle.rw_programs.specs.declared.prog.ProcCode.{ProcCode}
use Rattle.rw_programs.specs.declared.prog.ModCode.{ModCode}
use Rattle.rw_programs.specs.declared.prog.Spec.{Spec}
use Rattle.rw_programs.specs.declared.prog.Prog.TheVariants as prog
use Rattle.rw_programs.specs.State.{Name, State, is_in, names_of, ValuesFor}
use Rattle.rw_programs.specs.Tables.{Table, find_proc, find_module}
use Rattle.rw_programs.specs.Meaning.{bodies, bodies_before, values}
use Rattle.rw_meaning.specs.Filling.{FitsIn, KeepsBy, StartFits, module_entries}
use Rattle.rw_heads.specs.declared.head.ProcHead.{ProcHead}
use Rattle.rw_procs.specs.Causes.{wrong_names}
use Rattle.rw_heads.specs.declared.head.Module.{Module}
use Rattle.rw_heads.specs.declared.head.Oper.{Oper}
use Rattle.rw_calls.specs.Sound.{IsFormedStart, EntryMeets, OpMeets, StartMeets}

-- a head as a specification, and a start as one
abbrev pub head_spec : ProcHead → Spec
head_spec h = record { frame = names_of h.results; pre = h.pre; post = h.post }

abbrev pub abstract_start : Module → Spec
abstract_start m = record { frame = names_of m.state; pre = True; post = m.start }

-- a procedure whose body is its head meets it
abbrev pub HeadsMeet : Type 0
HeadsMeet =
    (E : Table) (h : ProcHead) (entry : ProcCode) → find_proc h.name E.procs ≡ Some entry → entry.values ≡ h.values → entry.results ≡ h.results → entry.body ≡ prog.Spec (head_spec h) →
    EntryMeets E h entry.place

-- an operation whose body is its specification meets it, by an abstract table
abbrev pub OperationsMeet : Type 0
OperationsMeet =
    (E : Table) (m : Module) (o : Oper) (d : ModCode) (proc : ProcCode) → E.is_concrete ≡ false → find_module m.name E.modules ≡ Some d → d.state ≡ m.state → find_proc o.name d.operations ≡ Some proc →
    proc.values ≡ o.values → proc.results ≡ o.results → proc.body ≡ prog.Spec o.spec → OpMeets E m o d.place

-- a start that is its specification meets it, by an abstract table
abbrev pub StartsMeet : Type 0
StartsMeet =
    (E : Table) (heads : List Head) (m : Module) (d : ModCode) → IsFormedStart heads m → E.is_concrete ≡ false → find_module m.name E.modules ≡ Some d → d.state ≡ m.state → d.start ≡ prog.Spec (abstract_start m) →
    StartMeets E m d.place

-- Where the body of a procedure is a specification, calls of it, with arguments of the values' sorts and names of the results' sorts,
-- end in states that fit.
abbrev pub CallsKeep : Type 0
CallsKeep =
    (E : Table) (p k : ℕ) (opened : List Name) (scope : List Entry) (args : List Term) (names : List Name) (proc : ProcCode) (w : Spec) → proc.body ≡ prog.Spec w →
    is_twice (names_of proc.values ++ names_of proc.results) ≡ false → ((s : State) → FitsIn E opened scope s → ValuesFor proc.values (values args s)) → wrong_names scope proc.results names ≡ false →
    (f : Name) → find_proc f E.procs ≡ Some proc → KeepsBy E (bodies E p k) (bodies_before E p) opened scope (prog.Call f args names)

-- so do calls of an operation, by an abstract table, where the names of its module are in scope
abbrev pub OperationsKeep : Type 0
OperationsKeep =
    (E : Table) (p k : ℕ) (opened : List Name) (scope : List Entry) (args : List Term) (names : List Name) (proc : ProcCode) (w : Spec) → proc.body ≡ prog.Spec w →
    is_twice (names_of proc.values ++ names_of proc.results) ≡ false → ((s : State) → FitsIn E opened scope s → ValuesFor proc.values (values args s)) → wrong_names scope proc.results names ≡ false →
    E.is_concrete ≡ false → (m o : Name) (d : ModCode) → find_module m E.modules ≡ Some d → find_proc o d.operations ≡ Some proc →
    ((x : Name) → is_in x (names_of proc.values ++ names_of proc.results) ≡ true → is_in x (names_of d.state) ≡ false) →
    ((x : Name) → is_in x (names_of d.state) ≡ true → find (has_name x) scope ≡ find (has_name x) (module_entries d.state)) →
    KeepsBy E (bodies E p k) (bodies_before E p) opened scope (prog.OpCall m o args names)

-- and so do starts
abbrev pub StartsKeep : Type 0
StartsKeep =
    (E : Table) (p k : ℕ) (m : Name) (d : ModCode) (w : Spec) → find_module m E.modules ≡ Some d → d.start ≡ prog.Spec w → StartFits E (bodies E p k) (bodies_before E p) m
