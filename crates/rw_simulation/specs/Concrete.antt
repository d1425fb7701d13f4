-- Programs that meet the concrete heads of a module simulate its operations and its start.
use Rattle.std.specs.Prelude.{◌≡◌, ℕ, true, false, List, [], ◌++◌}
use Rattle.rw_terms.specs.declared.scope.Entry.{Entry}
use Rattle.rw_terms.specs.declared.scope.Head.{Head}
use Rattle.rw_terms.specs.declared.term.Formula.{Formula}
use Rattle.rw_terms.specs.Rules.{keeps_rules}
use Rattle.rw_terms.specs.State.{State as Map, Fits as FitsMap}
use Rattle.rw_terms.specs.Truth.{Definition, holds}
use Rattle.rw_faults.specs.Initial.{is_twice}
use Rattle.rw_subst.specs.declared.slot.Form.TheVariants as form
use Rattle.rw_subst.specs.Stands.{stands_in}
use Rattle.rw_programs.specs.declared.prog.Spec.{Spec}
use Rattle.rw_programs.specs.declared.prog.Prog.{Prog}
use Rattle.rw_programs.specs.declared.prog.Prog.TheVariants as prog
use Rattle.rw_programs.specs.Tables.{Table}
use Rattle.rw_programs.specs.Meaning.{Sure, MayEnd}
use Rattle.rw_programs.specs.Refine.{RefinesAt}
use Rattle.rw_programs.specs.State.{Name, State, Fits, Holds, Within, is_in, names_of}
use Rattle.rw_meaning.specs.Filling.{module_entries}
use Rattle.rw_heads.specs.declared.head.Module.{Module}
use Rattle.rw_heads.specs.declared.head.Oper.{Oper}
use Rattle.rw_modules.specs.Heads.{oper_scope, start_scope, oper_head, start_head}
use Rattle.rw_simulation.specs.Coupling.{Pairing, Simulates, SimulatesStart}

-- the two states of a module and their coupling, read by a library
abbrev pub pair_of : List Definition → Module → Pairing
pair_of library m = record { library = library; coupling = m.coupling; abstract = m.state; concrete = m.concrete }

-- A formula that keeps the rules of sorts in some scope, and speaks of these names as variables, of these as initial variables, and
-- of no constants.
pub record Speaks (names befores : List Name) (f : Formula) : Type 0 where
  pub scope : List Entry
  pub heads : List Head
  pub keeps : keeps_rules scope heads f [] ≡ true
  pub variable : (x : Name) → stands_in form.Variable x f ≡ true → is_in x names ≡ true
  pub initial : (x : Name) → stands_in form.Initial x f ≡ true → is_in x befores ≡ true
  pub constant : (x : Name) → stands_in form.Constant x f ≡ true → ⊥

-- A module whose states have different names, and whose start and coupling speak of them alone.
pub record IsFormed (m : Module) : Type 0 where
  pub differ : is_twice (names_of m.state) ≡ false
  pub apart : (x : Name) → is_in x (names_of m.state) ≡ true → is_in x (names_of m.concrete) ≡ false
  pub start : Speaks (names_of m.state) [] m.start
  pub coupling : Speaks (names_of m.state ++ names_of m.concrete) [] m.coupling

-- An operation of the module: its values and results are no state variables. Its precondition speaks of values and the abstract state;
-- its postcondition of the results too, and of the abstract state before; and its frame has all results and some abstract names.
pub record IsFormedOper (m : Module) (o : Oper) : Type 0 where
  pub new : (x : Name) → is_in x (names_of o.values ++ names_of o.results) ≡ true → (is_in x (names_of m.state) ≡ false) × (is_in x (names_of m.concrete) ≡ false)
  pub differ : (x : Name) → is_in x (names_of o.values) ≡ true → is_in x (names_of o.results) ≡ false
  pub pre : Speaks (names_of o.values ++ names_of m.state) [] o.spec.pre
  pub post : Speaks ((names_of o.values ++ names_of o.results) ++ names_of m.state) (names_of m.state) o.spec.post
  pub results : (x : Name) → is_in x (names_of o.results) ≡ true → is_in x o.spec.frame ≡ true
  pub frame : (x : Name) → is_in x o.spec.frame ≡ true → is_in x (names_of m.state) ≡ false → is_in x (names_of o.results) ≡ true

-- what is sure by S and ends by N meets the specification in the scope
abbrev pub Meets : List Definition → List Entry → Spec → (State → Type 0) → (State → State → Type 0) → Type 0
Meets library scope w S N = (s : State) → Fits scope s → Holds library w.pre s s → S s × ((t : State) → N s t → Within w.frame s t × Holds library w.post s t)

-- where a specification is sure, and its ends
abbrev pub SpecSure : List Definition → Spec → State → Type 0
SpecSure library w s = Holds library w.pre s s

abbrev pub SpecEnds : List Definition → Spec → State → State → Type 0
SpecEnds library w s t = Within w.frame s t × Holds library w.post s t

-- an abstract state in which the start may end
abbrev pub Starts : List Definition → Module → Map → Type 0
Starts library m a = FitsMap (module_entries m.state) a × holds library m.start a a []

-- A program, at any place and with any levels, that refines the concrete head of an operation simulates the operation.
abbrev pub OperHeadsSimulate : Type 0
OperHeadsSimulate =
    (m : Module) (o : Oper) → IsFormed m → IsFormedOper m o → (E F : Table) (p k q j : ℕ) (c : Prog) →
    RefinesAt (oper_scope m o) E p k (prog.Spec (oper_head m o.spec)) F q j c →
    Simulates (pair_of E.library m) o.values o.results (SpecSure E.library o.spec) (SpecEnds E.library o.spec) (Sure F q j c) (MayEnd F q j c)

-- One that refines the concrete head of the start simulates the start.
abbrev pub StartHeadsSimulate : Type 0
StartHeadsSimulate =
    (m : Module) → IsFormed m → (E F : Table) (p k q j : ℕ) (c : Prog) →
    RefinesAt (start_scope m) E p k (prog.Spec (start_head m)) F q j c →
    SimulatesStart (pair_of E.library m) (Starts E.library m) (Sure F q j c) (MayEnd F q j c)
