-- A table of heads and a table of code: the bodies of the second meet what the first says.
use Rattle.std.specs.Prelude.{◌≡◌, ℕ, ◌<◌, true, false, List, [], ◌++◌, Option, Some}
use Rattle.rw_terms.specs.declared.scope.Entry.{Entry}
use Rattle.rw_terms.specs.declared.scope.Kind.TheVariants as kind
use Rattle.rw_terms.specs.declared.term.Term.{Term}
use Rattle.rw_terms.specs.declared.term.Formula.{Formula}
use Rattle.rw_terms.specs.declared.term.Formula.TheVariants.{True}
use Rattle.rw_terms.specs.State.{Value}
use Rattle.rw_terms.specs.Validity.{Each}
use Rattle.rw_programs.specs.declared.prog.ProcCode.{ProcCode}
use Rattle.rw_programs.specs.declared.prog.ModCode.{ModCode}
use Rattle.rw_programs.specs.declared.prog.Spec.{Spec as Promise}
use Rattle.rw_programs.specs.declared.prog.Prog.{Prog, Spec, Assign, If', Do', Call, OpCall}
use Rattle.rw_programs.specs.Made.{ModBlock}
use Rattle.rw_programs.specs.CodeTest.{is_code}
use Rattle.rw_programs.specs.State.{Name, State, Fits, empty, names_of, ValuesFor}
use Rattle.rw_programs.specs.Tables.{Table, find_proc, find_module}
use Rattle.rw_programs.specs.Meaning.{values, MayEnd, Sure}
use Rattle.rw_programs.specs.Refine.{RefinesAt}
use Rattle.rw_programs.specs.Scoped.{prog_scoped}
use Rattle.rw_meaning.specs.Filling.{FitsIn, EachPart, CallsFit, brings_of}
use Rattle.rw_heads.specs.declared.head.Module.{Module}
use Rattle.rw_heads.specs.declared.head.Oper.{Oper}
use Rattle.rw_modules.specs.Heads.{entries, oper_scope, start_scope, oper_head, start_head}
use Rattle.rw_simulation.specs.Classical.{Classically}
use Rattle.rw_simulation.specs.Coupling.{begun, Simulates, SimulatesStart}
use Rattle.rw_simulation.specs.Related.{is_of_module}
use Rattle.rw_simulation.specs.Linked.{IsFree, AreFreeGuards, AreFreeNames}
use Rattle.rw_simulation.specs.Concrete.{pair_of, IsFormed, IsFormedOper, SpecSure, SpecEnds, Starts}

-- the scope of a procedure: its values and its results
abbrev pub proc_scope : ProcCode → List Entry
proc_scope e = entries kind.Value e.values ++ entries kind.Outcome e.results

-- no name of the scope is of kind module
abbrev pub NoModules : List Entry → Type 0
NoModules scope = (x : Name) → is_of_module scope x ≡ false

module _ (E F : Table) (p q : ℕ) where
  -- Both tables have a procedure of the name, at a place before p and q.
  pub record ProcPlaced (opened : List Name) (scope : List Entry) (f : Name) (args : List Term) : Type 0 where
    pub proc : ProcCode
    pub code : ProcCode
    pub found : find_proc f E.procs ≡ Some proc
    pub found_code : find_proc f F.procs ≡ Some code
    pub before : proc.place < p
    pub before_code : proc.place < q
    pub takes : (s : State) → FitsIn E opened scope s → ValuesFor proc.values (values args s)

  -- Both tables have a module of the name, at a place before p and q.
  pub record ModPlaced (m : Name) : Type 0 where
    pub abstract : ModCode
    pub concrete : ModCode
    pub found : find_module m E.modules ≡ Some abstract
    pub found_code : find_module m F.modules ≡ Some concrete
    pub before : abstract.place < p
    pub before_code : abstract.place < q

  -- Both have an operation of the name in such a module.
  pub record OpPlaced (opened : List Name) (scope : List Entry) (m o : Name) (args : List Term) : Type 0 where
    pub mods : ModPlaced m
    pub proc : ProcCode
    pub code : ProcCode
    pub found : find_proc o mods.abstract.operations ≡ Some proc
    pub found_code : find_proc o mods.concrete.operations ≡ Some code
    pub takes : (s : State) → FitsIn E opened scope s → ValuesFor proc.values (values args s)

  -- What a part of code is asked for: it does not speak of names of kind module, and what it calls and opens is at hand.
  abbrev pub PartPlaced : List Name → List Entry → Prog → Type 0
  PartPlaced opened scope (Assign names terms) = AreFreeNames scope names × Each (IsFree scope) terms
  PartPlaced opened scope (If' shape arms) = AreFreeGuards scope arms
  PartPlaced opened scope (Do' variant shape arms) = IsFree scope variant × AreFreeGuards scope arms
  PartPlaced opened scope (Call f args names) = AreFreeNames scope names × Each (IsFree scope) args × ProcPlaced opened scope f args
  PartPlaced opened scope (OpCall m o args names) = AreFreeNames scope names × Each (IsFree scope) args × OpPlaced opened scope m o args
  PartPlaced opened scope (ModBlock m c) = ModPlaced m
  PartPlaced opened scope _ = Unit {0}

  -- Code outside all blocks of modules that may be read at place p by the first table and at place q by the second.
  pub record CodePlaced (scope : List Entry) (c : Prog) : Type 0 where
    pub no_modules : NoModules scope
    pub code : is_code c ≡ true
    pub scoped : prog_scoped (brings_of E) [] scope c ≡ true
    pub fit : CallsFit (brings_of E) E p 0 [] scope c
    pub parts : EachPart (brings_of E) PartPlaced [] scope c

  -- Such a body, which under the first table refines its specification.
  pub record BodyMeets (scope : List Entry) (w : Promise) (c : Prog) : Type 0 where
    pub refines : RefinesAt scope E p 0 (Spec w) E p 0 c
    pub placed : CodePlaced scope c

-- a procedure: its head, and a body that meets it
pub record ProcMeets (E F : Table) (proc code : ProcCode) : Type 0 where
  pub spec : Promise
  pub is_spec : proc.body ≡ Spec spec
  pub same_place : code.place ≡ proc.place
  pub same_values : code.values ≡ proc.values
  pub same_results : code.results ≡ proc.results
  pub begins : (args rs : List (Option Value)) → ValuesFor proc.values args → ValuesFor proc.results rs → Fits (proc_scope proc) (begun proc.values proc.results empty args rs)
  pub body : BodyMeets E F proc.place proc.place (proc_scope proc) spec code.body

-- an operation of a module: its specification, and a body that meets its concrete head
pub record OperMeets (E F : Table) (m : Module) (place : ℕ) (proc code : ProcCode) : Type 0 where
  pub oper : Oper
  pub formed : IsFormedOper m oper
  pub is_spec : proc.body ≡ Spec oper.spec
  pub values_are : proc.values ≡ oper.values
  pub results_are : proc.results ≡ oper.results
  pub same_values : code.values ≡ proc.values
  pub same_results : code.results ≡ proc.results
  pub body : BodyMeets E F place place (oper_scope m oper) (oper_head m oper.spec) code.body

-- a module: its declaration, and bodies that meet the concrete heads
pub record ModMeets (E F : Table) (coupling : Formula) (d d' : ModCode) : Type 0 where
  pub declared : Module
  pub formed : IsFormed declared
  pub state_is : d.state ≡ declared.state
  pub concrete_is : d'.state ≡ declared.concrete
  pub coupling_is : coupling ≡ declared.coupling
  pub same_place : d'.place ≡ d.place
  pub is_start : d.start ≡ Spec (record { frame = names_of declared.state; pre = True; post = declared.start })
  pub start : BodyMeets E F d.place d.place (start_scope declared) (start_head declared) d'.start
  pub operations : (o : Name) (proc code : ProcCode) → find_proc o d.operations ≡ Some proc → find_proc o d'.operations ≡ Some code → OperMeets E F declared d.place proc code

-- The table of heads and the table of code.
pub record TablesMeet (E F : Table) (couplings : Name → Formula) : Type 0 where
  pub abstract : E.is_concrete ≡ false
  pub concrete : F.is_concrete ≡ true
  pub strict : E.by_variant ≡ true
  pub procs : (f : Name) (proc code : ProcCode) → find_proc f E.procs ≡ Some proc → find_proc f F.procs ≡ Some code → ProcMeets E F proc code
  pub modules : (m : Name) (d d' : ModCode) → find_module m E.modules ≡ Some d → find_module m F.modules ≡ Some d' → ModMeets E F (couplings m) d d'

-- where c is sure under E so is d under F, and no end of d under F fails to be an end of c under E
abbrev pub BetterClassically : Table → (p k : ℕ) → Prog → Table → (q j : ℕ) → Prog → State → Type 0
BetterClassically E p k c F q j d s = Sure E p k c s → Sure F q j d s × ((t : State) → MayEnd F q j d s t → Classically (MayEnd E p k c s t))

-- Each body of the table of code refines what it is to meet by the table of heads: so the main program refines the root, each procedure
-- its head, and each concrete operation and start its concrete head.
abbrev pub BodiesRefine : Type 0
BodiesRefine =
    (E F : Table) (couplings : Name → Formula) → TablesMeet E F couplings → (p q : ℕ) (scope : List Entry) (w : Promise) (c : Prog) → BodyMeets E F p q scope w c →
    RefinesAt scope E p 0 (Spec w) F q 0 c

-- Code by the table of code refines itself by the table of heads, its blocks of modules among it.
abbrev pub CodeRefines : Type 0
CodeRefines =
    (E F : Table) (couplings : Name → Formula) → TablesMeet E F couplings → (p q : ℕ) (scope : List Entry) (c : Prog) → CodePlaced E F p q scope c →
    (s : State) → Fits scope s → BetterClassically E p 0 c F q 0 c s

-- each concrete operation simulates its specification
abbrev pub OperationsSimulate : Type 0
OperationsSimulate =
    (E F : Table) (couplings : Name → Formula) → TablesMeet E F couplings → (m : Module) (place : ℕ) (proc code : ProcCode) → IsFormed m → (meets : OperMeets E F m place proc code) →
    Simulates (pair_of E.library m) meets.oper.values meets.oper.results (SpecSure E.library meets.oper.spec) (SpecEnds E.library meets.oper.spec) (Sure F place 0 code.body) (MayEnd F place 0 code.body)

-- each concrete start simulates its start
abbrev pub StartsSimulate : Type 0
StartsSimulate =
    (E F : Table) (couplings : Name → Formula) → TablesMeet E F couplings → (coupling : Formula) (d d' : ModCode) → (meets : ModMeets E F coupling d d') →
    SimulatesStart (pair_of E.library meets.declared) (Starts E.library meets.declared) (Sure F d.place 0 d'.start) (MayEnd F d.place 0 d'.start)
