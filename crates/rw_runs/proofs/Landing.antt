-- Where runs come to.
use Rattle.std.specs.Prelude.{◌≡◌, ℕ, ◌<◌, true, List, ◌∷◌, Some, Ok, Err}
use Rattle.rw_programs.specs.declared.prog.ProcCode.{ProcCode}
use Rattle.rw_programs.specs.declared.prog.ModCode.{ModCode}
use Rattle.rw_programs.specs.declared.prog.Code.{Code}
use Rattle.rw_programs.specs.declared.prog.Prog.{Prog, Spec, Kid, Skip, Assign, If', Do', Call, OpCall, Row_of-Arm, end_of-Arm, more_of-Arm}
use Rattle.rw_programs.specs.Made.{Seq, Block, Con, ModBlock}
use Rattle.rw_programs.specs.CodeTest.{is_code}
use Rattle.rw_programs.specs.State.{Name, State}
use Rattle.rw_programs.specs.Tables.{find_proc, find_module}
use Rattle.rw_evaluation.specs.declared.stop.Stop.TheVariants.{TooWide}
use Rattle.rw_machine.specs.Machine.{Entered, Command, config, Stepped}

-- the bodies of procedures, of starts and of operations are code
pub record BodiesAreCode (code : Code) : Type 0 where
  pub procs : (f : Name) (e : ProcCode) → find_proc f code.procs ≡ Some e → is_code e.body ≡ true
  pub starts : (m : Name) (d : ModCode) → find_module m code.modules ≡ Some d → is_code d.start ≡ true
  pub operations : (m : Name) (d : ModCode) → find_module m code.modules ≡ Some d → (o : Name) (e : ProcCode) → find_proc o d.operations ≡ Some e → is_code e.body ≡ true

-- the run stands at an end of which Q holds, with these commands and states left, or a number was too wide
abbrev pub Lands : Stepped → List Command → List State → (State → Type 0) → Type 0
Lands (Ok c) cs ss Q = (t : State) × (over : List Entered) × Q t × (c ≡ config cs (t ∷ ss) over)
Lands (Err e) cs ss Q = e ≡ TooWide

module _ (code : Code) where
  abbrev mutual
    -- each call and each module block of the program is of an entry at a place before p
    pub CallsBelow : ℕ → Prog → Type 0
    CallsBelow p (Spec w) = Unit {0}
    CallsBelow p (Kid n) = Unit {0}
    CallsBelow p Skip = Unit {0}
    CallsBelow p (Assign names terms) = Unit {0}
    CallsBelow p (Seq c d) = CallsBelow p c × CallsBelow p d
    CallsBelow p (If' shape arms) = ArmsCallBelow p arms
    CallsBelow p (Do' variant shape arms) = ArmsCallBelow p arms
    CallsBelow p (Block x sort c) = CallsBelow p c
    CallsBelow p (Con pins c) = CallsBelow p c
    CallsBelow p (Call f args names) = (e : ProcCode) → find_proc f code.procs ≡ Some e → e.place < p
    CallsBelow p (OpCall m o args names) = (d : ModCode) → find_module m code.modules ≡ Some d → d.place < p
    CallsBelow p (ModBlock m c) = ((d : ModCode) → find_module m code.modules ≡ Some d → d.place < p) × CallsBelow p c

    pub ArmsCallBelow : {m : _} → ℕ → Row_of-Arm m → Type 0
    ArmsCallBelow p end_of-Arm = Unit {0}
    ArmsCallBelow p (more_of-Arm g c rest) = CallsBelow p c × ArmsCallBelow p rest

  -- each body calls what is before its own place
  pub record BodiesInOrder : Type 0 where
    pub procs : (f : Name) (e : ProcCode) → find_proc f code.procs ≡ Some e → CallsBelow e.place e.body
    pub starts : (m : Name) (d : ModCode) → find_module m code.modules ≡ Some d → CallsBelow d.place d.start
    pub operations : (m : Name) (d : ModCode) → find_module m code.modules ≡ Some d → (o : Name) (e : ProcCode) → find_proc o d.operations ≡ Some e → CallsBelow d.place e.body
