-- Programs put in the place of kids, and what is asked of the places of a program.
use Rattle.std.specs.Prelude.{◌≡◌, ℕ, Bool, true, false, List, [], map, Option, Some, None}
use Rattle.rw_terms.specs.declared.scope.Entry.{Entry}
use Rattle.rw_terms.specs.declared.scope.Kind.TheVariants as kind
use Rattle.rw_terms.specs.State.{Value, State as Map, Fits as FitsMap}
use Rattle.rw_programs.specs.declared.prog.Param.{Param}
use Rattle.rw_programs.specs.declared.prog.ModCode.{ModCode}
use Rattle.rw_programs.specs.declared.prog.Prog.{Prog, Spec, Kid, Skip, Assign, If', Do', Call, OpCall, Row_of-Arm, end_of-Arm, more_of-Arm}
use Rattle.rw_programs.specs.Made.{Seq, Block, Con, ModBlock}
use Rattle.rw_programs.specs.State.{Name, State, empty, no_parts, alone, is_in, put_all, names_of, ValuesFor}
use Rattle.rw_programs.specs.Tables.{Table, find_module}
use Rattle.rw_programs.specs.Meaning.{Bodies, ends_by, sure_by, bodies, bodies_before}
use Rattle.rw_programs.specs.Refine.{BetterAt, HasValues}
use Rattle.rw_programs.specs.Scoped.{with_local, with_pins, with_entries, with_module}

abbrev mutual
  -- each kid replaced by what stands for it
  pub fill : (ℕ → Prog) → Prog → Prog
  fill ks (Spec w) = Spec w
  fill ks (Kid n) = ks n
  fill ks Skip = Skip
  fill ks (Assign names terms) = Assign names terms
  fill ks (Seq c d) = Seq (fill ks c) (fill ks d)
  fill ks (If' shape arms) = If' shape (fill_row ks arms)
  fill ks (Do' variant shape arms) = Do' variant shape (fill_row ks arms)
  fill ks (Block x sort c) = Block x sort (fill ks c)
  fill ks (Con pins c) = Con pins (fill ks c)
  fill ks (Call f args names) = Call f args names
  fill ks (OpCall m o args names) = OpCall m o args names
  fill ks (ModBlock m c) = ModBlock m (fill ks c)

  -- the same of the programs behind guards
  pub fill_row : {m : _} → (ℕ → Prog) → Row_of-Arm m → Row_of-Arm m
  fill_row ks end_of-Arm = end_of-Arm
  fill_row ks (more_of-Arm g c rest) = more_of-Arm g (fill ks c) (fill_row ks rest)

-- P of what is there, if anything is
abbrev pub WhereSome : {A : Type 0} → Option A → (A → Type 0) → Type 0
WhereSome None P = Unit {0}
WhereSome (Some a) P = P a

-- the names of a module's state as names of a scope
abbrev pub module_entries : List Param → List Entry
module_entries ps = map (λ p. record { name = p.name; sort = p.sort; kind = kind.Module }) ps

-- the names that a block brings, by the module that is found
abbrev pub brought : Bool → Option ModCode → List Entry
brought true o = []
brought false None = []
brought false (Some d) = module_entries d.state

-- what the block of a module brings into scope: under a concrete table nothing, as its names are kept under the module's name
abbrev pub brings_of : Table → Name → List Entry
brings_of E m = brought E.is_concrete (find_module m E.modules)

-- an opened module's part fits its state, and there is no other part
abbrev pub PartFits : Bool → Option ModCode → Map → Type 0
PartFits false o part = part ≡ empty
PartFits true None part = part ≡ empty
PartFits true (Some d) part = FitsMap (module_entries d.state) part

-- the parts of a state fit the opened modules; under an abstract table there are none
abbrev pub PartsFit : Bool → List ModCode → List Name → (Name → Map) → Type 0
PartsFit false modules opened parts = parts ≡ no_parts
PartsFit true modules opened parts = (m : Name) → PartFits (is_in m opened) (find_module m modules) (parts m)

-- s gives each name of the scope a value of its sort and gives no other name one, and has the states of the opened modules
pub record FitsIn (E : Table) (opened : List Name) (scope : List Entry) (s : State) : Type 0 where
  pub names : FitsMap scope s.own
  pub parts : PartsFit E.is_concrete E.modules opened s.part

-- d refines c in a context: at the states that fit the scope and the opened modules, with these values of the names of kind value
abbrev pub RefinesIn : Map → List Name → List Entry → Table → (p k : ℕ) → Prog → Prog → Type 0
RefinesIn fixed opened scope E p k c d = (s : State) → FitsIn E opened scope s → HasValues scope fixed s → BetterAt E p k c E p k d s

module _ (brings : Name → List Entry) (Q : List Name → List Entry → Prog → Type 0) where
  abbrev mutual
    -- each part of the program meets Q, with the modules that are opened there and the scope there
    pub EachPart : List Name → List Entry → Prog → Type 0
    EachPart opened scope (Spec w) = Q opened scope (Spec w)
    EachPart opened scope (Kid n) = Q opened scope (Kid n)
    EachPart opened scope Skip = Q opened scope Skip
    EachPart opened scope (Assign names terms) = Q opened scope (Assign names terms)
    EachPart opened scope (Seq c d) = Q opened scope (Seq c d) × EachPart opened scope c × EachPart opened scope d
    EachPart opened scope (If' shape arms) = Q opened scope (If' shape arms) × EachArm opened scope arms
    EachPart opened scope (Do' variant shape arms) = Q opened scope (Do' variant shape arms) × EachArm opened scope arms
    EachPart opened scope (Block x sort c) = Q opened scope (Block x sort c) × WhereSome (with_local scope x sort) (λ inner. EachPart opened inner c)
    EachPart opened scope (Con pins c) = Q opened scope (Con pins c) × WhereSome (with_pins scope scope pins) (λ inner. EachPart opened inner c)
    EachPart opened scope (Call f args names) = Q opened scope (Call f args names)
    EachPart opened scope (OpCall m o args names) = Q opened scope (OpCall m o args names)
    EachPart opened scope (ModBlock m c) =
        Q opened scope (ModBlock m c)
        × WhereSome (with_module opened m) (λ outside. WhereSome (with_entries scope (brings m)) (λ inner. EachPart outside inner c))

    -- so does each part of the programs behind guards
    pub EachArm : {m : _} → List Name → List Entry → Row_of-Arm m → Type 0
    EachArm opened scope end_of-Arm = Unit {0}
    EachArm opened scope (more_of-Arm g c rest) = EachPart opened scope c × EachArm opened scope rest

module _ (E : Table) (calls before : Bodies) where
  -- where sure, the program ends in states that fit
  abbrev pub KeepsBy : List Name → List Entry → Prog → Type 0
  KeepsBy opened scope c = (s t : State) → FitsIn E opened scope s → sure_by E calls before c s → ends_by E calls before c s t → FitsIn E opened scope t

  -- where sure, the start of the module ends in a state of the module
  abbrev pub StartFits : Name → Type 0
  StartFits m =
      (d : ModCode) → find_module m E.modules ≡ Some d → (vs : List (Option Value)) → ValuesFor d.state vs →
      let begun = alone (put_all (names_of d.state) vs empty) in
      before.sure d.place d.start begun → (a : State) → before.ends d.place d.start begun a → FitsMap (module_entries d.state) a.own

  -- Calls, where sure, end in states that fit, and so do starts; what the block of a module brings into scope is what the table says.
  abbrev pub CallFitsBy : (Name → List Entry) → List Name → List Entry → Prog → Type 0
  CallFitsBy brings opened scope (Call f args names) = KeepsBy opened scope (Call f args names)
  CallFitsBy brings opened scope (OpCall m o args names) = KeepsBy opened scope (OpCall m o args names)
  CallFitsBy brings opened scope (ModBlock m c) = (brings m ≡ brings_of E m) × StartFits m
  CallFitsBy brings opened scope _ = Unit {0}

  -- d is sure where c is, and its ends are ends of c
  abbrev pub BetterBy : Prog → Prog → State → Type 0
  BetterBy c d s = sure_by E calls before c s → sure_by E calls before d s × ((t : State) → ends_by E calls before d s t → ends_by E calls before c s t)

  -- what is put for a kid is better than what was, in the states that fit there
  abbrev pub KidBetterBy : (ks js : ℕ → Prog) → List Name → List Entry → Prog → Type 0
  KidBetterBy ks js opened scope (Kid n) = (s : State) → FitsIn E opened scope s → BetterBy (ks n) (js n) s
  KidBetterBy ks js opened scope _ = Unit {0}

-- the calls in the program, where sure, end in states that fit, and so do the starts of the modules that it opens
abbrev pub CallsFit : (brings : Name → List Entry) → Table → (p k : ℕ) → List Name → List Entry → Prog → Type 0
CallsFit brings E p k = EachPart brings (CallFitsBy E (bodies E p k) (bodies_before E p) brings)

-- what is put for each kid of the skeleton refines what was, in the kid's context
abbrev pub KidsRefine : (brings : Name → List Entry) → Table → (p k : ℕ) → (ks js : ℕ → Prog) → List Name → List Entry → Prog → Type 0
KidsRefine brings E p k ks js = EachPart brings (KidBetterBy E (bodies E p k) (bodies_before E p) ks js)
