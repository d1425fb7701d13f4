-- Filling at the states with given values of the names of kind value.
use Rattle.std.specs.Prelude.{ℕ, List, map}
use Rattle.rw_terms.specs.declared.scope.Entry.{Entry}
use Rattle.rw_terms.specs.State.{State as Map}
use Rattle.rw_programs.specs.declared.prog.Prog.{Prog, Spec, Kid, Assign, Call, OpCall}
use Rattle.rw_programs.specs.State.{Name}
use Rattle.rw_programs.specs.Tables.{Table}
use Rattle.rw_programs.specs.Laws.{KeepsValues}
use Rattle.rw_meaning.specs.Filling.{brings_of, EachPart, RefinesIn}

-- No name of kind value is in a frame, is assigned or takes a result, nor is it one of the names of a module that an operation
-- changes.
abbrev pub SetsNoValue : Table → List Name → List Entry → Prog → Type 0
SetsNoValue E opened scope (Spec w) = KeepsValues scope w.frame
SetsNoValue E opened scope (Assign names terms) = KeepsValues scope names
SetsNoValue E opened scope (Call f args names) = KeepsValues scope names
SetsNoValue E opened scope (OpCall m o args names) = KeepsValues scope names × KeepsValues scope (map (λ e. e.name) (brings_of E m))
SetsNoValue E opened scope _ = Unit {0}

-- no part of the program changes a name of kind value
abbrev pub ValuesStay : (brings : Name → List Entry) → Table → List Name → List Entry → Prog → Type 0
ValuesStay brings E = EachPart brings (SetsNoValue E)

-- what is put for a kid refines what was, in its context at the states with these values
abbrev pub KidRefinesIn : Map → Table → (p k : ℕ) → (ks js : ℕ → Prog) → List Name → List Entry → Prog → Type 0
KidRefinesIn fixed E p k ks js opened scope (Kid n) = RefinesIn fixed opened scope E p k (ks n) (js n)
KidRefinesIn fixed E p k ks js opened scope _ = Unit {0}

-- so for each kid of the skeleton
abbrev pub KidsRefineGiven : Map → (brings : Name → List Entry) → Table → (p k : ℕ) → (ks js : ℕ → Prog) → List Name → List Entry → Prog → Type 0
KidsRefineGiven fixed brings E p k ks js = EachPart brings (KidRefinesIn fixed E p k ks js)
