-- Weakest preconditions and refinement.
use Rattle.std.specs.Prelude.{◌≡◌, ℕ, Bool, true, false, List, find, Option, Some, None}
use Rattle.rw_terms.specs.declared.scope.Entry.{Entry}
use Rattle.rw_terms.specs.declared.scope.Kind.{Kind}
use Rattle.rw_terms.specs.declared.scope.Kind.TheVariants as kind
use Rattle.rw_terms.specs.Scopes.{has_name}
use Rattle.rw_terms.specs.State.{State as Map}
use Rattle.rw_programs.specs.declared.prog.Prog.{Prog}
use Rattle.rw_programs.specs.State.{Name, State, Fits}
use Rattle.rw_programs.specs.Tables.{Table, past}
use Rattle.rw_programs.specs.Meaning.{MayEnd, Sure}

-- the program, at place p with k levels, is sure from s, and every end of it from s is in Q
abbrev pub WpAt : Table → (p k : ℕ) → Prog → (State → Type 0) → State → Type 0
WpAt E p k c Q s = Sure E p k c s × ((t : State) → MayEnd E p k c s t → Q t)

-- at s: where c is sure under E so is d under F, and every end of d under F is an end of c under E
abbrev pub BetterAt : Table → (p k : ℕ) → Prog → Table → (q j : ℕ) → Prog → State → Type 0
BetterAt E p k c F q j d s = Sure E p k c s → Sure F q j d s × ((t : State) → MayEnd F q j d s t → MayEnd E p k c s t)

-- d under F, at place q with j levels, refines c under E, at place p with k levels, in the scope
abbrev pub RefinesAt : List Entry → Table → (p k : ℕ) → Prog → Table → (q j : ℕ) → Prog → Type 0
RefinesAt scope E p k c F q j d = (s : State) → Fits scope s → BetterAt E p k c F q j d s

-- What names no place and no levels speaks of a place past the last, with no level.
abbrev pub Wp : Table → Prog → (State → Type 0) → State → Type 0
Wp E c Q s = WpAt E (past E) 0 c Q s

-- d under F refines c under E in the scope
abbrev pub Refines : List Entry → Prog → Table → Prog → Table → Type 0
Refines scope c E d F = RefinesAt scope E (past E) 0 c F (past F) 0 d

abbrev pub is_value_kind : Kind → Bool
is_value_kind kind.Global = false
is_value_kind kind.Local = false
is_value_kind kind.Constant = false
is_value_kind kind.Value = true
is_value_kind kind.Outcome = false
is_value_kind kind.Module = false

abbrev pub is_value_entry : Option Entry → Bool
is_value_entry None = false
is_value_entry (Some e) = is_value_kind e.kind

-- the name is one of kind value in the scope
abbrev pub is_value : List Entry → Name → Bool
is_value scope x = is_value_entry (find (has_name x) scope)

-- the names of kind value have these values
abbrev pub HasValues : List Entry → Map → State → Type 0
HasValues scope fixed s = (x : Name) → is_value scope x ≡ true → s.own x ≡ fixed x

-- the same at the states with these values of the names of kind value
abbrev pub RefinesGiven : Map → List Entry → Table → (p k : ℕ) → Prog → Table → (q j : ℕ) → Prog → Type 0
RefinesGiven fixed scope E p k c F q j d = (s : State) → Fits scope s → HasValues scope fixed s → BetterAt E p k c F q j d s
