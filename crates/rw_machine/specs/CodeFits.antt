-- What is asked of code that is run.
use Rattle.std.specs.Prelude.{◌≡◌, ℕ, ◌++◌, Bool, true, not, ◌&&◌, nat_eq, nat_lt, List, [], ◌∷◌, map}
use Rattle.rw_terms.specs.declared.scope.Entry.{Entry}
use Rattle.rw_terms.specs.declared.scope.Kind.{Kind}
use Rattle.rw_terms.specs.declared.scope.Kind.TheVariants as kind
use Rattle.rw_terms.specs.declared.term.Term.{Term}
use Rattle.rw_terms.specs.Sorts.{variable_sort}
use Rattle.rw_terms.specs.Rules.{sort_in, are_of}
use Rattle.rw_terms.specs.Validity.{Each}
use Rattle.rw_programs.specs.declared.prog.Param.{Param}
use Rattle.rw_programs.specs.declared.prog.ProcCode.{ProcCode}
use Rattle.rw_programs.specs.declared.prog.ModCode.{ModCode}
use Rattle.rw_programs.specs.declared.prog.Code.{Code}
use Rattle.rw_programs.specs.declared.prog.Prog.{Prog, Spec, Kid, Skip, Assign, If', Do', Call, OpCall, Row_of-Arm, end_of-Arm, more_of-Arm}
use Rattle.rw_programs.specs.Made.{Seq, Block, Con, ModBlock}
use Rattle.rw_programs.specs.State.{Name, is_in, ValuesFor}
use Rattle.rw_programs.specs.Tables.{find_proc, find_module}
use Rattle.rw_programs.specs.CodeTest.{is_code}
use Rattle.rw_programs.specs.Scoped.{with_local, if_some, is_scoped}
use Rattle.rw_evaluation.specs.declared.value.Value.{Value as RunValue}
use Rattle.rw_evaluation.specs.Stored.{all_meant}

-- no name stands twice
abbrev pub differ : List Name → Bool
differ [] = true
differ (x ∷ xs) = not (is_in x xs) && differ xs

-- the number is not in the list
abbrev pub lacks : ℕ → List ℕ → Bool
lacks p [] = true
lacks p (q ∷ qs) = not (nat_eq p q) && lacks p qs

-- no number stands twice
abbrev pub numbers_differ : List ℕ → Bool
numbers_differ [] = true
numbers_differ (p ∷ ps) = lacks p ps && numbers_differ ps

-- arguments and results have the number and the sorts of what they are handed to and taken from, and no result stands twice
abbrev pub takes : List Entry → List Term → List Name → ProcCode → Bool
takes scope args results e =
    are_of (map (λ p. p.sort) e.values) (map (sort_in scope []) args) && (are_of (map (λ p. p.sort) e.results) (map (variable_sort scope) results) && differ results)

module _ (code : Code) where
  abbrev mutual
    -- each call and each module block names an entry below the place p, each call takes what the entry asks for, and no name is set twice
    pub calls_fit : ℕ → List Entry → Prog → Bool
    calls_fit p scope (Spec w) = true
    calls_fit p scope (Kid n) = true
    calls_fit p scope Skip = true
    calls_fit p scope (Assign names terms) = differ names
    calls_fit p scope (Seq c d) = calls_fit p scope c && calls_fit p scope d
    calls_fit p scope (If' shape arms) = row_calls_fit p scope arms
    calls_fit p scope (Do' variant shape arms) = row_calls_fit p scope arms
    calls_fit p scope (Block x sort c) = if_some (λ inner. calls_fit p inner c) (with_local scope x sort)
    calls_fit p scope (Con pins c) = calls_fit p scope c
    calls_fit p scope (Call f args names) = if_some (λ e. nat_lt e.place p && takes scope args names e) (find_proc f code.procs)
    calls_fit p scope (OpCall m o args names) =
        if_some (λ d. nat_lt d.place p && if_some (takes scope args names) (find_proc o d.operations)) (find_module m code.modules)
    calls_fit p scope (ModBlock m c) = if_some (λ d. nat_lt d.place p) (find_module m code.modules) && calls_fit p scope c

    pub row_calls_fit : {m : _} → ℕ → List Entry → Row_of-Arm m → Bool
    row_calls_fit p scope end_of-Arm = true
    row_calls_fit p scope (more_of-Arm g c rest) = calls_fit p scope c && row_calls_fit p scope rest

  -- a body at the place p, over the names of the scope
  pub record BodyFits (p : ℕ) (scope : List Entry) (c : Prog) : Type 0 where
    pub names : differ (map (λ e. e.name) scope) ≡ true
    pub coded : is_code c ≡ true
    pub scoped : is_scoped [] scope c ≡ true
    pub calls : calls_fit p scope c ≡ true

abbrev pub entries_as : Kind → List Param → List Entry
entries_as k ps = map (λ p. record { name = p.name; sort = p.sort; kind = k }) ps

-- what the body of a procedure is over, or that of an operation beside its module's state
abbrev pub body_scope : List Param → ProcCode → List Entry
body_scope held e = entries_as kind.Local held ++ (entries_as kind.Value e.values ++ entries_as kind.Outcome e.results)

pub record ModuleFits (code : Code) (d : ModCode) : Type 0 where
  pub names : differ (map (λ e. e.name) d.operations) ≡ true
  pub start : BodyFits code d.place (entries_as kind.Local d.state) d.start
  pub operations : Each (λ e. BodyFits code d.place (body_scope d.state e) e.body) d.operations

-- main's place, past that of each procedure and module
abbrev pub main_place : ℕ
main_place = 4294967295

-- The names of procedures and modules differ, and so do their places. Each body is code, is well scoped over its names, and calls
-- only what is at an earlier place.
pub record CodeFits (code : Code) (globals : List Param) : Type 0 where
  pub names : differ (map (λ e. e.name) code.procs ++ map (λ d. d.name) code.modules) ≡ true
  pub places : numbers_differ (map (λ e. e.place) code.procs ++ map (λ d. d.place) code.modules) ≡ true
  pub main : BodyFits code main_place (entries_as kind.Global globals) code.main
  pub procs : Each (λ e. BodyFits code e.place (body_scope [] e) e.body) code.procs
  pub modules : Each (ModuleFits code) code.modules

-- the values are those of the globals, each of its sort
abbrev pub StartFits : List Param → List RunValue → Type 0
StartFits globals vs = ValuesFor globals (all_meant vs)
