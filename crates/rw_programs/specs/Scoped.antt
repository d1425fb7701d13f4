-- Which programs speak of names in scope alone, with the sorts that the scope gives them.
use Rattle.std.specs.Prelude.{ℕ, Bool, true, false, ◌&&◌, not, if◌then◌else◌, length, nat_eq, List, [], ◌∷◌, ◌++◌, map, is_some, Option, Some, None, option_and_then}
use Rattle.rw_terms.specs.declared.scope.Entry.{Entry}
use Rattle.rw_terms.specs.declared.scope.Kind.TheVariants as kind
use Rattle.rw_terms.specs.declared.term.Sort.{Sort}
use Rattle.rw_terms.specs.declared.term.Sort.TheVariants.{Int}
use Rattle.rw_terms.specs.declared.term.Term.{Term}
use Rattle.rw_terms.specs.declared.term.Formula.{Formula}
use Rattle.rw_terms.specs.declared.term.Formula.TheOpen.{Formula-F}
use Rattle.rw_terms.specs.declared.term.Formula.TheFolds.{fold-Formula}
use Rattle.rw_terms.specs.Scopes.{is_fresh}
use Rattle.rw_terms.specs.Sorts.{variable_sort}
use Rattle.rw_terms.specs.Formed.{is_sort}
use Rattle.rw_terms.specs.AllOf.{all_of}
use Rattle.rw_terms.specs.Rules.{sort_in, is_of, may_equal_of, of_ints}
use Rattle.rw_programs.specs.declared.prog.Arm.{Arm}
use Rattle.rw_programs.specs.declared.prog.Pin.{Pin}
use Rattle.rw_programs.specs.declared.prog.Spec.{Spec}
use Rattle.rw_programs.specs.declared.prog.Prog.TheVariants as prog
use Rattle.rw_programs.specs.declared.prog.Prog.{Prog, Kid, Skip, Assign, If', Do', Call, OpCall, Row_of-Arm, end_of-Arm, more_of-Arm}
use Rattle.rw_programs.specs.Made.{Seq, Block, Con, ModBlock}
use Rattle.rw_programs.specs.State.{Name, is_in}

-- the names are variables of the scope
abbrev pub are_variables : List Entry → List Name → Bool
are_variables scope names = all_of (map (λ x. is_some (variable_sort scope x)) names)

-- the terms keep the rules of sorts
abbrev pub are_sorted : List Entry → List Sort → List Term → Bool
are_sorted scope binders terms = all_of (map (λ t. is_some (sort_in scope binders t)) terms)

-- each variable has the sort of the term in its place, as far as both lists go
abbrev pub each_set : List Entry → List Name → List Term → Bool
each_set scope [] terms = true
each_set scope (x ∷ names) [] = true
each_set scope (x ∷ names) (t ∷ terms) = may_equal_of (variable_sort scope x) (sort_in scope [] t) && each_set scope names terms

-- as many variables as terms, of their sorts in order
abbrev pub are_set : List Entry → List Name → List Term → Bool
are_set scope names terms = nat_eq (length names) (length terms) && each_set scope names terms

-- What an application takes is not asked: the heads of predicates are not at hand.
abbrev pub sorted_step : List Entry → Formula-F (List Sort → Bool) → List Sort → Bool
sorted_step scope Formula-F.True binders = true
sorted_step scope Formula-F.False binders = true
sorted_step scope (Formula-F.Eq t u) binders = may_equal_of (sort_in scope binders t) (sort_in scope binders u)
sorted_step scope (Formula-F.Less t u) binders = is_some (of_ints (sort_in scope binders t) (sort_in scope binders u))
sorted_step scope (Formula-F.AtMost t u) binders = is_some (of_ints (sort_in scope binders t) (sort_in scope binders u))
sorted_step scope (Formula-F.Not f) binders = f binders
sorted_step scope (Formula-F.And f g) binders = f binders && g binders
sorted_step scope (Formula-F.Or f g) binders = f binders && g binders
sorted_step scope (Formula-F.Imp f g) binders = f binders && g binders
sorted_step scope (Formula-F.All sort f) binders = is_sort sort && f (sort ∷ binders)
sorted_step scope (Formula-F.Any sort f) binders = is_sort sort && f (sort ∷ binders)
sorted_step scope (Formula-F.App p args) binders = are_sorted scope binders args

-- the formula keeps the rules of sorts, whatever predicates it applies
abbrev pub is_sorted : List Entry → Formula → List Sort → Bool
is_sorted scope = fold-Formula (List Sort → Bool) (sorted_step scope)

-- the frame's names are variables, and the formulas keep the rules of sorts
abbrev pub spec_scoped : List Entry → Spec → Bool
spec_scoped scope w = are_variables scope w.frame && (is_sorted scope w.pre [] && is_sorted scope w.post [])

-- the scope with one more name, if it is new
abbrev pub with_entry : List Entry → Entry → Option (List Entry)
with_entry scope e = if is_fresh e.name scope then Some (scope ++ e ∷ []) else None

-- the scope with names that are new, one after another
abbrev pub with_entries : List Entry → List Entry → Option (List Entry)
with_entries scope [] = Some scope
with_entries scope (e ∷ es) = option_and_then (λ inner. with_entries inner es) (with_entry scope e)

-- the scope with a local, which has a sort and is new
abbrev pub with_local : List Entry → Name → Sort → Option (List Entry)
with_local scope x sort = if is_sort sort then with_entry scope (record { name = x; sort = sort; kind = kind.Local }) else None

-- a constant has the sort of its term, which stands outside the block
abbrev pub with_pin : (outer scope : List Entry) → Pin → Option (List Entry)
with_pin outer scope p = option_and_then (λ sort. with_entry scope (record { name = p.name; sort = sort; kind = kind.Constant })) (sort_in outer [] p.term)

-- the scope with constants, one after another
abbrev pub with_pins : (outer scope : List Entry) → List Pin → Option (List Entry)
with_pins outer scope [] = Some scope
with_pins outer scope (p ∷ pins) = option_and_then (λ inner. with_pins outer inner pins) (with_pin outer scope p)

-- the opened modules with one more, if it is new
abbrev pub with_module : List Name → Name → Option (List Name)
with_module opened m = if is_in m opened then None else Some (m ∷ opened)

-- the test, where there is something to test
abbrev pub if_some : {A : Type 0} → (A → Bool) → Option A → Bool
if_some test None = false
if_some test (Some a) = test a

-- the arguments keep the rules of sorts, and the results are variables
abbrev pub call_scoped : List Entry → List Term → List Name → Bool
call_scoped scope args results = are_sorted scope [] args && are_variables scope results

-- `brings` says which names the block of a module brings into scope.
module _ (brings : Name → List Entry) where
  abbrev mutual
    -- each name is in scope with its sort, where these modules are opened
    pub prog_scoped : List Name → List Entry → Prog → Bool
    prog_scoped opened scope (prog.Spec w) = spec_scoped scope w
    prog_scoped opened scope (Kid n) = true
    prog_scoped opened scope Skip = true
    prog_scoped opened scope (Assign names terms) = are_set scope names terms
    prog_scoped opened scope (Seq c d) = prog_scoped opened scope c && prog_scoped opened scope d
    prog_scoped opened scope (If' shape arms) = row_scoped opened scope arms
    prog_scoped opened scope (Do' variant shape arms) = is_of Int (sort_in scope [] variant) && row_scoped opened scope arms
    prog_scoped opened scope (Block x sort c) = if_some (λ inner. prog_scoped opened inner c) (with_local scope x sort)
    prog_scoped opened scope (Con pins c) = if_some (λ inner. prog_scoped opened inner c) (with_pins scope scope pins)
    prog_scoped opened scope (Call f args results) = call_scoped scope args results
    prog_scoped opened scope (OpCall m o args results) = is_in m opened && call_scoped scope args results
    prog_scoped opened scope (ModBlock m c) =
        if_some (λ outside. if_some (λ inner. prog_scoped outside inner c) (with_entries scope (brings m))) (with_module opened m)

    -- the same of guards and the programs behind them
    pub row_scoped : {m : _} → List Name → List Entry → Row_of-Arm m → Bool
    row_scoped opened scope end_of-Arm = true
    row_scoped opened scope (more_of-Arm g c rest) = is_sorted scope g [] && (prog_scoped opened scope c && row_scoped opened scope rest)

-- nothing is known of what a module brings
abbrev pub no_names : Name → List Entry
no_names m = []

-- each name is in scope with its sort
abbrev pub is_scoped : List Name → List Entry → Prog → Bool
is_scoped = prog_scoped no_names

-- the same of a list of guards and programs
abbrev pub arms_scoped : List Name → List Entry → List Arm → Bool
arms_scoped opened scope [] = true
arms_scoped opened scope (a ∷ rest) = is_sorted scope a.guard [] && (is_scoped opened scope a.body && arms_scoped opened scope rest)
