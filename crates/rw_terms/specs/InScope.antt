-- What the names of formulas are in their scope, and what validity over them says of the scope's states.
use Rattle.std.specs.Prelude.{◌≡◌, ℕ, Bool, true, false, ◌||◌, List, [], ◌∷◌, find, Option, None}
use Rattle.std.specs.Option.{option_map}
use Rattle.std.specs.declared.cmp.Ordering.TheVariants.{Less}
use Rattle.rw_terms.specs.declared.term.Formula.{Formula}
use Rattle.rw_terms.specs.declared.scope.Entry.{Entry}
use Rattle.rw_terms.specs.Names.{name_cmp}
use Rattle.rw_terms.specs.Scopes.{has_name}
use Rattle.rw_terms.specs.Mentions.{formulas_mention}
use Rattle.rw_terms.specs.Named.{Named, is_named}
use Rattle.rw_terms.specs.Naming.{names_of}
use Rattle.rw_terms.specs.State.{State, Fits}
use Rattle.rw_terms.specs.Truth.{Definition, holds}
use Rattle.rw_terms.specs.Validity.{Each, Valid}

-- each name before all behind it
abbrev pub Ascending : List Named → Type 0
Ascending [] = Unit {0}
Ascending (n ∷ ns) = Each (λ m. name_cmp n.0 m.0 ≡ Less) ns × Ascending ns

abbrev pub named_by : Entry → Named
named_by e = (e.name, e.sort)

abbrev pub only_if : {X : Type 0} → Bool → Option X → Option X
only_if true o = o
only_if false o = None

-- a name that some formula mentions, with the sort that the scope has for it
abbrev pub named_in : List Entry → List Formula → List Formula → List ℕ → Option Named
named_in scope left right x = only_if (formulas_mention x left || formulas_mention x right) (option_map named_by (find (has_name x) scope))

-- the names of formulas are sorted, and are those of the scope that some formula mentions
abbrev pub NamesAreExact : Type 0
NamesAreExact =
    (scope : List Entry) (left right : List Formula) →
    Ascending (names_of scope left right) × ((x : List ℕ) → find (is_named x) (names_of scope left right) ≡ named_in scope left right x)

-- In all states that fit the scope, where each left formula holds, not every right one fails.
abbrev pub FollowsInScope : List Definition → List Entry → List Formula → List Formula → Type 0
FollowsInScope library scope left right =
    (s0 s : State) → Fits scope s0 → Fits scope s →
    Each (λ f. holds library f s0 s []) left → ¬ (Each (λ f. ¬ (holds library f s0 s [])) right)

-- a valid sequent over the names of its formulas in a scope says the same of the states of the scope
abbrev pub ValidFollows : Type 0
ValidFollows =
    (library : List Definition) (scope : List Entry) (left right : List Formula) →
    Valid library (record { names = names_of scope left right; left = left; right = right }) → FollowsInScope library scope left right
