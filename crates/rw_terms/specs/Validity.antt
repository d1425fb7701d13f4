-- Validity of a sequent.
use Rattle.std.specs.Prelude.{ℕ, List, [], ◌∷◌, find, Option, Some, None}
use Rattle.rw_terms.specs.declared.sequent.Sequent.{Sequent}
use Rattle.rw_terms.specs.Named.{Named, is_named}
use Rattle.rw_terms.specs.State.{Value, State, HasSort}
use Rattle.rw_terms.specs.Truth.{Definition, holds}

-- a value of the sort where a name is there, and none where it is not
abbrev pub FitsNamed : Option Named → Option Value → Type 0
FitsNamed None None = Unit {0}
FitsNamed None (Some v) = ⊥
FitsNamed (Some n) None = ⊥
FitsNamed (Some n) (Some v) = HasSort v n.1

-- the state gives each of the names a value of its sort, and no other name one
abbrev pub FitsNames : List Named → State → Type 0
FitsNames names s = (x : List ℕ) → FitsNamed (find (is_named x) names) (s x)

-- P holds of each
abbrev pub Each : {X : Type 0} → (X → Type 0) → List X → Type 0
Each P [] = Unit {0}
Each P (x ∷ xs) = P x × Each P xs

-- in all states that fit the names, where each left formula holds, not every right one fails
abbrev pub Valid : List Definition → Sequent → Type 0
Valid library q =
    (s0 s : State) → FitsNames q.names s0 → FitsNames q.names s →
    Each (λ f. holds library f s0 s []) q.left → ¬ (Each (λ f. ¬ (holds library f s0 s [])) q.right)
