-- Values and truth depend on the names that a term or a formula mentions, and on no other.
use Rattle.std.specs.Prelude.{◌≡◌, ◌↔◌, ℕ, Bool, IsTrue, List}
use Rattle.rw_terms.specs.declared.term.Term.{Term}
use Rattle.rw_terms.specs.declared.term.Formula.{Formula}
use Rattle.rw_terms.specs.Mentions.{mentions, formula_mentions}
use Rattle.rw_terms.specs.State.{Value, State, value_in, with_value}
use Rattle.rw_terms.specs.Value.{value}
use Rattle.rw_terms.specs.Truth.{Definition, holds}

-- two initial states and two states that give each name that passes the test the same value
abbrev pub AgreeOn : (List ℕ → Bool) → State → State → State → State → Type 0
AgreeOn test s0 s t0 t = (x : List ℕ) → IsTrue (test x) → (value_in s0 x ≡ value_in t0 x) × (value_in s x ≡ value_in t x)

-- states that agree on the names that a term mentions give it one value
abbrev pub ValuesAgree : Type 0
ValuesAgree = (term : Term) (s0 s t0 t : State) → AgreeOn (λ x. mentions x term) s0 s t0 t → (b : List Value) → value s0 s b term ≡ value t0 t b term

-- a formula holds in both or in neither of two states that agree on the names that it mentions
abbrev pub TruthAgrees : Type 0
TruthAgrees =
    (library : List Definition) (f : Formula) (s0 s t0 t : State) → AgreeOn (λ x. formula_mentions x f) s0 s t0 t → (b : List Value) →
    holds library f s0 s b ↔ holds library f t0 t b

-- a formula that does not have a name free holds or not whatever the values of the name
abbrev pub TruthIgnores : Type 0
TruthIgnores =
    (library : List Definition) (f : Formula) (x : List ℕ) → ¬ (IsTrue (formula_mentions x f)) → (v0 v : Value) (s0 s : State) (b : List Value) →
    holds library f s0 s b ↔ holds library f (with_value x v0 s0) (with_value x v s) b
