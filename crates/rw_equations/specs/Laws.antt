-- Rewriting asks of an equation that keeps the rules of sorts no more than its form.
use Rattle.std.specs.Prelude.{◌≡◌, List, [], Some, IsTrue}
use Rattle.rw_terms.specs.declared.term.Term.{Term}
use Rattle.rw_terms.specs.declared.term.Formula.TheVariants.{Eq}
use Rattle.rw_terms.specs.declared.term.Formula.TheViews.{out-Formula}
use Rattle.rw_terms.specs.Named.{Named}
use Rattle.rw_goals.specs.declared.library.Item.{Item}
use Rattle.rw_goals.specs.Sorting.{keeps_rules}
use Rattle.rw_equations.specs.Equality.{sides}

-- an equation that keeps the rules over the names has its sides
abbrev pub EquationsHaveSides : Type 0
EquationsHaveSides = (names : List Named) (entries : List Item) (s t : Term) → IsTrue (keeps_rules names entries (Eq s t) []) → sides names (out-Formula (Eq s t)) ≡ Some (s, t)
