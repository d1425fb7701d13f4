-- The names that formulas speak of.
use Rattle.std.specs.Prelude.{ℕ, Bool, ◌||◌, true, false, List, [], ◌∷◌}
use Rattle.std.specs.declared.cmp.Ordering.{Ordering}
use Rattle.std.specs.declared.cmp.Ordering.TheVariants.{Less, Equal, Greater}
use Rattle.rw_terms.specs.declared.term.Formula.{Formula}
use Rattle.rw_terms.specs.declared.scope.Entry.{Entry}
use Rattle.rw_terms.specs.Mentions.{formulas_mention}
use Rattle.rw_terms.specs.Named.{Named}
use Rattle.rw_terms.specs.Names.{name_cmp}

-- a named before the first of a list, as that one, or behind it
abbrev pub by_order : Ordering → Named → Named → List Named → List Named → List Named
by_order Less n m rest placed = n ∷ m ∷ rest
by_order Equal n m rest placed = m ∷ rest
by_order Greater n m rest placed = m ∷ placed

-- a sorted list with one more name in its place, unless it is there
abbrev pub placed : Named → List Named → List Named
placed n [] = n ∷ []
placed n (m ∷ rest) = by_order (name_cmp n.0 m.0) n m rest (placed n rest)

-- the names with one more if the test says so
abbrev pub placed_if : Bool → Named → List Named → List Named
placed_if true n names = placed n names
placed_if false n names = names

-- the names so far, and those of the entries that pass the test
abbrev pub gathered : (List ℕ → Bool) → List Named → List Entry → List Named
gathered p names [] = names
gathered p names (e ∷ es) = gathered p (placed_if (p e.name) (e.name, e.sort) names) es

-- the names of the scope that are free in one of the formulas, with their sorts, sorted by their bytes
abbrev pub names_of : List Entry → List Formula → List Formula → List Named
names_of scope left right = gathered (λ x. formulas_mention x left || formulas_mention x right) [] scope
