-- What a library says of predicates.
use Rattle.std.specs.Prelude.{ℕ, Bool, true, false, List, [], ◌∷◌, map, Option, Some, None, bytes_eq}
use Rattle.rw_terms.specs.Named.{Named}
use Rattle.rw_terms.specs.Truth as truth
use Rattle.rw_goals.specs.declared.library.Item.{Item}
use Rattle.rw_goals.specs.declared.library.Item.TheVariants.{Definition, Lemma}
use Rattle.rw_goals.specs.declared.library.Library.{Library}

-- the definitions among the entries
abbrev pub definitions_among : List Item → List truth.Definition
definitions_among [] = []
definitions_among (Definition d ∷ rest) = record { name = d.name; parameters = map (λ p. p.0) d.params; body = d.body } ∷ definitions_among rest
definitions_among (Lemma l ∷ rest) = definitions_among rest

-- the definitions of a library, as truth reads them
abbrev pub definitions_of : Library → List truth.Definition
definitions_of library = definitions_among library.entries

-- the value at true, and none else
abbrev pub if_so : {X : Type 0} → Bool → X → Option X
if_so true x = Some x
if_so false x = None

-- the parameters that an entry has for a predicate, if it defines it
abbrev pub parameters_in : Item → List ℕ → Option (List Named)
parameters_in (Definition d) p = if_so (bytes_eq d.name p) d.params
parameters_in (Lemma l) p = None

-- the first that is there
abbrev pub or_else : {X : Type 0} → Option X → Option X → Option X
or_else None o = o
or_else (Some x) o = Some x

-- the parameters of the definition of a predicate
abbrev pub parameters_of : List Item → List ℕ → Option (List Named)
parameters_of [] p = None
parameters_of (e ∷ es) p = or_else (parameters_in e p) (parameters_of es p)
