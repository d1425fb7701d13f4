-- The parameters of entries: names that stand twice, and sorts.
use Rattle.std.specs.Prelude.{ℕ, Bool, true, false, ◌&&◌, if◌then◌else◌, List, [], ◌∷◌, ◌++◌, Option, Some, None, bytes_eq}
use Rattle.std.specs.List.{list_any}
use Rattle.rw_terms.specs.declared.term.Sort.{Sort}
use Rattle.rw_terms.specs.Formed.{same_sort}
use Rattle.rw_terms.specs.Named.{Named, is_named}
use Rattle.rw_goals.specs.declared.library.Definition.{Definition}
use Rattle.rw_goals.specs.declared.library.Item.{Item}
use Rattle.rw_goals.specs.declared.library.Item.TheVariants as item
use Rattle.rw_library.specs.Entries.{sorts_of}

-- the first parameter whose name one before it has, behind those that are seen
abbrev pub first_repeated : List Named → List Named → Option (List ℕ)
first_repeated seen [] = None
first_repeated seen (p ∷ params) = if list_any (is_named p.0) seen then Some p.0 else first_repeated (seen ++ p ∷ []) params

-- as many sorts, and in each place the same
abbrev pub same_sorts : List Sort → List Sort → Bool
same_sorts [] [] = true
same_sorts [] (t ∷ ts) = false
same_sorts (s ∷ ss) [] = false
same_sorts (s ∷ ss) (t ∷ ts) = same_sort s t && same_sorts ss ts

-- whether a definition that is set again keeps the sorts of its parameters
abbrev pub keeps_sorts : Definition → List Item → Bool
keeps_sorts d [] = true
keeps_sorts d (item.Definition e ∷ es) = if bytes_eq e.name d.name then same_sorts (sorts_of e.params) (sorts_of d.params) else keeps_sorts d es
keeps_sorts d (item.Lemma l ∷ es) = keeps_sorts d es
