-- Entries of the table by their names.
use Rattle.std.specs.Prelude.{◌≡◌, ℕ, Bool, true, false, not, ◌&&◌, if◌then◌else◌, length, List, [], ◌∷◌, map, Option, Some, None, bytes_eq, is_some}
use Rattle.std.specs.List.{list_any}
use Rattle.rw_terms.specs.declared.scope.Head.{Head}
use Rattle.rw_terms.specs.declared.term.Sort.{Sort}
use Rattle.rw_terms.specs.Named.{Named}
use Rattle.rw_goals.specs.declared.library.Definition as definitions
use Rattle.rw_goals.specs.declared.library.Item.{Item}
use Rattle.rw_goals.specs.declared.library.Item.TheVariants.{Definition, Lemma}

-- the name of an entry
abbrev pub entry_name : Item → List ℕ
entry_name (Definition d) = d.name
entry_name (Lemma l) = l.name

-- whether an entry has the name
abbrev pub is_entry : List ℕ → Item → Bool
is_entry x e = bytes_eq (entry_name e) x

-- whether some entry has the name
abbrev pub has_entry : List ℕ → List Item → Bool
has_entry x entries = list_any (is_entry x) entries

-- whether the entry is a lemma
abbrev pub is_lemma : Item → Bool
is_lemma (Definition d) = false
is_lemma (Lemma l) = true

-- whether some entry is the lemma of this name
abbrev pub has_lemma : List ℕ → List Item → Bool
has_lemma x entries = list_any (λ e. is_lemma e && is_entry x e) entries

-- whether some entry is the definition of this name
abbrev pub has_definition : List ℕ → List Item → Bool
has_definition x entries = list_any (λ e. not (is_lemma e) && is_entry x e) entries

-- the entry of a name
abbrev pub entry_of : List Item → List ℕ → Option Item
entry_of [] x = None
entry_of (e ∷ es) x = if is_entry x e then Some e else entry_of es x

-- an entry in the place of that of its name, or else last
abbrev pub put_entry : List Item → Item → List Item
put_entry [] n = n ∷ []
put_entry (e ∷ es) n = if is_entry (entry_name n) e then n ∷ es else e ∷ put_entry es n

-- the entries but that of a name
abbrev pub without_entry : List Item → List ℕ → List Item
without_entry [] x = []
without_entry (e ∷ es) x = if is_entry x e then es else e ∷ without_entry es x

-- the entries before that of a name, or all
abbrev pub before_entry : List Item → List ℕ → List Item
before_entry [] x = []
before_entry (e ∷ es) x = if is_entry x e then [] else e ∷ before_entry es x

-- the place of the entry of a name, counted from 0, or the number of entries
abbrev pub place_of : List Item → List ℕ → ℕ
place_of entries x = length (before_entry entries x)

-- the sorts of parameters
abbrev pub sorts_of : List Named → List Sort
sorts_of params = map (λ p. p.1) params

-- the head of the predicate of a definition
abbrev pub head_of : definitions.Definition → Head
head_of d = record { name = d.name; sorts = sorts_of d.params }

-- the heads of the predicates that are defined
abbrev pub heads_of : List Item → List Head
heads_of [] = []
heads_of (Definition d ∷ es) = head_of d ∷ heads_of es
heads_of (Lemma l ∷ es) = heads_of es
