-- The tests of a change of the table.
use Rattle.std.specs.Prelude.{ℕ, ◌+◌, nat_eq, Bool, false, not, ◌&&◌, ◌||◌, if◌then◌else◌, List, [], ◌∷◌, ◌++◌, Option, Some, None}
use Rattle.rw_terms.specs.Named.{Named}
use Rattle.rw_faults.specs.Faults.{first_name, predicate_unknown_in}
use Rattle.rw_goals.specs.declared.library.Item.{Item}
use Rattle.rw_goals.specs.declared.library.Item.TheVariants as item
use Rattle.rw_sequents.specs.declared.line.Cert.{Cert}
use Rattle.rw_library.specs.Entries.{entry_name, has_lemma, has_definition, before_entry, place_of, heads_of}
use Rattle.rw_library.specs.Naming.{item_names, cert_names}
use Rattle.rw_library.specs.Parameters.{first_repeated, keeps_sorts}
use Rattle.rw_lemmas.specs.declared.error.LemmaError.{LemmaError}
use Rattle.rw_lemmas.specs.declared.error.LemmaError.TheVariants as error
use Rattle.rw_lemmas.specs.States.{proof_at}
use Rattle.rw_lemmas.specs.Table.{Table, with_moved}

-- the name is there as the other kind, or a parameter stands twice
abbrev pub twice : Bool → List ℕ → List Named → Option (List ℕ)
twice clash x params = if clash then Some x else first_repeated [] params

abbrev pub twice_of : List Item → Item → Option (List ℕ)
twice_of entries (item.Definition d) = twice (has_lemma d.name entries) d.name d.params
twice_of entries (item.Lemma l) = twice (has_definition l.name entries) l.name l.params

-- the first predicate of a definition's body that does not stand before its place
abbrev pub late_of : List Item → Item → Option (List ℕ)
late_of entries (item.Definition d) = predicate_unknown_in (heads_of (before_entry entries d.name)) d.body
late_of entries (item.Lemma l) = None

-- the same of the definitions among entries, behind those before them
abbrev pub late_in : List Item → Item → Option (List ℕ)
late_in before (item.Definition d) = predicate_unknown_in (heads_of before) d.body
late_in before (item.Lemma l) = None

abbrev pub first_late : List Item → List Item → Option (List ℕ)
first_late before [] = None
first_late before (e ∷ es) = first_name (late_in before e) (first_late (before ++ e ∷ []) es)

abbrev pub proof_names : List ℕ → Option Cert → Bool
proof_names x None = false
proof_names x (Some cert) = cert_names x cert

-- the body or the statement of an entry, or its certificate, names the entry of a name
abbrev pub uses : List ℕ → Item → Option Cert → Bool
uses x e proof = item_names x e || proof_names x proof

-- the first of the entries from a place on, but that in the place p, which does
abbrev pub user_from : List ℕ → ℕ → List (Option Cert) → ℕ → List Item → Option (List ℕ)
user_from x p proofs k [] = None
user_from x p proofs k (e ∷ es) = if not (nat_eq k p) && uses x e (proof_at proofs k) then Some (entry_name e) else user_from x p proofs (k + 1) es

-- the first other entry that does
abbrev pub user_of : Table → List ℕ → Option (List ℕ)
user_of t x = user_from x (place_of t.library.entries x) t.proofs 0 t.library.entries

abbrev pub or_error : Option LemmaError → Option LemmaError → Option LemmaError
or_error None later = later
or_error (Some e) later = Some e

abbrev pub duplicate : Option (List ℕ) → Option LemmaError
duplicate None = None
duplicate (Some x) = Some (error.Duplicate x)

abbrev pub ordered : Option (List ℕ) → Option LemmaError
ordered None = None
ordered (Some x) = Some (error.Order x)

abbrev pub in_use : Option (List ℕ) → Option LemmaError
in_use None = None
in_use (Some x) = Some (error.InUse x)

-- what uses a definition would be ill-formed where the sorts of its parameters change
abbrev pub changed_user : Table → Item → Option (List ℕ)
changed_user t (item.Definition d) = if keeps_sorts d t.library.entries then None else user_of t d.name
changed_user t (item.Lemma l) = None

-- the tests of an entry that is set
unfoldable pub set_refusal : Table → Item → Option LemmaError
set_refusal t n = or_error (duplicate (twice_of t.library.entries n)) (or_error (ordered (late_of t.library.entries n)) (in_use (changed_user t n)))

-- the test of an entry that is moved
unfoldable pub move_refusal : Table → List ℕ → ℕ → Option LemmaError
move_refusal t x to = ordered (first_late [] (with_moved t x to).library.entries)

-- the test of an entry that is taken away
unfoldable pub remove_refusal : Table → List ℕ → Option LemmaError
remove_refusal t x = in_use (user_of t x)
