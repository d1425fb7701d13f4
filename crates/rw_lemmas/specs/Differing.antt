-- Lists of what differs between two tables, and the certificates that meet them.
use Rattle.std.specs.Prelude.{◌≡◌, ℕ, Bool, true, false, not, ◌&&◌, ◌||◌, if◌then◌else◌, List, [], ◌∷◌, Option, Some, None}
use Rattle.std.specs.List.{list_any}
use Rattle.rw_terms.specs.declared.term.Formula.{Formula}
use Rattle.rw_terms.specs.declared.sequent.Sequent.{Sequent}
use Rattle.rw_terms.specs.Validity.{Each}
use Rattle.rw_faults.specs.Initial.{is_listed}
use Rattle.rw_goals.specs.declared.library.Lemma.{Lemma}
use Rattle.rw_goals.specs.declared.library.Item.{Item}
use Rattle.rw_goals.specs.declared.library.Item.TheVariants as item
use Rattle.rw_citations.specs.Cited.{lemma_of}
use Rattle.rw_sequents.specs.declared.line.CertLine.{CertLine}
use Rattle.rw_sequents.specs.declared.line.CertLine.TheVariants as line
use Rattle.rw_sequents.specs.declared.line.Cert.{Cert}
use Rattle.rw_library.specs.Naming.{applies}
use Rattle.rw_library.specs.Entries.{entry_name}
use Rattle.rw_lemmas.specs.declared.differing.Kind.{Kind}
use Rattle.rw_lemmas.specs.declared.differing.Kind.TheVariants as kind
use Rattle.rw_lemmas.specs.declared.differing.Changes.{Changes}
use Rattle.rw_lemmas.specs.Citing.{is_unfolding}
use Rattle.rw_lemmas.specs.Affected.{Reaches, SameLemma, SameSorts, SameDefinition, ReadsSame}

-- what a name means in both tables, by one look
abbrev pub Same : Kind → List Item → List Item → List ℕ → Type 0
Same kind.Lemma es es' x = SameLemma es es' x
Same kind.Sorts es es' x = SameSorts es es' x
Same kind.Definition es es' x = SameDefinition es es' x

-- the names are exactly those that are not so
pub record Tells (S : List ℕ → Type 0) (names : List (List ℕ)) : Type 0 where
  pub others : (x : List ℕ) → is_listed names x ≡ false → S x
  pub each : Each (λ x. S x → ⊥) names

-- all names but some are so where an entry has them
abbrev pub Covers : (List ℕ → Type 0) → List (List ℕ) → List Item → Type 0
Covers S names entries = Each (λ e. is_listed names (entry_name e) ≡ false → S (entry_name e)) entries

-- every name that is listed stays so
abbrev pub Keeps : List (List ℕ) → List (List ℕ) → Type 0
Keeps names more = (x : List ℕ) → is_listed names x ≡ true → is_listed more x ≡ true

-- whether one of the predicates stands in a formula
abbrev pub meets : List (List ℕ) → Formula → Bool
meets names f = list_any (λ x. applies x f) names

abbrev pub sequent_meets : List (List ℕ) → Sequent → Bool
sequent_meets names q = list_any (meets names) q.left || list_any (meets names) q.right

abbrev pub lemma_meets : List (List ℕ) → Option Lemma → Bool
lemma_meets names None = false
lemma_meets names (Some l) = sequent_meets names l.sequent

-- the first definition beside these names that uses one of them
abbrev pub next_user : List (List ℕ) → List Item → Option (List ℕ)
next_user names [] = None
next_user names (item.Definition d ∷ es) = if not (is_listed names d.name) && meets names d.body then Some d.name else next_user names es
next_user names (item.Lemma l ∷ es) = next_user names es

-- a name from which one of the names is reached
abbrev pub ReachesOne : List Item → List (List ℕ) → List ℕ → Type 0
ReachesOne es names x = (y : List ℕ) × (is_listed names y ≡ true) × Reaches es x y

-- the changes between two tables
pub record TellsChanges (es es' : List Item) (c : Changes) : Type 0 where
  pub lemmas : Tells (SameLemma es es') c.lemmas
  pub predicates : Tells (SameSorts es es') c.predicates
  pub definitions : (x : List ℕ) → is_listed c.definitions x ≡ false → SameDefinition es es' x
  pub closed : next_user c.definitions es ≡ None
  pub reasons : Each (λ x. ReadsSame es es' x → ⊥) c.definitions

-- whether one is there and the other not
abbrev pub is_one_alone : Option Lemma → Option Lemma → Bool
is_one_alone None None = false
is_one_alone None (Some l) = true
is_one_alone (Some l) None = true
is_one_alone (Some l) (Some m) = false

-- whether what a line cites differs, by the entries before both places, or the sorts of a predicate in it
abbrev pub line_changes : Changes → List Item → List Item → CertLine → Bool
line_changes c before before' (line.Cut f) = meets c.predicates f
line_changes c before before' (line.Lemma n ts) = is_listed c.lemmas n || is_one_alone (lemma_of before n) (lemma_of before' n)
line_changes c before before' _ = false

-- whether one of the definitions is reached from a line
abbrev pub line_reads : List (List ℕ) → List Item → CertLine → Bool
line_reads names before (line.Cut f) = meets names f
line_reads names before (line.Lemma n ts) = lemma_meets names (lemma_of before n)
line_reads names before _ = false

-- whether it is from a lemma or from its certificate
abbrev pub reads : List (List ℕ) → List Item → Lemma → Cert → Bool
reads names before l cert = sequent_meets names l.sequent || list_any (line_reads names before) cert.lines

-- whether a certificate reads what differs
abbrev pub reads_change : Changes → List Item → List Item → Lemma → Cert → Bool
reads_change c before before' l cert =
    list_any (line_changes c before before') cert.lines || (list_any is_unfolding cert.lines && reads c.definitions before l cert)
