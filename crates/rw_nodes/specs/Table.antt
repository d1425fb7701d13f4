-- The table of definitions and lemmas that a list of edits makes; the newest edit stands first in the list.
use Rattle.std.specs.Prelude.{ℕ, if◌then◌else◌, List, [], ◌∷◌, map, slice_get, Option, Some, None}
use Rattle.std.specs.Option.{option_and_then}
use Rattle.rw_sequents.specs.declared.line.Cert.{Cert}
use Rattle.rw_goals.specs.declared.library.Item.{Item}
use Rattle.rw_goals.specs.declared.library.Item.TheVariants as item
use Rattle.rw_library.specs.Entries.{entry_name, is_entry}
use Rattle.rw_nodes.specs.declared.edit.Edit.{Edit}
use Rattle.rw_nodes.specs.declared.edit.Edit.TheVariants as edit

-- an entry with its certificate, if it has one
pub record Row : Type 0 where
  pub entry : Item
  pub proof : Option Cert

-- an entry that is set again keeps its place and its certificate; a new one goes last, without one
abbrev pub put_row : List Row → Item → List Row
put_row [] e = record { entry = e; proof = None } ∷ []
put_row (r ∷ rs) e = if is_entry (entry_name e) r.entry then record { entry = e; proof = r.proof } ∷ rs else r ∷ put_row rs e

-- the entry of a name gets a certificate
abbrev pub prove_row : List Row → List ℕ → Cert → List Row
prove_row [] x c = []
prove_row (r ∷ rs) x c = if is_entry x r.entry then record { entry = r.entry; proof = Some c } ∷ rs else r ∷ prove_row rs x c

-- the entry of a name is taken away, with its certificate
abbrev pub without_row : List Row → List ℕ → List Row
without_row [] x = []
without_row (r ∷ rs) x = if is_entry x r.entry then rs else r ∷ without_row rs x

-- the entries with their certificates, in table order
abbrev pub table_of : List Edit → List Row
table_of [] = []
table_of (edit.Define d ∷ l) = put_row (table_of l) (item.Definition d)
table_of (edit.Lemma m ∷ l) = put_row (table_of l) (item.Lemma m)
table_of (edit.ProveLemma n c ∷ l) = prove_row (table_of l) n c
table_of (edit.Drop x ∷ l) = without_row (table_of l) x
table_of (edit.Var p ∷ l) = table_of l
table_of (edit.Root w ∷ l) = table_of l
table_of (edit.Step q s ∷ l) = table_of l
table_of (edit.Clear q ∷ l) = table_of l
table_of (edit.Prove q k c ∷ l) = table_of l

abbrev pub entry_in : Row → Item
entry_in r = r.entry

abbrev pub proof_in : Row → Option Cert
proof_in r = r.proof

-- the definitions and lemmas, in table order
abbrev pub entries_of : List Edit → List Item
entries_of l = map entry_in (table_of l)

-- for each entry its certificate, or none
abbrev pub proofs_of : List Edit → List (Option Cert)
proofs_of l = map proof_in (table_of l)

-- the certificate of the entry at a place, counted from 0
abbrev pub proof_at : List (Option Cert) → ℕ → Option Cert
proof_at proofs k = option_and_then (λ o. o) (slice_get proofs k)
