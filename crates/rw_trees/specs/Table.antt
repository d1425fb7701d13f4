-- The table of definitions, lemmas, procedures and modules that a list of edits makes; the newest edit stands first in the list.
use Rattle.std.specs.Prelude.{ℕ, Bool, false, if◌then◌else◌, List, [], ◌∷◌, ◌++◌, map, slice_get, Option, Some, None, bytes_eq}
use Rattle.std.specs.Option.{option_and_then}
use Rattle.rw_sequents.specs.declared.line.Cert.{Cert}
use Rattle.rw_goals.specs.declared.library.Item.{Item}
use Rattle.rw_goals.specs.declared.library.Item.TheVariants as item
use Rattle.rw_library.specs.Entries.{entry_name, is_entry}
use Rattle.rw_heads.specs.Heads.{put_oper}
use Rattle.rw_edits.specs.declared.edit.Edit.{Edit}
use Rattle.rw_edits.specs.declared.edit.Edit.TheVariants as edit
use Rattle.rw_edits.specs.declared.edit.TreeName.{TreeName}
use Rattle.rw_edits.specs.declared.edit.TreeName.TheVariants as tree
use Rattle.rw_heads.specs.declared.head.ProcHead.{ProcHead}
use Rattle.rw_heads.specs.declared.head.Module.{Module}
use Rattle.rw_heads.specs.declared.head.Oper.{Oper}

-- an entry of the table
pub data Row : Type 0 where
  -- a definition or a lemma, with its certificate, if it has one
  Stated : Item → Option Cert → Row
  Headed : ProcHead → Row
  Held : Module → Row

abbrev pub row_name : Row → List ℕ
row_name (Stated e p) = entry_name e
row_name (Headed h) = h.name
row_name (Held m) = m.name

-- whether an entry has the name
abbrev pub is_row : List ℕ → Row → Bool
is_row x r = bytes_eq (row_name r) x

-- an entry that is set again: a statement keeps its certificate, and a module its operations
abbrev pub again : Row → Row → Row
again (Stated e p) (Stated d q) = Stated e q
again (Stated e p) (Headed h) = Stated e p
again (Stated e p) (Held m) = Stated e p
again (Headed h) r = Headed h
again (Held m) (Stated e p) = Held m
again (Held m) (Headed h) = Held m
again (Held m) (Held n) = Held (record m { operations = n.operations })

-- an entry that is set again keeps its place; a new one goes last
abbrev pub put_row : List Row → Row → List Row
put_row [] n = n ∷ []
put_row (r ∷ rs) n = if is_row (row_name n) r then again n r ∷ rs else r ∷ put_row rs n

-- whether the entry is a definition or a lemma of this name
abbrev pub is_stated : List ℕ → Row → Bool
is_stated x (Stated e p) = is_entry x e
is_stated x (Headed h) = false
is_stated x (Held m) = false

abbrev pub proved : Cert → Row → Row
proved c (Stated e p) = Stated e (Some c)
proved c (Headed h) = Headed h
proved c (Held m) = Held m

-- the definition or lemma of a name gets a certificate
abbrev pub prove_row : List Row → List ℕ → Cert → List Row
prove_row [] x c = []
prove_row (r ∷ rs) x c = if is_stated x r then proved c r ∷ rs else r ∷ prove_row rs x c

-- the entry of a name is taken away, with all that it has
abbrev pub without_row : List Row → List ℕ → List Row
without_row [] x = []
without_row (r ∷ rs) x = if is_row x r then rs else r ∷ without_row rs x

-- the module that an edit sets has no operations
abbrev pub bare : Module → Module
bare m = record m { operations = [] }

-- whether the entry is a module of this name
abbrev pub is_held : List ℕ → Row → Bool
is_held x (Stated e p) = false
is_held x (Headed h) = false
is_held x (Held m) = bytes_eq m.name x

abbrev pub with_oper : Oper → Row → Row
with_oper o (Stated e p) = Stated e p
with_oper o (Headed h) = Headed h
with_oper o (Held m) = Held (record m { operations = put_oper m.operations o })

-- the module of a name gets an operation
abbrev pub oper_row : List Row → List ℕ → Oper → List Row
oper_row [] x o = []
oper_row (r ∷ rs) x o = if is_held x r then with_oper o r ∷ rs else r ∷ oper_row rs x o

-- the entries, in table order
abbrev pub table_of : List Edit → List Row
table_of [] = []
table_of (edit.Define d ∷ l) = put_row (table_of l) (Stated (item.Definition d) None)
table_of (edit.Lemma m ∷ l) = put_row (table_of l) (Stated (item.Lemma m) None)
table_of (edit.Proc h ∷ l) = put_row (table_of l) (Headed h)
table_of (edit.Module m ∷ l) = put_row (table_of l) (Held (bare m))
table_of (edit.Oper x o ∷ l) = oper_row (table_of l) x o
table_of (edit.ProveLemma n c ∷ l) = prove_row (table_of l) n c
table_of (edit.Drop x ∷ l) = without_row (table_of l) x
table_of (edit.Var p ∷ l) = table_of l
table_of (edit.Root w ∷ l) = table_of l
table_of (edit.Step q s ∷ l) = table_of l
table_of (edit.Clear q ∷ l) = table_of l
table_of (edit.Prove q k c ∷ l) = table_of l

-- what the entries give, one after the other
abbrev pub picks : {A : Type 0} → (Row → List A) → List Row → List A
picks f [] = []
picks f (r ∷ rs) = f r ++ picks f rs

abbrev pub name_in : Row → List (List ℕ)
name_in r = row_name r ∷ []

abbrev pub entry_in : Row → List Item
entry_in (Stated e p) = e ∷ []
entry_in (Headed h) = []
entry_in (Held m) = []

abbrev pub proof_in : Row → List (Option Cert)
proof_in (Stated e p) = p ∷ []
proof_in (Headed h) = []
proof_in (Held m) = []

abbrev pub proc_in : Row → List ProcHead
proc_in (Stated e p) = []
proc_in (Headed h) = h ∷ []
proc_in (Held m) = []

abbrev pub module_in : Row → List Module
module_in (Stated e p) = []
module_in (Headed h) = []
module_in (Held m) = m ∷ []

-- the name of an operation's tree
abbrev pub oper_tree : List ℕ → Oper → TreeName
oper_tree x o = tree.Oper x o.name

-- the trees of an entry
abbrev pub trees_in : Row → List TreeName
trees_in (Stated e p) = []
trees_in (Headed h) = tree.Proc h.name ∷ []
trees_in (Held m) = tree.Start m.name ∷ map (oper_tree m.name) m.operations

-- the definitions and lemmas, in table order
abbrev pub entries_of : List Edit → List Item
entries_of l = picks entry_in (table_of l)

-- for each definition and lemma its certificate, or none
abbrev pub proofs_of : List Edit → List (Option Cert)
proofs_of l = picks proof_in (table_of l)

-- the heads of the procedures, in table order
abbrev pub procs_of : List Edit → List ProcHead
procs_of l = picks proc_in (table_of l)

-- the modules, in table order
abbrev pub modules_of : List Edit → List Module
modules_of l = picks module_in (table_of l)

-- the names of all entries, in table order
abbrev pub order_of : List Edit → List (List ℕ)
order_of l = picks name_in (table_of l)

-- the names of the trees: that of the project, and then in table order
abbrev pub trees_of : List Edit → List TreeName
trees_of l = tree.Main ∷ picks trees_in (table_of l)

-- the certificate of the entry of the library at a place, counted from 0
abbrev pub proof_at : List (Option Cert) → ℕ → Option Cert
proof_at proofs k = option_and_then (λ o. o) (slice_get proofs k)
