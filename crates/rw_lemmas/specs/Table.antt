-- The table: definitions and lemmas in order, each with its certificate, or none.
use Rattle.std.specs.Prelude.{◌≡◌, ℕ, ◌<◌, zero, suc, length, List, [], ◌∷◌, Option, Some, None, slice_get, insert, remove}
use Rattle.rw_goals.specs.declared.library.Item.{Item}
use Rattle.rw_goals.specs.declared.library.Item.TheVariants as item
use Rattle.rw_goals.specs.declared.library.Library.{Library}
use Rattle.rw_sequents.specs.declared.line.Cert.{Cert}
use Rattle.rw_library.specs.Entries.{entry_name, place_of}
use Rattle.rw_lemmas.specs.declared.status.LemmaStatus.{LemmaStatus}
use Rattle.rw_lemmas.specs.States.{AreCounted, statuses_from, status_from, proof_from}

pub record Table : Type 0 where
  pub library : Library
  pub proofs : List (Option Cert)

-- the table without entries
abbrev pub empty : Table
empty = record { library = record { entries = [] }; proofs = [] }

-- fewer entries than a place can count, as many certificates or none, and each certificate is counted
pub record IsTable (library : Library) (proofs : List (Option Cert)) : Type 0 where
  pub few : length library.entries < 4294967295
  pub beside : length proofs ≡ length library.entries
  pub counted : AreCounted proofs

-- the statuses of checking each lemma anew
abbrev pub anew : Table → List LemmaStatus
anew t = statuses_from t.library t.proofs 0 t.library.entries

-- the status of a lemma
abbrev pub status_of : Table → List ℕ → Option LemmaStatus
status_of t x = status_from (anew t) 0 t.library.entries x

-- the certificate of a lemma
abbrev pub proof_of : Table → List ℕ → Option Cert
proof_of t x = proof_from t.proofs 0 t.library.entries x

-- one in a place, instead of that there, or last
abbrev pub put_at : {X : Type 0} → ℕ → X → List X → List X
put_at k x [] = x ∷ []
put_at zero x (y ∷ ys) = x ∷ ys
put_at (suc k) x (y ∷ ys) = y ∷ put_at k x ys

-- one taken out, and put in before another that is left, or last
abbrev pub put_in : {X : Type 0} → Option X → ℕ → List X → List X
put_in None to xs = xs
put_in (Some x) to xs = insert xs to x

abbrev pub moved : {X : Type 0} → ℕ → ℕ → List X → List X
moved from to xs = put_in (slice_get xs from) to (remove xs from)

-- a lemma has its certificate, or none, and a definition has none
abbrev pub proof_of_entry : Item → Option Cert → Option Cert
proof_of_entry (item.Definition d) p = None
proof_of_entry (item.Lemma l) p = p

-- an entry with its certificate, or none, in the place of that of its name, or last
abbrev pub with_entry : Table → Item → Option Cert → Table
with_entry t e p =
    record {
      library = record { entries = put_at (place_of t.library.entries (entry_name e)) e t.library.entries };
      proofs = put_at (place_of t.library.entries (entry_name e)) (proof_of_entry e p) t.proofs;
    }

-- the entry of a name with its certificate in another place
abbrev pub with_moved : Table → List ℕ → ℕ → Table
with_moved t x to =
    record {
      library = record { entries = moved (place_of t.library.entries x) to t.library.entries };
      proofs = moved (place_of t.library.entries x) to t.proofs;
    }

-- the table without the entry of a name
abbrev pub without : Table → List ℕ → Table
without t x =
    record {
      library = record { entries = remove t.library.entries (place_of t.library.entries x) };
      proofs = remove t.proofs (place_of t.library.entries x);
    }
