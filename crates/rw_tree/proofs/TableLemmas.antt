-- The parts with an entry set, taken away or put back.
use Rattle.std.proofs.Common.{◌≡◌, ℕ, zero, suc, ◌<◌, Bool, true, false, if◌then◌else◌, List, [], ◌∷◌, ◌++◌, length, remove, refl, sym, ap, ◌∙◌, arith, Option, None, true≢false}
use Rattle.std.specs.Prelude.{bytes_eq, slice_set}
use Rattle.rw_sequents.specs.declared.line.Cert.{Cert}
use Rattle.rw_goals.specs.declared.library.Item.{Item}
use Rattle.rw_library.specs.Entries.{entry_name, has_entry, place_of}
use Rattle.rw_library.proofs.Places.{place_found, put_there, put_last, removed}
use Rattle.rw_programs.specs.declared.prog.Param.{Param}
use Rattle.rw_nodes.specs.declared.parts.Parts.{Parts}
use Rattle.rw_nodes.specs.Edits.{is_param, without_param, param_place}
use Rattle.rw_nodes.specs.Parts.{proofs_with, with_entry, less_entry}

-- the parts with these entries and certificates
abbrev pub table_parts : Parts → List Item → List (Option Cert) → Parts
table_parts parts entries proofs = record parts { library = record { entries = entries }; proofs = proofs }

-- an entry that is there is set in its place
pub set_there : (parts : Parts) (e : Item) → has_entry (entry_name e) parts.library.entries ≡ true →
    table_parts parts (slice_set parts.library.entries (place_of parts.library.entries (entry_name e)) e) parts.proofs ≡ with_entry parts e
set_there parts e h = λ i. table_parts parts (put_there parts.library.entries e h i) (proofs_kept i)
  where
    proofs_kept : parts.proofs ≡ proofs_with parts.library.entries parts.proofs (entry_name e)
    proofs_kept = sym (ap (λ (b : Bool). if b then parts.proofs else parts.proofs ++ None ∷ []) h)

-- a new one goes last
pub set_last : (parts : Parts) (e : Item) → has_entry (entry_name e) parts.library.entries ≡ false →
    table_parts parts (parts.library.entries ++ e ∷ []) (parts.proofs ++ None ∷ []) ≡ with_entry parts e
set_last parts e h = λ i. table_parts parts (sym (put_last parts.library.entries e h) i) (proofs_longer i)
  where
    proofs_longer : parts.proofs ++ None ∷ [] ≡ proofs_with parts.library.entries parts.proofs (entry_name e)
    proofs_longer = sym (ap (λ (b : Bool). if b then parts.proofs else parts.proofs ++ None ∷ []) h)

pub taken_away : (parts : Parts) (x : List ℕ) → table_parts parts (remove parts.library.entries (place_of parts.library.entries x)) (remove parts.proofs (place_of parts.library.entries x)) ≡ less_entry parts x
taken_away parts x = λ i. table_parts parts (removed parts.library.entries x i) (remove parts.proofs (place_of parts.library.entries x))

pub param_found : (params : List Param) (x : List ℕ) → is_param params x ≡ true → param_place params x < length params
param_found [] x h = absurd (true≢false (sym h))
param_found (p ∷ params) x h = go (bytes_eq p.name x) refl (param_found params x)
  where
    go : (b : Bool) → bytes_eq p.name x ≡ b → (is_param params x ≡ true → param_place params x < length params) → param_place (p ∷ params) x < length (p ∷ params)
    go true is rest = rw is (omega arith)
    go false is rest = let within : param_place params x < length params = rest (sym (rw is refl) ∙ h) in rw is (omega (arith, within))

pub param_removed : (params : List Param) (x : List ℕ) → remove params (param_place params x) ≡ without_param params x
param_removed [] x = refl
param_removed (p ∷ params) x = go (bytes_eq p.name x) (param_removed params x)
  where
    go : (b : Bool) → remove params (param_place params x) ≡ without_param params x →
        remove (p ∷ params) (if b then 0 else suc (param_place params x)) ≡ (if b then params else p ∷ without_param params x)
    go true rest = refl
    go false rest = ap (λ ps. p ∷ ps) rest

-- the place of an entry that is there is one of its certificate
pub place_in : (entries : List Item) (x : List ℕ) (n : ℕ) → has_entry x entries ≡ true → n ≡ length entries → place_of entries x < n
place_in entries x n h e = let within : place_of entries x < length entries = place_found entries x h in omega (arith, within, e)

-- what is set in its place leaves the places
pub set_within : (entries : List Item) (k : ℕ) (e : Item) → k < length entries → k < length (slice_set entries k e)
set_within [] k e h = absurd (omega (arith, h))
set_within (d ∷ entries) zero e h = omega arith
set_within (d ∷ entries) (suc k) e h = let less : k < length entries = omega (arith, h) in let rest : k < length (slice_set entries k e) = set_within entries k e less in omega (arith, rest)
