-- The entries and the certificates of a table, apart.
use Rattle.std.proofs.Common.{◌≡◌, ℕ, Bool, true, false, if◌then◌else◌, List, [], ◌∷◌, map, remove, Some, refl, ap, sym, ◌∙◌}
use Rattle.std.specs.Prelude.{slice_set}
use Rattle.rw_sequents.specs.declared.line.Cert.{Cert}
use Rattle.rw_goals.specs.declared.library.Item.{Item}
use Rattle.rw_library.specs.Entries.{entry_name, is_entry, has_entry, place_of, put_entry, without_entry}
use Rattle.rw_nodes.specs.Table.{Row, put_row, prove_row, without_row, entry_in, proof_in}
use Rattle.rw_nodes.specs.Parts.{proofs_with}

pub put_entries : (rs : List Row) (e : Item) → map entry_in (put_row rs e) ≡ put_entry (map entry_in rs) e
put_entries [] e = refl
put_entries (r ∷ rs) e = go (is_entry (entry_name e) r.entry) (put_entries rs e)
  where
    go : (b : Bool) → map entry_in (put_row rs e) ≡ put_entry (map entry_in rs) e →
        map entry_in (if b then record { entry = e; proof = r.proof } ∷ rs else r ∷ put_row rs e) ≡ (if b then e ∷ map entry_in rs else r.entry ∷ put_entry (map entry_in rs) e)
    go true rest = refl
    go false rest = ap (λ es. r.entry ∷ es) rest

pub put_proofs : (rs : List Row) (e : Item) → map proof_in (put_row rs e) ≡ proofs_with (map entry_in rs) (map proof_in rs) (entry_name e)
put_proofs [] e = refl
put_proofs (r ∷ rs) e = go (is_entry (entry_name e) r.entry) refl (has_entry (entry_name e) (map entry_in rs)) refl (put_proofs rs e)
  where
    go : (b : Bool) → is_entry (entry_name e) r.entry ≡ b → (c : Bool) → has_entry (entry_name e) (map entry_in rs) ≡ c →
        map proof_in (put_row rs e) ≡ proofs_with (map entry_in rs) (map proof_in rs) (entry_name e) →
        map proof_in (put_row (r ∷ rs) e) ≡ proofs_with (r.entry ∷ map entry_in rs) (r.proof ∷ map proof_in rs) (entry_name e)
    go true is c there rest = rw is refl
    go false is true there rest = rw is (rw there (ap (λ ps. r.proof ∷ ps) (rest ∙ rw there refl)))
    go false is false there rest = rw is (rw there (ap (λ ps. r.proof ∷ ps) (rest ∙ rw there refl)))

pub prove_entries : (rs : List Row) (x : List ℕ) (c : Cert) → map entry_in (prove_row rs x c) ≡ map entry_in rs
prove_entries [] x c = refl
prove_entries (r ∷ rs) x c = go (is_entry x r.entry) (prove_entries rs x c)
  where
    go : (b : Bool) → map entry_in (prove_row rs x c) ≡ map entry_in rs → map entry_in (if b then record { entry = r.entry; proof = Some c } ∷ rs else r ∷ prove_row rs x c) ≡ r.entry ∷ map entry_in rs
    go true rest = refl
    go false rest = ap (λ es. r.entry ∷ es) rest

pub prove_proofs : (rs : List Row) (x : List ℕ) (c : Cert) → map proof_in (prove_row rs x c) ≡ slice_set (map proof_in rs) (place_of (map entry_in rs) x) (Some c)
prove_proofs [] x c = refl
prove_proofs (r ∷ rs) x c = go (is_entry x r.entry) refl (prove_proofs rs x c)
  where
    go : (b : Bool) → is_entry x r.entry ≡ b → map proof_in (prove_row rs x c) ≡ slice_set (map proof_in rs) (place_of (map entry_in rs) x) (Some c) →
        map proof_in (prove_row (r ∷ rs) x c) ≡ slice_set (r.proof ∷ map proof_in rs) (place_of (r.entry ∷ map entry_in rs) x) (Some c)
    go true is rest = rw is refl
    go false is rest = rw is (ap (λ ps. r.proof ∷ ps) rest)

pub without_entries : (rs : List Row) (x : List ℕ) → map entry_in (without_row rs x) ≡ without_entry (map entry_in rs) x
without_entries [] x = refl
without_entries (r ∷ rs) x = go (is_entry x r.entry) (without_entries rs x)
  where
    go : (b : Bool) → map entry_in (without_row rs x) ≡ without_entry (map entry_in rs) x → map entry_in (if b then rs else r ∷ without_row rs x) ≡ (if b then map entry_in rs else r.entry ∷ without_entry (map entry_in rs) x)
    go true rest = refl
    go false rest = ap (λ es. r.entry ∷ es) rest

pub without_proofs : (rs : List Row) (x : List ℕ) → map proof_in (without_row rs x) ≡ remove (map proof_in rs) (place_of (map entry_in rs) x)
without_proofs [] x = refl
without_proofs (r ∷ rs) x = go (is_entry x r.entry) refl (without_proofs rs x)
  where
    go : (b : Bool) → is_entry x r.entry ≡ b → map proof_in (without_row rs x) ≡ remove (map proof_in rs) (place_of (map entry_in rs) x) →
        map proof_in (without_row (r ∷ rs) x) ≡ remove (r.proof ∷ map proof_in rs) (place_of (r.entry ∷ map entry_in rs) x)
    go true is rest = rw is refl
    go false is rest = rw is (ap (λ ps. r.proof ∷ ps) rest)

-- where no entry has the name, nothing is taken away
pub without_none : (rs : List Row) (x : List ℕ) → has_entry x (map entry_in rs) ≡ false → without_row rs x ≡ rs
without_none [] x e = refl
without_none (r ∷ rs) x e = go (is_entry x r.entry) refl (without_none rs x)
  where
    go : (b : Bool) → is_entry x r.entry ≡ b → (has_entry x (map entry_in rs) ≡ false → without_row rs x ≡ rs) → without_row (r ∷ rs) x ≡ r ∷ rs
    go true is rest = absurd (let f : true ≡ false = sym (rw is refl) ∙ e in cc)
    go false is rest = rw is (ap (λ rs. r ∷ rs) (rest (sym (rw is refl) ∙ e)))
