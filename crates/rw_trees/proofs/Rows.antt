-- What the entries of a table give, after an entry was set, proved or taken away.
use Rattle.std.proofs.Common.{◌≡◌, ℕ, Bool, true, false, ◌||◌, if◌then◌else◌, List, [], ◌∷◌, ◌++◌, map, remove, Option, Some, None, refl, ap, sym, ◌∙◌, subst, append_assoc}
use Rattle.std.specs.Prelude.{slice_set, not, cond, bytes_eq}
use Rattle.std.specs.List.{filter}
use Rattle.std.proofs.lemmas.List.{append-nil}
use Rattle.rw_sequents.specs.declared.line.Cert.{Cert}
use Rattle.rw_goals.specs.declared.library.Item.{Item}
use Rattle.rw_goals.specs.declared.library.Item.TheVariants as item
use Rattle.rw_library.specs.Entries.{entry_name, is_entry, has_entry, place_of, put_entry, without_entry}
use Rattle.rw_edits.specs.declared.edit.Edit.{Edit}
use Rattle.rw_edits.specs.declared.edit.Edit.TheVariants as edit
use Rattle.rw_edits.specs.declared.edit.TreeName.{TreeName}
use Rattle.rw_edits.specs.declared.edit.TreeName.TheVariants as tree
use Rattle.rw_heads.specs.declared.head.ProcHead.{ProcHead}
use Rattle.rw_heads.specs.declared.head.Module.{Module}
use Rattle.rw_heads.specs.declared.head.Oper.{Oper}
use Rattle.rw_heads.specs.Listed.{has_name, put_name, without_name}
use Rattle.rw_edits.specs.Names.{goes_with}
use Rattle.rw_heads.specs.Heads.{put_oper, modules_with, put_proc, put_module, without_proc, without_module, has_proc, has_module}
use Rattle.rw_trees.specs.Table.{Row, Stated, Headed, Held, row_name, is_row, again, put_row, is_stated, proved, prove_row, without_row, bare, is_held, with_oper, oper_row, table_of, picks, name_in, entry_in, proof_in, proc_in, module_in, oper_tree, trees_in}
use Rattle.rw_trees.specs.Parts.{proofs_with}
use Rattle.rw_trees.proofs.Named.{same_bytes, or_left, or_right, Apart, apart_put, apart_without}

abbrev pub is_alike : Row → Row → Bool
is_alike (Stated e p) (Stated d q) = true
is_alike (Stated e p) (Headed h) = false
is_alike (Stated e p) (Held m) = false
is_alike (Headed h) (Stated e p) = false
is_alike (Headed h) (Headed g) = true
is_alike (Headed h) (Held m) = false
is_alike (Held m) (Stated e p) = false
is_alike (Held m) (Headed h) = false
is_alike (Held m) (Held n) = true

-- what has the name of this entry is of its kind
abbrev pub Alike : Row → List Row → Type 0
Alike n [] = Unit {0}
Alike n (r ∷ rs) = (is_row (row_name n) r ≡ true → is_alike n r ≡ true) × Alike n rs

module _ {A : Type 0} (f : Row → List A) (n : Row) (put : List A → List A)
    (nil : put [] ≡ f n ++ [])
    (hit : (r : Row) (ys : List A) → is_row (row_name n) r ≡ true → is_alike n r ≡ true → put (f r ++ ys) ≡ f (again n r) ++ ys)
    (miss : (r : Row) (ys : List A) → is_row (row_name n) r ≡ false → put (f r ++ ys) ≡ f r ++ put ys) where
  pub put_picked : (rs : List Row) → Alike n rs → picks f (put_row rs n) ≡ put (picks f rs)
  put_picked [] a = sym nil
  put_picked (r ∷ rs) a = go (is_row (row_name n) r) refl (put_picked rs a.1) where
    go : (b : Bool) → is_row (row_name n) r ≡ b → picks f (put_row rs n) ≡ put (picks f rs) → picks f (if b then again n r ∷ rs else r ∷ put_row rs n) ≡ put (f r ++ picks f rs)
    go true is rest = sym (hit r (picks f rs) is (a.0 is))
    go false is rest = ap (λ ys. f r ++ ys) rest ∙ sym (miss r (picks f rs) is)

-- what an entry of another kind gives stays
pub silent_put : {A : Type 0} (f : Row → List A) (n : Row) → f n ≡ [] → ((r : Row) → is_alike n r ≡ true → f r ≡ f (again n r)) → (rs : List Row) → Alike n rs → picks f (put_row rs n) ≡ picks f rs
silent_put f n none same rs a = put_picked f n (λ ys. ys) (ap (λ ys. ys ++ []) (sym none)) (λ r ys is alike. ap (λ xs. xs ++ ys) (same r alike)) (λ r ys is. refl) rs a

module _ (e : Item) (p : Option Cert) where
  entry_hit : (r : Row) (ys : List Item) → is_row (entry_name e) r ≡ true → is_alike (Stated e p) r ≡ true → put_entry (entry_in r ++ ys) e ≡ entry_in (again (Stated e p) r) ++ ys
  entry_hit (Stated d q) ys is alike = rw is refl
  entry_hit (Headed h) ys is alike = absurd (cc)
  entry_hit (Held m) ys is alike = absurd (cc)

  entry_miss : (r : Row) (ys : List Item) → is_row (entry_name e) r ≡ false → put_entry (entry_in r ++ ys) e ≡ entry_in r ++ put_entry ys e
  entry_miss (Stated d q) ys is = rw is refl
  entry_miss (Headed h) ys is = refl
  entry_miss (Held m) ys is = refl

  pub stated_entries : (rs : List Row) → Alike (Stated e p) rs → picks entry_in (put_row rs (Stated e p)) ≡ put_entry (picks entry_in rs) e
  stated_entries = put_picked entry_in (Stated e p) (λ es. put_entry es e) refl entry_hit entry_miss

  pub stated_heads : (rs : List Row) → Alike (Stated e p) rs → picks proc_in (put_row rs (Stated e p)) ≡ picks proc_in rs
  stated_heads = silent_put proc_in (Stated e p) refl same where
    same : (r : Row) → is_alike (Stated e p) r ≡ true → proc_in r ≡ proc_in (again (Stated e p) r)
    same (Stated d q) alike = refl
    same (Headed h) alike = absurd (cc)
    same (Held m) alike = absurd (cc)

  pub stated_modules : (rs : List Row) → Alike (Stated e p) rs → picks module_in (put_row rs (Stated e p)) ≡ picks module_in rs
  stated_modules = silent_put module_in (Stated e p) refl same where
    same : (r : Row) → is_alike (Stated e p) r ≡ true → module_in r ≡ module_in (again (Stated e p) r)
    same (Stated d q) alike = refl
    same (Headed h) alike = absurd (cc)
    same (Held m) alike = absurd (cc)

  pub stated_trees : (rs : List Row) → Alike (Stated e p) rs → picks trees_in (put_row rs (Stated e p)) ≡ picks trees_in rs
  stated_trees = silent_put trees_in (Stated e p) refl same where
    same : (r : Row) → is_alike (Stated e p) r ≡ true → trees_in r ≡ trees_in (again (Stated e p) r)
    same (Stated d q) alike = refl
    same (Headed h) alike = absurd (cc)
    same (Held m) alike = absurd (cc)

  pub alike_stated : (rs : List Row) → has_proc (entry_name e) (picks proc_in rs) ≡ false → has_module (entry_name e) (picks module_in rs) ≡ false → Alike (Stated e p) rs
  alike_stated [] h k = tt
  alike_stated (Stated d q ∷ rs) h k = (λ is. refl, alike_stated rs h k)
  alike_stated (Headed g ∷ rs) h k = (λ is. sym (or_left (bytes_eq g.name (entry_name e)) _ h) ∙ is, alike_stated rs (or_right (bytes_eq g.name (entry_name e)) _ h) k)
  alike_stated (Held m ∷ rs) h k = (λ is. sym (or_left (bytes_eq m.name (entry_name e)) _ k) ∙ is, alike_stated rs h (or_right (bytes_eq m.name (entry_name e)) _ k))

pub stated_proofs : (e : Item) (rs : List Row) → Alike (Stated e None) rs → picks proof_in (put_row rs (Stated e None)) ≡ proofs_with (picks entry_in rs) (picks proof_in rs) (entry_name e)
stated_proofs e [] a = refl
stated_proofs e (Stated d q ∷ rs) a = go (is_entry (entry_name e) d) refl (has_entry (entry_name e) (picks entry_in rs)) refl (stated_proofs e rs a.1)
  where
    go : (b : Bool) → is_entry (entry_name e) d ≡ b → (c : Bool) → has_entry (entry_name e) (picks entry_in rs) ≡ c →
        picks proof_in (put_row rs (Stated e None)) ≡ proofs_with (picks entry_in rs) (picks proof_in rs) (entry_name e) →
        picks proof_in (put_row (Stated d q ∷ rs) (Stated e None)) ≡ proofs_with (d ∷ picks entry_in rs) (q ∷ picks proof_in rs) (entry_name e)
    go true is c there rest = rw is refl
    go false is true there rest = rw is (rw there (ap (λ ps. q ∷ ps) (rest ∙ rw there refl)))
    go false is false there rest = rw is (rw there (ap (λ ps. q ∷ ps) (rest ∙ rw there refl)))
stated_proofs e (Headed h ∷ rs) a = go (bytes_eq h.name (entry_name e)) refl (stated_proofs e rs a.1) where
  go : (b : Bool) → bytes_eq h.name (entry_name e) ≡ b → picks proof_in (put_row rs (Stated e None)) ≡ proofs_with (picks entry_in rs) (picks proof_in rs) (entry_name e) →
      picks proof_in (if b then Stated e None ∷ rs else Headed h ∷ put_row rs (Stated e None)) ≡ proofs_with (picks entry_in rs) (picks proof_in rs) (entry_name e)
  go true is rest = absurd (let no_such : false ≡ true = a.0 is in cc)
  go false is rest = rest
stated_proofs e (Held m ∷ rs) a = go (bytes_eq m.name (entry_name e)) refl (stated_proofs e rs a.1) where
  go : (b : Bool) → bytes_eq m.name (entry_name e) ≡ b → picks proof_in (put_row rs (Stated e None)) ≡ proofs_with (picks entry_in rs) (picks proof_in rs) (entry_name e) →
      picks proof_in (if b then Stated e None ∷ rs else Held m ∷ put_row rs (Stated e None)) ≡ proofs_with (picks entry_in rs) (picks proof_in rs) (entry_name e)
  go true is rest = absurd (let no_such : false ≡ true = a.0 is in cc)
  go false is rest = rest

-- a head that is set
module _ (h : ProcHead) where
  pub headed_entries : (rs : List Row) → Alike (Headed h) rs → picks entry_in (put_row rs (Headed h)) ≡ picks entry_in rs
  headed_entries = silent_put entry_in (Headed h) refl same where
    same : (r : Row) → is_alike (Headed h) r ≡ true → entry_in r ≡ entry_in (again (Headed h) r)
    same (Stated d q) alike = absurd (cc)
    same (Headed g) alike = refl
    same (Held m) alike = absurd (cc)

  pub headed_proofs : (rs : List Row) → Alike (Headed h) rs → picks proof_in (put_row rs (Headed h)) ≡ picks proof_in rs
  headed_proofs = silent_put proof_in (Headed h) refl same where
    same : (r : Row) → is_alike (Headed h) r ≡ true → proof_in r ≡ proof_in (again (Headed h) r)
    same (Stated d q) alike = absurd (cc)
    same (Headed g) alike = refl
    same (Held m) alike = absurd (cc)

  pub headed_modules : (rs : List Row) → Alike (Headed h) rs → picks module_in (put_row rs (Headed h)) ≡ picks module_in rs
  headed_modules = silent_put module_in (Headed h) refl same where
    same : (r : Row) → is_alike (Headed h) r ≡ true → module_in r ≡ module_in (again (Headed h) r)
    same (Stated d q) alike = absurd (cc)
    same (Headed g) alike = refl
    same (Held m) alike = absurd (cc)

  head_hit : (r : Row) (ys : List ProcHead) → is_row h.name r ≡ true → is_alike (Headed h) r ≡ true → put_proc (proc_in r ++ ys) h ≡ proc_in (again (Headed h) r) ++ ys
  head_hit (Stated d q) ys is alike = absurd (cc)
  head_hit (Headed g) ys is alike = rw is refl
  head_hit (Held m) ys is alike = absurd (cc)

  head_miss : (r : Row) (ys : List ProcHead) → is_row h.name r ≡ false → put_proc (proc_in r ++ ys) h ≡ proc_in r ++ put_proc ys h
  head_miss (Stated d q) ys is = refl
  head_miss (Headed g) ys is = rw is refl
  head_miss (Held m) ys is = refl

  pub headed_heads : (rs : List Row) → Alike (Headed h) rs → picks proc_in (put_row rs (Headed h)) ≡ put_proc (picks proc_in rs) h
  headed_heads = put_picked proc_in (Headed h) (λ hs. put_proc hs h) refl head_hit head_miss

  pub alike_headed : (rs : List Row) → has_entry h.name (picks entry_in rs) ≡ false → has_module h.name (picks module_in rs) ≡ false → Alike (Headed h) rs
  alike_headed [] e k = tt
  alike_headed (Stated d q ∷ rs) e k = (λ is. sym (or_left (is_entry h.name d) _ e) ∙ is, alike_headed rs (or_right (is_entry h.name d) _ e) k)
  alike_headed (Headed g ∷ rs) e k = (λ is. refl, alike_headed rs e k)
  alike_headed (Held m ∷ rs) e k = (λ is. sym (or_left (bytes_eq m.name h.name) _ k) ∙ is, alike_headed rs e (or_right (bytes_eq m.name h.name) _ k))

-- a module that is set
module _ (m : Module) where
  pub held_entries : (rs : List Row) → Alike (Held m) rs → picks entry_in (put_row rs (Held m)) ≡ picks entry_in rs
  held_entries = silent_put entry_in (Held m) refl same where
    same : (r : Row) → is_alike (Held m) r ≡ true → entry_in r ≡ entry_in (again (Held m) r)
    same (Stated d q) alike = absurd (cc)
    same (Headed g) alike = absurd (cc)
    same (Held n) alike = refl

  pub held_proofs : (rs : List Row) → Alike (Held m) rs → picks proof_in (put_row rs (Held m)) ≡ picks proof_in rs
  held_proofs = silent_put proof_in (Held m) refl same where
    same : (r : Row) → is_alike (Held m) r ≡ true → proof_in r ≡ proof_in (again (Held m) r)
    same (Stated d q) alike = absurd (cc)
    same (Headed g) alike = absurd (cc)
    same (Held n) alike = refl

  pub held_heads : (rs : List Row) → Alike (Held m) rs → picks proc_in (put_row rs (Held m)) ≡ picks proc_in rs
  held_heads = silent_put proc_in (Held m) refl same where
    same : (r : Row) → is_alike (Held m) r ≡ true → proc_in r ≡ proc_in (again (Held m) r)
    same (Stated d q) alike = absurd (cc)
    same (Headed g) alike = absurd (cc)
    same (Held n) alike = refl

  module_hit : (r : Row) (ys : List Module) → is_row m.name r ≡ true → is_alike (Held m) r ≡ true → put_module (module_in r ++ ys) m ≡ module_in (again (Held m) r) ++ ys
  module_hit (Stated d q) ys is alike = absurd (cc)
  module_hit (Headed g) ys is alike = absurd (cc)
  module_hit (Held n) ys is alike = rw is refl

  module_miss : (r : Row) (ys : List Module) → is_row m.name r ≡ false → put_module (module_in r ++ ys) m ≡ module_in r ++ put_module ys m
  module_miss (Stated d q) ys is = refl
  module_miss (Headed g) ys is = refl
  module_miss (Held n) ys is = rw is refl

  pub held_modules : (rs : List Row) → Alike (Held m) rs → picks module_in (put_row rs (Held m)) ≡ put_module (picks module_in rs) m
  held_modules = put_picked module_in (Held m) (λ ms. put_module ms m) refl module_hit module_miss

  pub alike_held : (rs : List Row) → has_entry m.name (picks entry_in rs) ≡ false → has_proc m.name (picks proc_in rs) ≡ false → Alike (Held m) rs
  alike_held [] e k = tt
  alike_held (Stated d q ∷ rs) e k = (λ is. sym (or_left (is_entry m.name d) _ e) ∙ is, alike_held rs (or_right (is_entry m.name d) _ e) k)
  alike_held (Headed g ∷ rs) e k = (λ is. sym (or_left (bytes_eq g.name m.name) _ k) ∙ is, alike_held rs e (or_right (bytes_eq g.name m.name) _ k))
  alike_held (Held n ∷ rs) e k = (λ is. refl, alike_held rs e k)

-- the names, whatever is set
same_name : (n r : Row) → row_name (again n r) ≡ row_name n
same_name (Stated e p) (Stated d q) = refl
same_name (Stated e p) (Headed h) = refl
same_name (Stated e p) (Held m) = refl
same_name (Headed h) r = refl
same_name (Held m) (Stated e p) = refl
same_name (Held m) (Headed h) = refl
same_name (Held m) (Held n) = refl

pub put_names : (rs : List Row) (n : Row) → picks name_in (put_row rs n) ≡ put_name (picks name_in rs) (row_name n)
put_names [] n = refl
put_names (r ∷ rs) n = go (is_row (row_name n) r) (put_names rs n) where
  go : (b : Bool) → picks name_in (put_row rs n) ≡ put_name (picks name_in rs) (row_name n) → picks name_in (if b then again n r ∷ rs else r ∷ put_row rs n) ≡ (if b then row_name n ∷ picks name_in rs else row_name r ∷ put_name (picks name_in rs) (row_name n))
  go true rest = ap (λ x. x ∷ picks name_in rs) (same_name n r)
  go false rest = ap (λ xs. row_name r ∷ xs) rest

-- the trees of what is set: those of a new entry go last
trees_again : (n r : Row) → is_row (row_name n) r ≡ true → is_alike n r ≡ true → trees_in (again n r) ≡ trees_in r
trees_again (Stated e p) (Stated d q) is alike = refl
trees_again (Stated e p) (Headed h) is alike = absurd (cc)
trees_again (Stated e p) (Held m) is alike = absurd (cc)
trees_again (Headed h) (Stated d q) is alike = absurd (cc)
trees_again (Headed h) (Headed g) is alike = ap (λ x. tree.Proc x ∷ []) (sym (same_bytes g.name h.name is))
trees_again (Headed h) (Held m) is alike = absurd (cc)
trees_again (Held m) (Stated d q) is alike = absurd (cc)
trees_again (Held m) (Headed h) is alike = absurd (cc)
trees_again (Held m) (Held n) is alike = ap (λ x. tree.Start x ∷ map (oper_tree x) n.operations) (sym (same_bytes n.name m.name is))

pub put_trees : (rs : List Row) (n : Row) → Alike n rs → picks trees_in (put_row rs n) ≡ (if has_name (row_name n) (picks name_in rs) then picks trees_in rs else picks trees_in rs ++ trees_in n)
put_trees [] n a = append-nil (trees_in n)
put_trees (r ∷ rs) n a = go (is_row (row_name n) r) refl (has_name (row_name n) (picks name_in rs)) (put_trees rs n a.1) where
  go : (b : Bool) → is_row (row_name n) r ≡ b → (c : Bool) → picks trees_in (put_row rs n) ≡ (if c then picks trees_in rs else picks trees_in rs ++ trees_in n) →
      picks trees_in (if b then again n r ∷ rs else r ∷ put_row rs n) ≡ (if b || c then trees_in r ++ picks trees_in rs else (trees_in r ++ picks trees_in rs) ++ trees_in n)
  go true is c rest = ap (λ ts. ts ++ picks trees_in rs) (trees_again n r is (a.0 is))
  go false is true rest = ap (λ ts. trees_in r ++ ts) rest
  go false is false rest = ap (λ ts. trees_in r ++ ts) rest ∙ sym (append_assoc (trees_in r) (picks trees_in rs) (trees_in n))

-- a certificate that is set
pub prove_same : {A : Type 0} (f : Row → List A) (c : Cert) → ((r : Row) → f (proved c r) ≡ f r) → (rs : List Row) (x : List ℕ) → picks f (prove_row rs x c) ≡ picks f rs
prove_same f c same [] x = refl
prove_same f c same (r ∷ rs) x = go (is_stated x r) (prove_same f c same rs x) where
  go : (b : Bool) → picks f (prove_row rs x c) ≡ picks f rs → picks f (if b then proved c r ∷ rs else r ∷ prove_row rs x c) ≡ f r ++ picks f rs
  go true rest = ap (λ ys. ys ++ picks f rs) (same r)
  go false rest = ap (λ ys. f r ++ ys) rest

module _ (c : Cert) where
  pub names_proved : (r : Row) → name_in (proved c r) ≡ name_in r
  names_proved (Stated d q) = refl
  names_proved (Headed h) = refl
  names_proved (Held m) = refl

  pub entries_proved : (r : Row) → entry_in (proved c r) ≡ entry_in r
  entries_proved (Stated d q) = refl
  entries_proved (Headed h) = refl
  entries_proved (Held m) = refl

  pub heads_proved : (r : Row) → proc_in (proved c r) ≡ proc_in r
  heads_proved (Stated d q) = refl
  heads_proved (Headed h) = refl
  heads_proved (Held m) = refl

  pub modules_proved : (r : Row) → module_in (proved c r) ≡ module_in r
  modules_proved (Stated d q) = refl
  modules_proved (Headed h) = refl
  modules_proved (Held m) = refl

  pub trees_proved : (r : Row) → trees_in (proved c r) ≡ trees_in r
  trees_proved (Stated d q) = refl
  trees_proved (Headed h) = refl
  trees_proved (Held m) = refl

pub prove_proofs : (rs : List Row) (x : List ℕ) (c : Cert) → picks proof_in (prove_row rs x c) ≡ slice_set (picks proof_in rs) (place_of (picks entry_in rs) x) (Some c)
prove_proofs [] x c = refl
prove_proofs (Stated d q ∷ rs) x c = go (is_entry x d) refl (prove_proofs rs x c)
  where
    go : (b : Bool) → is_entry x d ≡ b → picks proof_in (prove_row rs x c) ≡ slice_set (picks proof_in rs) (place_of (picks entry_in rs) x) (Some c) →
        picks proof_in (prove_row (Stated d q ∷ rs) x c) ≡ slice_set (q ∷ picks proof_in rs) (place_of (d ∷ picks entry_in rs) x) (Some c)
    go true is rest = rw is refl
    go false is rest = rw is (ap (λ ps. q ∷ ps) rest)
prove_proofs (Headed h ∷ rs) x c = prove_proofs rs x c
prove_proofs (Held m ∷ rs) x c = prove_proofs rs x c

-- an entry that is taken away
pub without_names : (rs : List Row) (x : List ℕ) → picks name_in (without_row rs x) ≡ without_name x (picks name_in rs)
without_names [] x = refl
without_names (r ∷ rs) x = go (is_row x r) (without_names rs x) where
  go : (b : Bool) → picks name_in (without_row rs x) ≡ without_name x (picks name_in rs) → picks name_in (if b then rs else r ∷ without_row rs x) ≡ (if b then picks name_in rs else row_name r ∷ without_name x (picks name_in rs))
  go true rest = refl
  go false rest = ap (λ xs. row_name r ∷ xs) rest

-- an operation that is set
pub oper_same : {A : Type 0} (f : Row → List A) (o : Oper) → ((r : Row) → f (with_oper o r) ≡ f r) → (rs : List Row) (x : List ℕ) → picks f (oper_row rs x o) ≡ picks f rs
oper_same f o same [] x = refl
oper_same f o same (r ∷ rs) x = go (is_held x r) (oper_same f o same rs x) where
  go : (b : Bool) → picks f (oper_row rs x o) ≡ picks f rs → picks f (if b then with_oper o r ∷ rs else r ∷ oper_row rs x o) ≡ f r ++ picks f rs
  go true rest = ap (λ ys. ys ++ picks f rs) (same r)
  go false rest = ap (λ ys. f r ++ ys) rest

module _ (o : Oper) where
  pub names_opered : (r : Row) → name_in (with_oper o r) ≡ name_in r
  names_opered (Stated d q) = refl
  names_opered (Headed h) = refl
  names_opered (Held m) = refl

  pub entries_opered : (r : Row) → entry_in (with_oper o r) ≡ entry_in r
  entries_opered (Stated d q) = refl
  entries_opered (Headed h) = refl
  entries_opered (Held m) = refl

  pub proofs_opered : (r : Row) → proof_in (with_oper o r) ≡ proof_in r
  proofs_opered (Stated d q) = refl
  proofs_opered (Headed h) = refl
  proofs_opered (Held m) = refl

  pub heads_opered : (r : Row) → proc_in (with_oper o r) ≡ proc_in r
  heads_opered (Stated d q) = refl
  heads_opered (Headed h) = refl
  heads_opered (Held m) = refl

pub oper_modules : (rs : List Row) (x : List ℕ) (o : Oper) → picks module_in (oper_row rs x o) ≡ modules_with (picks module_in rs) x o
oper_modules [] x o = refl
oper_modules (Stated d q ∷ rs) x o = oper_modules rs x o
oper_modules (Headed h ∷ rs) x o = oper_modules rs x o
oper_modules (Held m ∷ rs) x o = go (bytes_eq m.name x) (oper_modules rs x o) where
  go : (b : Bool) → picks module_in (oper_row rs x o) ≡ modules_with (picks module_in rs) x o →
      picks module_in (if b then Held (record m { operations = put_oper m.operations o }) ∷ rs else Held m ∷ oper_row rs x o) ≡ (if b then record m { operations = put_oper m.operations o } ∷ picks module_in rs else m ∷ modules_with (picks module_in rs) x o)
  go true rest = refl
  go false rest = ap (λ ms. m ∷ ms) rest

put_apart : (rs : List Row) (n : Row) → Apart (picks name_in rs) → Apart (picks name_in (put_row rs n))
put_apart rs n a = subst Apart (sym (put_names rs n)) (apart_put (picks name_in rs) (row_name n) a)

-- in a table that a list makes no name stands twice
pub table_apart : (l : List Edit) → Apart (picks name_in (table_of l))
table_apart [] = tt
table_apart (edit.Define d ∷ l) = put_apart (table_of l) (Stated (item.Definition d) None) (table_apart l)
table_apart (edit.Lemma m ∷ l) = put_apart (table_of l) (Stated (item.Lemma m) None) (table_apart l)
table_apart (edit.Proc h ∷ l) = put_apart (table_of l) (Headed h) (table_apart l)
table_apart (edit.Module m ∷ l) = put_apart (table_of l) (Held (bare m)) (table_apart l)
table_apart (edit.Oper x o ∷ l) = subst Apart (sym (oper_same name_in o (names_opered o) (table_of l) x)) (table_apart l)
table_apart (edit.ProveLemma x c ∷ l) = subst Apart (sym (prove_same name_in c (names_proved c) (table_of l) x)) (table_apart l)
table_apart (edit.Drop x ∷ l) = subst Apart (sym (without_names (table_of l) x)) (apart_without (picks name_in (table_of l)) x (table_apart l))
table_apart (edit.Var p ∷ l) = table_apart l
table_apart (edit.Root w ∷ l) = table_apart l
table_apart (edit.Step q s ∷ l) = table_apart l
table_apart (edit.Clear q ∷ l) = table_apart l
table_apart (edit.Prove q k c ∷ l) = table_apart l

module _ {A : Type 0} (f : Row → List A) (x : List ℕ) (less : List A → List A)
    (nil : less [] ≡ [])
    (hit : (r : Row) (ys : List A) → is_row x r ≡ true → less ys ≡ ys → less (f r ++ ys) ≡ ys)
    (miss : (r : Row) (ys : List A) → is_row x r ≡ false → less (f r ++ ys) ≡ f r ++ less ys) where
  pub none_picked : (rs : List Row) → has_name x (picks name_in rs) ≡ false → less (picks f rs) ≡ picks f rs
  none_picked [] h = nil
  none_picked (r ∷ rs) h = miss r (picks f rs) (or_left (is_row x r) _ h) ∙ ap (λ ys. f r ++ ys) (none_picked rs (or_right (is_row x r) _ h))

  pub less_picked : (rs : List Row) → Apart (picks name_in rs) → less (picks f rs) ≡ picks f (without_row rs x)
  less_picked [] a = nil
  less_picked (r ∷ rs) a = go (is_row x r) refl (less_picked rs a.1) where
    go : (b : Bool) → is_row x r ≡ b → less (picks f rs) ≡ picks f (without_row rs x) → less (f r ++ picks f rs) ≡ picks f (if b then rs else r ∷ without_row rs x)
    go true is rest = hit r (picks f rs) is (none_picked rs (subst (λ z. has_name z (picks name_in rs) ≡ false) (same_bytes (row_name r) x is) a.0))
    go false is rest = miss r (picks f rs) is ∙ ap (λ ys. f r ++ ys) rest

module _ (x : List ℕ) where
  pub less_entries : (rs : List Row) → Apart (picks name_in rs) → without_entry (picks entry_in rs) x ≡ picks entry_in (without_row rs x)
  less_entries = less_picked entry_in x (λ es. without_entry es x) refl hit miss where
    hit : (r : Row) (ys : List Item) → is_row x r ≡ true → without_entry ys x ≡ ys → without_entry (entry_in r ++ ys) x ≡ ys
    hit (Stated d q) ys is same = rw is refl
    hit (Headed h) ys is same = same
    hit (Held m) ys is same = same

    miss : (r : Row) (ys : List Item) → is_row x r ≡ false → without_entry (entry_in r ++ ys) x ≡ entry_in r ++ without_entry ys x
    miss (Stated d q) ys is = rw is refl
    miss (Headed h) ys is = refl
    miss (Held m) ys is = refl

  pub less_heads : (rs : List Row) → Apart (picks name_in rs) → without_proc x (picks proc_in rs) ≡ picks proc_in (without_row rs x)
  less_heads = less_picked proc_in x (without_proc x) refl hit miss where
    hit : (r : Row) (ys : List ProcHead) → is_row x r ≡ true → without_proc x ys ≡ ys → without_proc x (proc_in r ++ ys) ≡ ys
    hit (Stated d q) ys is same = same
    hit (Headed h) ys is same = rw is refl
    hit (Held m) ys is same = same

    miss : (r : Row) (ys : List ProcHead) → is_row x r ≡ false → without_proc x (proc_in r ++ ys) ≡ proc_in r ++ without_proc x ys
    miss (Stated d q) ys is = refl
    miss (Headed h) ys is = rw is refl
    miss (Held m) ys is = refl

  pub less_modules : (rs : List Row) → Apart (picks name_in rs) → without_module x (picks module_in rs) ≡ picks module_in (without_row rs x)
  less_modules = less_picked module_in x (without_module x) refl hit miss where
    hit : (r : Row) (ys : List Module) → is_row x r ≡ true → without_module x ys ≡ ys → without_module x (module_in r ++ ys) ≡ ys
    hit (Stated d q) ys is same = same
    hit (Headed h) ys is same = same
    hit (Held m) ys is same = rw is refl

    miss : (r : Row) (ys : List Module) → is_row x r ≡ false → without_module x (module_in r ++ ys) ≡ module_in r ++ without_module x ys
    miss (Stated d q) ys is = refl
    miss (Headed h) ys is = refl
    miss (Held m) ys is = rw is refl

  abbrev pub stays : TreeName → Bool
  stays t = not (goes_with x t)

  opers_hit : (m : List ℕ) (os : List Oper) (ys : List TreeName) → bytes_eq m x ≡ true → filter stays (map (oper_tree m) os ++ ys) ≡ filter stays ys
  opers_hit m [] ys is = refl
  opers_hit m (o ∷ os) ys is = ap (λ b. cond (not b) (oper_tree m o ∷ filter stays (map (oper_tree m) os ++ ys)) (filter stays (map (oper_tree m) os ++ ys))) is ∙ opers_hit m os ys is

  opers_miss : (m : List ℕ) (os : List Oper) (ys : List TreeName) → bytes_eq m x ≡ false → filter stays (map (oper_tree m) os ++ ys) ≡ map (oper_tree m) os ++ filter stays ys
  opers_miss m [] ys is = refl
  opers_miss m (o ∷ os) ys is = ap (λ b. cond (not b) (oper_tree m o ∷ filter stays (map (oper_tree m) os ++ ys)) (filter stays (map (oper_tree m) os ++ ys))) is ∙ ap (λ ts. oper_tree m o ∷ ts) (opers_miss m os ys is)

  trees_hit : (r : Row) (ys : List TreeName) → is_row x r ≡ true → filter stays ys ≡ ys → filter stays (trees_in r ++ ys) ≡ ys
  trees_hit (Stated d q) ys is same = same
  trees_hit (Headed h) ys is same = ap (λ b. cond (not b) (tree.Proc h.name ∷ filter stays ys) (filter stays ys)) is ∙ same
  trees_hit (Held m) ys is same =
      let rest : List TreeName = filter stays (map (oper_tree m.name) m.operations ++ ys) in
      ap (λ b. cond (not b) (tree.Start m.name ∷ rest) rest) is ∙ opers_hit m.name m.operations ys is ∙ same

  trees_miss : (r : Row) (ys : List TreeName) → is_row x r ≡ false → filter stays (trees_in r ++ ys) ≡ trees_in r ++ filter stays ys
  trees_miss (Stated d q) ys is = refl
  trees_miss (Headed h) ys is = ap (λ b. cond (not b) (tree.Proc h.name ∷ filter stays ys) (filter stays ys)) is
  trees_miss (Held m) ys is =
      let rest : List TreeName = filter stays (map (oper_tree m.name) m.operations ++ ys) in
      ap (λ b. cond (not b) (tree.Start m.name ∷ rest) rest) is ∙ ap (λ ts. tree.Start m.name ∷ ts) (opers_miss m.name m.operations ys is)

  pub less_trees : (rs : List Row) → Apart (picks name_in rs) → filter stays (picks trees_in rs) ≡ picks trees_in (without_row rs x)
  less_trees = less_picked trees_in x (filter stays) refl trees_hit trees_miss

  proofs_none : (rs : List Row) → has_name x (picks name_in rs) ≡ false → remove (picks proof_in rs) (place_of (picks entry_in rs) x) ≡ picks proof_in rs
  proofs_none [] h = refl
  proofs_none (Stated d q ∷ rs) h = let is : is_entry x d ≡ false = or_left (is_entry x d) _ h in rw is (ap (λ ps. q ∷ ps) (proofs_none rs (or_right (is_entry x d) _ h)))
  proofs_none (Headed g ∷ rs) h = proofs_none rs (or_right (bytes_eq g.name x) _ h)
  proofs_none (Held m ∷ rs) h = proofs_none rs (or_right (bytes_eq m.name x) _ h)

  pub less_proofs : (rs : List Row) → Apart (picks name_in rs) → remove (picks proof_in rs) (place_of (picks entry_in rs) x) ≡ picks proof_in (without_row rs x)
  less_proofs [] a = refl
  less_proofs (Stated d q ∷ rs) a = go (is_entry x d) refl (less_proofs rs a.1) where
    go : (b : Bool) → is_entry x d ≡ b → remove (picks proof_in rs) (place_of (picks entry_in rs) x) ≡ picks proof_in (without_row rs x) →
        remove (q ∷ picks proof_in rs) (place_of (d ∷ picks entry_in rs) x) ≡ picks proof_in (without_row (Stated d q ∷ rs) x)
    go true is rest = rw is refl
    go false is rest = rw is (ap (λ ps. q ∷ ps) rest)
  less_proofs (Headed g ∷ rs) a = go (bytes_eq g.name x) refl (less_proofs rs a.1) where
    go : (b : Bool) → bytes_eq g.name x ≡ b → remove (picks proof_in rs) (place_of (picks entry_in rs) x) ≡ picks proof_in (without_row rs x) →
        remove (picks proof_in rs) (place_of (picks entry_in rs) x) ≡ picks proof_in (if b then rs else Headed g ∷ without_row rs x)
    go true is rest = proofs_none rs (subst (λ z. has_name z (picks name_in rs) ≡ false) (same_bytes g.name x is) a.0)
    go false is rest = rest
  less_proofs (Held m ∷ rs) a = go (bytes_eq m.name x) refl (less_proofs rs a.1) where
    go : (b : Bool) → bytes_eq m.name x ≡ b → remove (picks proof_in rs) (place_of (picks entry_in rs) x) ≡ picks proof_in (without_row rs x) →
        remove (picks proof_in rs) (place_of (picks entry_in rs) x) ≡ picks proof_in (if b then rs else Held m ∷ without_row rs x)
    go true is rest = proofs_none rs (subst (λ z. has_name z (picks name_in rs) ≡ false) (same_bytes m.name x is) a.0)
    go false is rest = rest

  -- where no entry has the name, nothing is taken away
  pub without_none : (rs : List Row) → has_name x (picks name_in rs) ≡ false → without_row rs x ≡ rs
  without_none [] h = refl
  without_none (r ∷ rs) h = let is : is_row x r ≡ false = or_left (is_row x r) _ h in rw is (ap (λ rs. r ∷ rs) (without_none rs (or_right (is_row x r) _ h)))
