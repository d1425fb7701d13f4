-- Good edits make tables of at most 1024 entries, with a certificate of at most 4096 lines or none for each entry of the library.
use Rattle.std.proofs.Common.{◌≡◌, ◌⊎◌, ℕ, zero, suc, ◌<◌, ◌≤◌, Bool, true, false, not, ◌&&◌, ◌||◌, if◌then◌else◌, nat_lt, nat_le, min, ◌+◌, List, [], ◌∷◌, length, refl, sym, ap, ◌∙◌, subst, arith, Option, Some, None, inl, inr}
use Rattle.std.specs.Prelude.{bytes_eq}
use Rattle.std.specs.Option.{option_and_then}
use Rattle.std.specs.List.{slice_get, list_all}
use Rattle.std.proofs.lemmas.Bool.Decides.{leb_tells}
use Rattle.rw_terms.specs.Validity.{Each}
use Rattle.rw_faults.specs.Faults.{unknown_in}
use Rattle.rw_faults.specs.Limits.{is_light, is_shallow}
use Rattle.rw_citations.specs.Goal.{scope_of_parameters}
use Rattle.rw_sequents.specs.declared.line.Cert.{Cert}
use Rattle.rw_sequents.specs.Counting.{line_count}
use Rattle.rw_goals.specs.declared.library.Definition.{Definition}
use Rattle.rw_goals.specs.declared.library.Lemma.{Lemma}
use Rattle.rw_goals.specs.declared.library.Item.TheVariants as item
use Rattle.rw_heads.specs.declared.head.ProcHead.{ProcHead}
use Rattle.rw_heads.specs.declared.head.Module.{Module}
use Rattle.rw_heads.specs.declared.head.Oper.{Oper}
use Rattle.rw_heads.specs.Listed.{has_name, put_name, without_name}
use Rattle.rw_library.specs.Entries.{has_lemma, has_definition, heads_of}
use Rattle.rw_edits.specs.declared.edit.Edit.{Edit}
use Rattle.rw_edits.specs.declared.edit.Edit.TheVariants as edit
use Rattle.rw_trees.specs.declared.parts.Parts.{Parts}
use Rattle.rw_trees.specs.Table.{Row, Stated, Headed, Held, row_name, is_row, again, put_row, is_stated, proved, prove_row, without_row, bare, oper_row, is_held, with_oper, table_of, picks, name_in, entry_in, proof_in, entries_of, procs_of, modules_of, order_of, proof_at}
use Rattle.rw_trees.specs.Parts.{Makes}
use Rattle.rw_trees.proofs.Rows.{put_names, without_names, prove_same, names_proved, oper_same, names_opered}
use Rattle.rw_edit_tests.specs.declared.refusal.EditRefusal.{EditRefusal}
use Rattle.rw_edit_tests.specs.declared.refusal.EditRefusal.TheVariants as refusal
use Rattle.rw_edit_tests.specs.declared.refusal.Which.TheVariants as which
use Rattle.rw_edit_tests.specs.Refusals.{unknown, ill_formed, is_ill_formed, unknown_in_cert}
use Rattle.rw_edit_tests.specs.Entering.{entry_refusal, entry_limit, are_few, heads_with, define_unknown, define_duplicate, define_part, define_limit, define_refusal, lemma_unknown, lemma_duplicate, lemma_part, lemma_limit, is_light_lemma, is_shallow_lemma, lemma_refusal, prove_refusal}
use Rattle.rw_head_tests.specs.Procs.{proc_unknown, proc_duplicate, proc_part, proc_limit, proc_refusal}
use Rattle.rw_head_tests.specs.Modules.{module_unknown, module_duplicate, module_part, module_limit, module_refusal}
use Rattle.rw_accepting.specs.Accepting.{IsGood}
use Rattle.rw_accepting.specs.Mirror.{IsBounded}
use Rattle.rw_accepting.proofs.Same.{first_told, parts_same}
use Rattle.rw_accepting.proofs.Sound.{is_short, sound_made}

-- an entry that passes no limit is there, or has room
room_told : (a b c there full : Bool) (n : ℕ) → full ≡ nat_le 1024 n →
    (if a then Some (refusal.Limit which.Weight 1024) else if b then Some (refusal.Limit which.Depth 64) else if c then Some (refusal.Limit which.Params 16) else if not there && full then Some (refusal.Limit which.Table 1024) else None) ≡ None →
    (there ≡ true) ⊎ (n < 1024)
room_told true b c there full n is e = absurd (cc)
room_told false true c there full n is e = absurd (cc)
room_told false false true there full n is e = absurd (cc)
room_told false false false true full n is e = inl refl
room_told false false false false true n is e = absurd (cc)
room_told false false false false false n is e = elim (leb_tells 1024 n) [
  | inl h ↦ absurd (let f : true ≡ false = sym h.0 ∙ sym is in cc)
  | inr h ↦ inr (omega (arith, h.1))
]

has_room : (light shallow few : Bool) (x : List ℕ) (order : List (List ℕ)) → entry_limit light shallow few x order ≡ None → (has_name x order ≡ true) ⊎ (length order < 1024)
has_room light shallow few x order e = room_told (not light) (not shallow) (not few) (has_name x order) (nat_le 1024 (length order)) (length order) refl e

-- the limits come last among the tests of an entry
last_passed : (name : Option (List ℕ)) (twice : Option EditRefusal) (part : Option ℕ) (limit : Option EditRefusal) → entry_refusal name twice part limit ≡ None → limit ≡ None
last_passed name twice part limit e = (first_told (ill_formed part) _ (first_told twice _ (first_told (unknown name) _ e).1).1).1

put_long : (xs : List (List ℕ)) (x : List ℕ) → length (put_name xs x) ≤ suc (length xs)
put_long [] x = omega arith
put_long (y ∷ xs) x = go (bytes_eq y x) (put_long xs x)
  where
    go : (b : Bool) → length (put_name xs x) ≤ suc (length xs) → length (if b then x ∷ xs else y ∷ put_name xs x) ≤ suc (suc (length xs))
    go true rest = omega arith
    go false rest = omega (arith, rest)

put_same : (xs : List (List ℕ)) (x : List ℕ) → has_name x xs ≡ true → length (put_name xs x) ≡ length xs
put_same [] x h = absurd (let f : false ≡ true = h in cc)
put_same (y ∷ xs) x h = go (bytes_eq y x) h (put_same xs x)
  where
    go : (b : Bool) → (b || has_name x xs) ≡ true → (has_name x xs ≡ true → length (put_name xs x) ≡ length xs) → length (if b then x ∷ xs else y ∷ put_name xs x) ≡ suc (length xs)
    go true h rest = refl
    go false h rest = ap suc (rest h)

put_few : (xs : List (List ℕ)) (x : List ℕ) → length xs ≤ 1024 → (has_name x xs ≡ true) ⊎ (length xs < 1024) → length (put_name xs x) ≤ 1024
put_few xs x few room = elim room [
  | inl there ↦ let same : length (put_name xs x) ≡ length xs = put_same xs x there in omega (arith, same, few)
  | inr less ↦ let long : length (put_name xs x) ≤ suc (length xs) = put_long xs x in omega (arith, long, less)
]

without_few : (xs : List (List ℕ)) (x : List ℕ) → length (without_name x xs) ≤ length xs
without_few [] x = omega arith
without_few (y ∷ xs) x = go (bytes_eq y x) (without_few xs x)
  where
    go : (b : Bool) → length (without_name x xs) ≤ length xs → length (if b then xs else y ∷ without_name x xs) ≤ suc (length xs)
    go true rest = omega arith
    go false rest = omega (arith, rest)

-- the limits are among the tests of what the table gets
define_room : (l : List Edit) (d : Definition) → define_refusal (entries_of l) (procs_of l) (modules_of l) (order_of l) d ≡ None → (has_name d.name (order_of l) ≡ true) ⊎ (length (order_of l) < 1024)
unfolding define_refusal
define_room l d e =
    has_room (is_light d.body) (is_shallow d.body) (are_few (length d.params)) d.name (order_of l)
    (last_passed (define_unknown (heads_with d (entries_of l)) d) (define_duplicate (entries_of l) (procs_of l) (modules_of l) d) (define_part (heads_with d (entries_of l)) d) (define_limit (order_of l) d) e)

lemma_room : (l : List Edit) (m : Lemma) → lemma_refusal (entries_of l) (procs_of l) (modules_of l) (order_of l) m ≡ None → (has_name m.name (order_of l) ≡ true) ⊎ (length (order_of l) < 1024)
unfolding lemma_refusal
lemma_room l m e =
    has_room (is_light_lemma m) (is_shallow_lemma m) (are_few (length m.params)) m.name (order_of l)
    (last_passed (lemma_unknown (heads_of (entries_of l)) m) (lemma_duplicate (entries_of l) (procs_of l) (modules_of l) m) (lemma_part (heads_of (entries_of l)) m) (lemma_limit (order_of l) m) e)

head_room : (l : List Edit) (h : ProcHead) → proc_refusal (entries_of l) (modules_of l) (order_of l) h ≡ None → (has_name h.name (order_of l) ≡ true) ⊎ (length (order_of l) < 1024)
unfolding proc_refusal
head_room l h e =
    has_room (is_light h.pre && is_light h.post) (is_shallow h.pre && is_shallow h.post) (are_few (length h.values + length h.results)) h.name (order_of l)
    (last_passed (proc_unknown (heads_of (entries_of l)) h) (proc_duplicate (entries_of l) (modules_of l) h) (proc_part (heads_of (entries_of l)) h) (proc_limit (order_of l) h) e)

module_room : (l : List Edit) (m : Module) → module_refusal (entries_of l) (procs_of l) (order_of l) m ≡ None → (has_name m.name (order_of l) ≡ true) ⊎ (length (order_of l) < 1024)
unfolding module_refusal
module_room l m e =
    has_room (is_light m.start && is_light m.coupling) (is_shallow m.start && is_shallow m.coupling) (are_few (length m.state) && are_few (length m.concrete)) m.name (order_of l)
    (last_passed (module_unknown (heads_of (entries_of l)) m) (module_duplicate (entries_of l) (procs_of l) m) (module_part (heads_of (entries_of l)) m) (module_limit (order_of l) m) e)

few_put : (l : List Edit) (n : Row) → length (order_of l) ≤ 1024 → (has_name (row_name n) (order_of l) ≡ true) ⊎ (length (order_of l) < 1024) → length (picks name_in (put_row (table_of l) n)) ≤ 1024
few_put l n few room = subst (λ xs. length xs ≤ 1024) (sym (put_names (table_of l) n)) (put_few (order_of l) (row_name n) few room)

few_entries : (most : ℕ) (l : List Edit) → IsGood most l → length (order_of l) ≤ 1024
few_entries most [] good = omega arith
few_entries most (edit.Var x ∷ l) good = few_entries most l good.0
few_entries most (edit.Root w ∷ l) good = few_entries most l good.0
few_entries most (edit.Step q s ∷ l) good = few_entries most l good.0
few_entries most (edit.Clear q ∷ l) good = few_entries most l good.0
few_entries most (edit.Prove q k c ∷ l) good = few_entries most l good.0
few_entries most (edit.ProveLemma x c ∷ l) good = subst (λ xs. length xs ≤ 1024) (sym (prove_same name_in c (names_proved c) (table_of l) x)) (few_entries most l good.0)
few_entries most (edit.Define d ∷ l) good =
    few_put l (Stated (item.Definition d) None) (few_entries most l good.0) (define_room l d (first_told (define_refusal (entries_of l) (procs_of l) (modules_of l) (order_of l) d) _ good.1).0)
few_entries most (edit.Lemma m ∷ l) good = few_put l (Stated (item.Lemma m) None) (few_entries most l good.0) (lemma_room l m good.1)
few_entries most (edit.Proc h ∷ l) good = few_put l (Headed h) (few_entries most l good.0) (head_room l h (first_told (proc_refusal (entries_of l) (modules_of l) (order_of l) h) _ good.1).0)
few_entries most (edit.Module m ∷ l) good =
    few_put l (Held (bare m)) (few_entries most l good.0) (module_room l m (first_told (module_refusal (entries_of l) (procs_of l) (order_of l) m) _ good.1).0)
few_entries most (edit.Oper x o ∷ l) good = subst (λ xs. length xs ≤ 1024) (sym (oper_same name_in o (names_opered o) (table_of l) x)) (few_entries most l good.0)
few_entries most (edit.Drop x ∷ l) good =
    subst (λ xs. length xs ≤ 1024) (sym (without_names (table_of l) x))
    (let less : length (without_name x (order_of l)) ≤ length (order_of l) = without_few (order_of l) x in let few : length (order_of l) ≤ 1024 = few_entries most l good.0 in omega (arith, less, few))

-- the certificate of an entry is short
abbrev ShortRow : Row → Type 0
ShortRow (Stated e p) = (c : Cert) → p ≡ Some c → line_count c.lines ≤ 4096
ShortRow (Headed h) = Unit {0}
ShortRow (Held m) = Unit {0}

again_short : (n r : Row) → ShortRow n → ShortRow r → ShortRow (again n r)
again_short (Stated e p) (Stated d q) a b = b
again_short (Stated e p) (Headed h) a b = a
again_short (Stated e p) (Held m) a b = a
again_short (Headed h) r a b = tt
again_short (Held m) (Stated e p) a b = tt
again_short (Held m) (Headed h) a b = tt
again_short (Held m) (Held n) a b = tt

put_short : (rs : List Row) (n : Row) → ShortRow n → Each ShortRow rs → Each ShortRow (put_row rs n)
put_short [] n a h = (a, tt)
put_short (r ∷ rs) n a h = go (is_row (row_name n) r) (put_short rs n a h.1)
  where
    go : (b : Bool) → Each ShortRow (put_row rs n) → Each ShortRow (if b then again n r ∷ rs else r ∷ put_row rs n)
    go true rest = (again_short n r a h.0, h.1)
    go false rest = (h.0, rest)

proved_short : (c : Cert) (r : Row) → line_count c.lines ≤ 4096 → ShortRow (proved c r)
proved_short c (Stated e p) short = λ d is. let same : c ≡ d = cc in subst (λ d. line_count d.lines ≤ 4096) same short
proved_short c (Headed h) short = tt
proved_short c (Held m) short = tt

prove_short : (rs : List Row) (x : List ℕ) (c : Cert) → line_count c.lines ≤ 4096 → Each ShortRow rs → Each ShortRow (prove_row rs x c)
prove_short [] x c short h = tt
prove_short (r ∷ rs) x c short h = go (is_stated x r) (prove_short rs x c short h.1)
  where
    go : (b : Bool) → Each ShortRow (prove_row rs x c) → Each ShortRow (if b then proved c r ∷ rs else r ∷ prove_row rs x c)
    go true rest = (proved_short c r short, h.1)
    go false rest = (h.0, rest)

without_short : (rs : List Row) (x : List ℕ) → Each ShortRow rs → Each ShortRow (without_row rs x)
without_short [] x h = tt
without_short (r ∷ rs) x h = go (is_row x r) (without_short rs x h.1)
  where
    go : (b : Bool) → Each ShortRow (without_row rs x) → Each ShortRow (if b then rs else r ∷ without_row rs x)
    go true rest = h.1
    go false rest = (h.0, rest)

opered_short : (o : Oper) (r : Row) → ShortRow r → ShortRow (with_oper o r)
opered_short o (Stated e p) a = a
opered_short o (Headed h) a = tt
opered_short o (Held m) a = tt

oper_short : (rs : List Row) (x : List ℕ) (o : Oper) → Each ShortRow rs → Each ShortRow (oper_row rs x o)
oper_short [] x o h = tt
oper_short (r ∷ rs) x o h = go (is_held x r) (oper_short rs x o h.1)
  where
    go : (b : Bool) → Each ShortRow (oper_row rs x o) → Each ShortRow (if b then with_oper o r ∷ rs else r ∷ oper_row rs x o)
    go true rest = (opered_short o r h.0, h.1)
    go false rest = (h.0, rest)

-- an accepted certificate of a lemma is short, and there is such a lemma
pub prove_told : (b : Bool) (x : List ℕ) (o : Option EditRefusal) → (if b then o else Some (refusal.Unknown x)) ≡ None → (b ≡ true) × (o ≡ None)
prove_told true x o e = (refl, e)
prove_told false x o e = absurd (cc)

short_rows : (most : ℕ) (l : List Edit) → IsGood most l → Each ShortRow (table_of l)
short_rows most [] good = tt
short_rows most (edit.Var x ∷ l) good = short_rows most l good.0
short_rows most (edit.Root w ∷ l) good = short_rows most l good.0
short_rows most (edit.Step q s ∷ l) good = short_rows most l good.0
short_rows most (edit.Clear q ∷ l) good = short_rows most l good.0
short_rows most (edit.Prove q k c ∷ l) good = short_rows most l good.0
short_rows most (edit.ProveLemma x c ∷ l) good =
    prove_short (table_of l) x c (is_short c (first_told (unknown (unknown_in_cert (entries_of l) c)) _ (prove_told (has_lemma x (entries_of l)) x _ good.1).1).1) (short_rows most l good.0)
short_rows most (edit.Define d ∷ l) good = put_short (table_of l) (Stated (item.Definition d) None) (λ c is. absurd (cc)) (short_rows most l good.0)
short_rows most (edit.Lemma m ∷ l) good = put_short (table_of l) (Stated (item.Lemma m) None) (λ c is. absurd (cc)) (short_rows most l good.0)
short_rows most (edit.Proc h ∷ l) good = put_short (table_of l) (Headed h) tt (short_rows most l good.0)
short_rows most (edit.Module m ∷ l) good = put_short (table_of l) (Held (bare m)) tt (short_rows most l good.0)
short_rows most (edit.Oper x o ∷ l) good = oper_short (table_of l) x o (short_rows most l good.0)
short_rows most (edit.Drop x ∷ l) good = without_short (table_of l) x (short_rows most l good.0)

short_at : (rs : List Row) (k : ℕ) (c : Cert) → Each ShortRow rs → proof_at (picks proof_in rs) k ≡ Some c → line_count c.lines ≤ 4096
short_at [] k c h e = absurd (cc)
short_at (Stated d p ∷ rs) zero c h e = h.0 c e
short_at (Stated d p ∷ rs) (suc k) c h e = short_at rs k c h.1 e
short_at (Headed g ∷ rs) k c h e = short_at rs k c h.1 e
short_at (Held m ∷ rs) k c h e = short_at rs k c h.1 e

as_long : (rs : List Row) → length (picks proof_in rs) ≡ length (picks entry_in rs)
as_long [] = refl
as_long (Stated d p ∷ rs) = ap suc (as_long rs)
as_long (Headed h ∷ rs) = as_long rs
as_long (Held m ∷ rs) = as_long rs

pub bounded_made : (most : ℕ) (l : List Edit) (parts : Parts) → IsGood most l → Makes most l parts → IsBounded parts
bounded_made most l parts good m =
    subst IsBounded (sym (parts_same most l parts good m)) (record {
      entries = few_entries most l good;
      proofs = as_long (table_of l);
      short = λ k c e. short_at (table_of l) k c (short_rows most l good) e;
      trees = sound_made most l good;
    })
