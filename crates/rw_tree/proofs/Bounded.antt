-- Good edits make tables of at most 1024 entries, with a certificate of at most 4096 lines or none for each.
use Rattle.std.proofs.Common.{◌≡◌, ◌⊎◌, ℕ, zero, suc, ◌<◌, ◌≤◌, Bool, true, false, not, ◌&&◌, if◌then◌else◌, nat_lt, nat_le, List, [], ◌∷◌, length, map, refl, sym, ap, ◌∙◌, subst, arith, Option, Some, None, inl, inr}
use Rattle.std.specs.Option.{option_and_then}
use Rattle.std.specs.List.{slice_get, list_all}
use Rattle.std.proofs.lemmas.Bool.Decides.{leb_tells}
use Rattle.rw_terms.specs.Named.{Named}
use Rattle.rw_terms.specs.Validity.{Each}
use Rattle.rw_faults.specs.Faults.{unknown_in}
use Rattle.rw_faults.specs.Limits.{is_light, is_shallow}
use Rattle.rw_citations.specs.Goal.{scope_of_parameters}
use Rattle.rw_sequents.specs.declared.line.Cert.{Cert}
use Rattle.rw_sequents.specs.Counting.{line_count}
use Rattle.rw_goals.specs.declared.library.Definition.{Definition}
use Rattle.rw_goals.specs.declared.library.Lemma.{Lemma}
use Rattle.rw_goals.specs.declared.library.Item.{Item}
use Rattle.rw_goals.specs.declared.library.Item.TheVariants as item
use Rattle.rw_library.specs.Entries.{entry_name, is_entry, has_entry, has_lemma, has_definition, heads_of, put_entry, without_entry}
use Rattle.rw_nodes.specs.declared.edit.Edit.{Edit}
use Rattle.rw_nodes.specs.declared.edit.Edit.TheVariants as edit
use Rattle.rw_nodes.specs.declared.parts.Parts.{Parts}
use Rattle.rw_nodes.specs.Table.{Row, put_row, prove_row, without_row, table_of, entry_in, proof_in, entries_of}
use Rattle.rw_nodes.specs.Parts.{Makes}
use Rattle.rw_nodes.proofs.Tabled.{put_entries, prove_entries, without_entries}
use Rattle.rw_refusals.specs.declared.refusal.EditRefusal.{EditRefusal}
use Rattle.rw_refusals.specs.declared.refusal.EditRefusal.TheVariants as refusal
use Rattle.rw_refusals.specs.declared.refusal.Which.TheVariants as which
use Rattle.rw_refusals.specs.Refusals.{unknown, ill_formed, is_ill_formed, unknown_in_cert}
use Rattle.rw_refusals.specs.Entering.{duplicate, entry_limit, heads_with, body_part, define_refusal, lemma_unknown, lemma_part, lemma_refusal, prove_refusal}
use Rattle.rw_tree.specs.Accepting.{IsGood}
use Rattle.rw_tree.specs.Mirror.{IsBounded}
use Rattle.rw_tree.proofs.Same.{first_told, parts_same}
use Rattle.rw_tree.proofs.Sound.{is_short}

-- an entry that passes no limit is there, or has room
room_told : (a b c there full : Bool) (n : ℕ) → full ≡ nat_le 1024 n →
    (if a then Some (refusal.Limit which.Weight 1024) else if b then Some (refusal.Limit which.Depth 64) else if c then Some (refusal.Limit which.Params 16) else if not there && full then Some (refusal.Limit which.Table 1024) else None) ≡ None →
    (there ≡ true) ⊎ (n < 1024)
room_told true b c there full n is e = absurd (cc)
room_told false true c there full n is e = absurd (cc)
room_told false false true there full n is e = absurd (cc)
room_told false false false true full n is e = inl refl
room_told false false false false true n is e = absurd (cc)
room_told false false false false false n is e = elim (leb_tells 1024 n) [
  | inl h ↦ absurd (let f : true ≡ false = sym h.0 ∙ sym is in cc)
  | inr h ↦ inr (omega (arith, h.1))
]

has_room : (light shallow : Bool) (params : List Named) (x : List ℕ) (es : List Item) → entry_limit light shallow params x es ≡ None → (has_entry x es ≡ true) ⊎ (length es < 1024)
has_room light shallow params x es e = room_told (not light) (not shallow) (nat_lt 16 (length params)) (has_entry x es) (nat_le 1024 (length es)) (length es) refl e

put_long : (es : List Item) (e : Item) → length (put_entry es e) ≤ suc (length es)
put_long [] e = omega arith
put_long (d ∷ es) e = go (is_entry (entry_name e) d) (put_long es e)
  where
    go : (b : Bool) → length (put_entry es e) ≤ suc (length es) → length (if b then e ∷ es else d ∷ put_entry es e) ≤ suc (suc (length es))
    go true rest = omega arith
    go false rest = omega (arith, rest)

put_same : (es : List Item) (e : Item) → has_entry (entry_name e) es ≡ true → length (put_entry es e) ≡ length es
put_same [] e h = absurd (let f : false ≡ true = h in cc)
put_same (d ∷ es) e h = go (is_entry (entry_name e) d) refl (put_same es e)
  where
    go : (b : Bool) → is_entry (entry_name e) d ≡ b → (has_entry (entry_name e) es ≡ true → length (put_entry es e) ≡ length es) → length (put_entry (d ∷ es) e) ≡ suc (length es)
    go true is rest = rw is refl
    go false is rest = let later = rest (sym (rw is refl) ∙ h) in rw is (ap suc later)

put_few : (es : List Item) (e : Item) → length es ≤ 1024 → (has_entry (entry_name e) es ≡ true) ⊎ (length es < 1024) → length (put_entry es e) ≤ 1024
put_few es e few room = elim room [
  | inl there ↦ let same : length (put_entry es e) ≡ length es = put_same es e there in omega (arith, same, few)
  | inr less ↦ let long : length (put_entry es e) ≤ suc (length es) = put_long es e in omega (arith, long, less)
]

without_few : (es : List Item) (x : List ℕ) → length (without_entry es x) ≤ length es
without_few [] x = omega arith
without_few (e ∷ es) x = go (is_entry x e) (without_few es x)
  where
    go : (b : Bool) → length (without_entry es x) ≤ length es → length (if b then es else e ∷ without_entry es x) ≤ suc (length es)
    go true rest = omega arith
    go false rest = omega (arith, rest)

-- the limits are among the tests of a definition and of a lemma
define_room : (es : List Item) (d : Definition) → define_refusal es d ≡ None → (has_entry d.name es ≡ true) ⊎ (length es < 1024)
unfolding define_refusal
define_room es d e =
    let one = first_told (unknown (unknown_in (scope_of_parameters d.params) (heads_with d es) d.body)) _ e in
    let two = first_told (duplicate (has_lemma d.name es) d.name d.params) _ one.1 in
    let three = first_told (ill_formed (body_part (is_ill_formed (scope_of_parameters d.params) (heads_with d es) [] d.body))) _ two.1 in
    has_room (is_light d.body) (is_shallow d.body) d.params d.name es three.1

lemma_room : (es : List Item) (l : Lemma) → lemma_refusal es l ≡ None → (has_entry l.name es ≡ true) ⊎ (length es < 1024)
unfolding lemma_refusal
lemma_room es l e =
    let one = first_told (unknown (lemma_unknown (heads_of es) l)) _ e in
    let two = first_told (duplicate (has_definition l.name es) l.name l.params) _ one.1 in
    let three = first_told (ill_formed (lemma_part (heads_of es) l)) _ two.1 in
    has_room (list_all is_light l.sequent.left && list_all is_light l.sequent.right) (list_all is_shallow l.sequent.left && list_all is_shallow l.sequent.right) l.params l.name es three.1

few_entries : (most : ℕ) (l : List Edit) → IsGood most l → length (entries_of l) ≤ 1024
few_entries most [] good = omega arith
few_entries most (edit.Var x ∷ l) good = few_entries most l good.0
few_entries most (edit.Root w ∷ l) good = few_entries most l good.0
few_entries most (edit.Step q s ∷ l) good = few_entries most l good.0
few_entries most (edit.Clear q ∷ l) good = few_entries most l good.0
few_entries most (edit.Prove q k c ∷ l) good = few_entries most l good.0
few_entries most (edit.ProveLemma x c ∷ l) good = subst (λ es. length es ≤ 1024) (sym (prove_entries (table_of l) x c)) (few_entries most l good.0)
few_entries most (edit.Define d ∷ l) good =
    subst (λ es. length es ≤ 1024) (sym (put_entries (table_of l) (item.Definition d)))
    (put_few (entries_of l) (item.Definition d) (few_entries most l good.0) (define_room (entries_of l) d (first_told (define_refusal (entries_of l) d) _ good.1).0))
few_entries most (edit.Lemma m ∷ l) good =
    subst (λ es. length es ≤ 1024) (sym (put_entries (table_of l) (item.Lemma m)))
    (put_few (entries_of l) (item.Lemma m) (few_entries most l good.0) (lemma_room (entries_of l) m good.1))
few_entries most (edit.Drop x ∷ l) good =
    subst (λ es. length es ≤ 1024) (sym (without_entries (table_of l) x))
    (let less : length (without_entry (entries_of l) x) ≤ length (entries_of l) = without_few (entries_of l) x in let few : length (entries_of l) ≤ 1024 = few_entries most l good.0 in omega (arith, less, few))

-- the certificate of an entry is short
abbrev ShortRow : Row → Type 0
ShortRow r = (c : Cert) → r.proof ≡ Some c → line_count c.lines ≤ 4096

put_short : (rs : List Row) (e : Item) → Each ShortRow rs → Each ShortRow (put_row rs e)
put_short [] e h = (λ c is. absurd (cc), tt)
put_short (r ∷ rs) e h = go (is_entry (entry_name e) r.entry) (put_short rs e h.1)
  where
    go : (b : Bool) → Each ShortRow (put_row rs e) → Each ShortRow (if b then record { entry = e; proof = r.proof } ∷ rs else r ∷ put_row rs e)
    go true rest = (h.0, h.1)
    go false rest = (h.0, rest)

prove_short : (rs : List Row) (x : List ℕ) (c : Cert) → line_count c.lines ≤ 4096 → Each ShortRow rs → Each ShortRow (prove_row rs x c)
prove_short [] x c short h = tt
prove_short (r ∷ rs) x c short h = go (is_entry x r.entry) (prove_short rs x c short h.1)
  where
    go : (b : Bool) → Each ShortRow (prove_row rs x c) → Each ShortRow (if b then record { entry = r.entry; proof = Some c } ∷ rs else r ∷ prove_row rs x c)
    go true rest = (λ d is. let same : c ≡ d = cc in subst (λ d. line_count d.lines ≤ 4096) same short, h.1)
    go false rest = (h.0, rest)

without_short : (rs : List Row) (x : List ℕ) → Each ShortRow rs → Each ShortRow (without_row rs x)
without_short [] x h = tt
without_short (r ∷ rs) x h = go (is_entry x r.entry) (without_short rs x h.1)
  where
    go : (b : Bool) → Each ShortRow (without_row rs x) → Each ShortRow (if b then rs else r ∷ without_row rs x)
    go true rest = h.1
    go false rest = (h.0, rest)

-- an accepted certificate of a lemma is short, and there is such a lemma
pub prove_told : (b : Bool) (x : List ℕ) (o : Option EditRefusal) → (if b then o else Some (refusal.Unknown x)) ≡ None → (b ≡ true) × (o ≡ None)
prove_told true x o e = (refl, e)
prove_told false x o e = absurd (cc)

short_rows : (most : ℕ) (l : List Edit) → IsGood most l → Each ShortRow (table_of l)
short_rows most [] good = tt
short_rows most (edit.Var x ∷ l) good = short_rows most l good.0
short_rows most (edit.Root w ∷ l) good = short_rows most l good.0
short_rows most (edit.Step q s ∷ l) good = short_rows most l good.0
short_rows most (edit.Clear q ∷ l) good = short_rows most l good.0
short_rows most (edit.Prove q k c ∷ l) good = short_rows most l good.0
short_rows most (edit.ProveLemma x c ∷ l) good =
    prove_short (table_of l) x c (is_short c (first_told (unknown (unknown_in_cert (entries_of l) c)) _ (prove_told (has_lemma x (entries_of l)) x _ good.1).1).1) (short_rows most l good.0)
short_rows most (edit.Define d ∷ l) good = put_short (table_of l) (item.Definition d) (short_rows most l good.0)
short_rows most (edit.Lemma m ∷ l) good = put_short (table_of l) (item.Lemma m) (short_rows most l good.0)
short_rows most (edit.Drop x ∷ l) good = without_short (table_of l) x (short_rows most l good.0)

short_at : (rs : List Row) (k : ℕ) (c : Cert) → Each ShortRow rs → option_and_then (λ o. o) (slice_get (map proof_in rs) k) ≡ Some c → line_count c.lines ≤ 4096
short_at [] k c h e = absurd (cc)
short_at (r ∷ rs) zero c h e = h.0 c e
short_at (r ∷ rs) (suc k) c h e = short_at rs k c h.1 e

as_long : (rs : List Row) → length (map proof_in rs) ≡ length (map entry_in rs)
as_long [] = refl
as_long (r ∷ rs) = ap suc (as_long rs)

pub bounded_made : (most : ℕ) (l : List Edit) (parts : Parts) → IsGood most l → Makes most l parts → IsBounded parts
bounded_made most l parts good m =
    subst IsBounded (sym (parts_same most l parts good m)) (record {
      entries = few_entries most l good;
      proofs = as_long (table_of l);
      short = λ k c e. short_at (table_of l) k c (short_rows most l good) e;
    })

-- a lemma that is there is an entry
lemma_entry : (x : List ℕ) (es : List Item) → has_lemma x es ≡ true → has_entry x es ≡ true
lemma_entry x [] h = h
lemma_entry x (item.Definition d ∷ es) h = go (is_entry x (item.Definition d)) refl (lemma_entry x es h)
  where
    go : (b : Bool) → is_entry x (item.Definition d) ≡ b → has_entry x es ≡ true → has_entry x (item.Definition d ∷ es) ≡ true
    go true is rest = rw is refl
    go false is rest = rw is rest
lemma_entry x (item.Lemma m ∷ es) h = go (is_entry x (item.Lemma m)) refl (lemma_entry x es)
  where
    go : (b : Bool) → is_entry x (item.Lemma m) ≡ b → (has_lemma x es ≡ true → has_entry x es ≡ true) → has_entry x (item.Lemma m ∷ es) ≡ true
    go true is rest = rw is refl
    go false is rest = rw is (rest (sym (rw is refl) ∙ h))

pub proved_entry : (es : List Item) (x : List ℕ) (c : Cert) → prove_refusal es x c ≡ None → has_entry x es ≡ true
proved_entry es x c e = lemma_entry x es (prove_told (has_lemma x es) x _ e).0
