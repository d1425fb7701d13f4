-- The table of accepted edits is well made.
use Rattle.std.proofs.Common.{◌≡◌, ℕ, Bool, true, false, if◌then◌else◌, List, [], ◌∷◌, find, map, Option, None, refl, sym, ap, ◌∙◌, subst, true≢false}
use Rattle.std.specs.Prelude.{bytes_eq, is_some}
use Rattle.rw_terms.specs.declared.scope.Entry.{Entry}
use Rattle.rw_terms.specs.declared.scope.Head.{Head}
use Rattle.rw_terms.specs.declared.term.Sort.{Sort}
use Rattle.rw_terms.specs.declared.term.Sort.TheVariants.{Int, Array}
use Rattle.rw_terms.specs.declared.term.Formula.{Formula}
use Rattle.rw_terms.specs.Sorts.{variable_sort, constant_sort}
use Rattle.rw_terms.specs.Formed.{is_head, same_sort}
use Rattle.rw_terms.specs.Rules.{applies, keeps_rules}
use Rattle.rw_terms.specs.Validity.{Each}
use Rattle.rw_faults.specs.Faults.{predicate_unknown_in}
use Rattle.std.proofs.lemmas.Bool.{eqb-true, and_parts, or_parts}
use Rattle.rw_goals.specs.declared.library.Definition as definitions
use Rattle.rw_goals.specs.declared.library.Lemma as lemmas
use Rattle.rw_goals.specs.declared.library.Item.{Item}
use Rattle.rw_goals.specs.declared.library.Item.TheVariants.{Definition, Lemma}
use Rattle.rw_citations.specs.Goal.{scope_of_parameters}
use Rattle.rw_citations.specs.WellMade.{WellMade}
use Rattle.rw_library.specs.Entries.{entry_name, is_entry, has_entry, has_lemma, has_definition, before_entry, put_entry, without_entry, sorts_of, head_of, heads_of}
use Rattle.rw_library.specs.Naming.{item_names}
use Rattle.rw_meaning.proofs.Tests.{same_bytes}
use Rattle.rw_nodes.specs.declared.edit.Edit.{Edit}
use Rattle.rw_nodes.specs.declared.edit.Edit.TheVariants as edit
use Rattle.rw_nodes.specs.Table.{table_of, entry_in, entries_of}
use Rattle.rw_nodes.specs.Parts.{parts_of}
use Rattle.rw_nodes.proofs.Tabled.{put_entries, prove_entries, without_entries, without_none}
use Rattle.rw_refusals.specs.declared.refusal.EditRefusal.{EditRefusal}
use Rattle.rw_tree.specs.Users.{user_in}
use Rattle.rw_tree.specs.Accepting.{full}
use Rattle.rw_library.specs.Parameters.{same_sorts, keeps_sorts}
use Rattle.rw_refusals.specs.Entering.{heads_with, define_refusal, order_refusal}
use Rattle.rw_tree.specs.Used.{in_use, sorts_refusal, drop_refusal}
use Rattle.rw_tree.specs.Accepting.{IsGood, Accepts}
use Rattle.rw_anew.specs.Anew.{library_of}
use Rattle.rw_tree.proofs.Same.{first_told}
use Rattle.rw_collect.proofs.Agreeing.{Others, take_heads, keeps_otherwise, known_opens}
use Rattle.rw_collect.proofs.Served.{heads_in, Serves, same_serve, never_asked, serves_keep, IsKept, AreKept, IsUnused, Fitting, put_serves, without_serves, put_kept, without_kept}
use Rattle.rw_collect.proofs.Bridged.{Differ, put_differ, without_differ, well_made}
use Rattle.rw_collect.proofs.Told.{DefineTold, define_told, order_told, LemmaTold, lemma_told, use_told, user_told}

-- the heads before a definition are found among those with it
before_found : (es : List Item) (d : definitions.Definition) (q : List ℕ) → is_some (find (is_head q) (heads_of (before_entry es d.name))) ≡ true → find (is_head q) (heads_of (before_entry es d.name)) ≡ find (is_head q) (heads_with d es)
before_found [] d q k = absurd (true≢false (sym k))
before_found (Lemma l ∷ es) d q k = go (bytes_eq l.name d.name) k (before_found es d q)
  where
    go : (b : Bool) → is_some (find (is_head q) (heads_of (if b then [] else Lemma l ∷ before_entry es d.name))) ≡ true →
        (is_some (find (is_head q) (heads_of (before_entry es d.name))) ≡ true → find (is_head q) (heads_of (before_entry es d.name)) ≡ find (is_head q) (heads_with d es)) →
        find (is_head q) (heads_of (if b then [] else Lemma l ∷ before_entry es d.name)) ≡ find (is_head q) (heads_with d es)
    go true k rest = absurd (true≢false (sym k))
    go false k rest = rest k
before_found (Definition e ∷ es) d q k = go (bytes_eq e.name d.name) k (before_found es d q)
  where
    same : (c : Bool) → is_head q (head_of e) ≡ c → is_some (find (is_head q) (head_of e ∷ heads_of (before_entry es d.name))) ≡ true →
        (is_some (find (is_head q) (heads_of (before_entry es d.name))) ≡ true → find (is_head q) (heads_of (before_entry es d.name)) ≡ find (is_head q) (heads_with d es)) →
        find (is_head q) (head_of e ∷ heads_of (before_entry es d.name)) ≡ find (is_head q) (head_of e ∷ heads_with d es)
    same true is k rest = rw is refl
    same false is k rest = rw is (rest (sym (rw is refl) ∙ k))

    go : (b : Bool) → is_some (find (is_head q) (heads_of (if b then [] else Definition e ∷ before_entry es d.name))) ≡ true →
        (is_some (find (is_head q) (heads_of (before_entry es d.name))) ≡ true → find (is_head q) (heads_of (before_entry es d.name)) ≡ find (is_head q) (heads_with d es)) →
        find (is_head q) (heads_of (if b then [] else Definition e ∷ before_entry es d.name)) ≡ find (is_head q) ((if b then head_of d else head_of e) ∷ heads_with d es)
    go true k rest = absurd (true≢false (sym k))
    go false k rest = same (is_head q (head_of e)) refl k rest

head_there : (o p : Option Head) (sorts : List (Option Sort)) → o ≡ p → applies p sorts ≡ true → applies o sorts ≡ true
head_there o p sorts same e = ap (λ h. applies h sorts) same ∙ e

-- the body of an accepted definition keeps the rules by the definitions before it
body_kept : (es : List Item) (d : definitions.Definition) → DefineTold es d → order_refusal es d ≡ None → keeps_rules (scope_of_parameters d.params) (heads_of (before_entry es d.name)) d.body [] ≡ true
body_kept es d told order =
    keeps_otherwise scope scope (heads_with d es) before false [] (λ q. is_some (find (is_head q) before) ≡ true) others (λ f. predicate_unknown_in before f ≡ None) (known_opens before) d.body (never_asked _) (order_told es d order) told.kept
  where
    before : List Head
    before = heads_of (before_entry es d.name)

    scope : List Entry
    scope = scope_of_parameters d.params

    others : Others scope (heads_with d es) (variable_sort scope) (constant_sort scope) (take_heads scope before) false [] (λ q. is_some (find (is_head q) before) ≡ true)
    others = record {
      variables = λ y m k. refl;
      constants = λ y m k. refl;
      predicates = λ q sorts known h. head_there (find (is_head q) before) (find (is_head q) (heads_with d es)) sorts (before_found es d q known) h;
    }

sort_same : (s t : Sort) → same_sort s t ≡ true → s ≡ t
sort_same Int Int e = refl
sort_same (Array m) (Array n) e = ap Array (eqb-true m n e)
sort_same Int (Array n) e = absurd (true≢false (sym e))
sort_same (Array m) Int e = absurd (true≢false (sym e))

sorts_same : (ss ts : List Sort) → same_sorts ss ts ≡ true → ss ≡ ts
sorts_same [] [] e = refl
sorts_same [] (t ∷ ts) e = absurd (true≢false (sym e))
sorts_same (s ∷ ss) [] e = absurd (true≢false (sym e))
sorts_same (s ∷ ss) (t ∷ ts) e = let p = and_parts (same_sort s t) (same_sorts ss ts) e in λ i. sort_same s t p.0 i ∷ sorts_same ss ts p.1 i

-- of entries without the name anything may be said where they have it
none_named : (x : List ℕ) (n : Item) (es : List Item) → has_entry x es ≡ false → Each (λ e. is_entry x e ≡ true → heads_in e ≡ heads_in n) es
none_named x n [] none = tt
none_named x n (e ∷ es) none = let p = or_parts (is_entry x e) (has_entry x es) none in (λ is. absurd (true≢false (sym is ∙ p.0)), none_named x n es p.1)

-- a definition that keeps its sorts gives the same head
fits_again : (d : definitions.Definition) (es : List Item) → has_lemma d.name es ≡ false → Differ es → keeps_sorts d es ≡ true → Each (λ e. is_entry d.name e ≡ true → heads_in e ≡ heads_in (Definition d)) es
fits_again d [] none differ keeps = tt
fits_again d (Lemma l ∷ es) none differ keeps =
    let p = or_parts (bytes_eq l.name d.name) (has_lemma d.name es) none in (λ is. absurd (true≢false (sym is ∙ p.0)), fits_again d es p.1 differ.1 keeps)
fits_again d (Definition e ∷ es) none differ keeps = go (bytes_eq e.name d.name) refl keeps (fits_again d es none differ.1)
  where
    same_head : bytes_eq e.name d.name ≡ true → same_sorts (sorts_of e.params) (sorts_of d.params) ≡ true → heads_in (Definition e) ≡ heads_in (Definition d)
    same_head is same = let names = same_bytes e.name d.name is in let sorts = sorts_same (sorts_of e.params) (sorts_of d.params) same in λ i. record { name = names i; sorts = sorts i } ∷ []

    go : (b : Bool) → bytes_eq e.name d.name ≡ b → (if b then same_sorts (sorts_of e.params) (sorts_of d.params) else keeps_sorts d es) ≡ true →
        (keeps_sorts d es ≡ true → Each (λ e. is_entry d.name e ≡ true → heads_in e ≡ heads_in (Definition d)) es) →
        Each (λ e. is_entry d.name e ≡ true → heads_in e ≡ heads_in (Definition d)) (Definition e ∷ es)
    go true is keeps rest = (λ it. same_head is keeps, none_named d.name (Definition d) es (subst (λ x. has_entry x es ≡ false) (same_bytes e.name d.name is) differ.0))
    go false is keeps rest = (λ it. absurd (true≢false (sym it ∙ is)), rest keeps)

-- a lemma that is set again gives no head
pub lemma_again : (l : lemmas.Lemma) (es : List Item) → has_definition l.name es ≡ false → Each (λ e. is_entry l.name e ≡ true → heads_in e ≡ heads_in (Lemma l)) es
lemma_again l [] none = tt
lemma_again l (Lemma m ∷ es) none = (λ is. refl, lemma_again l es none)
lemma_again l (Definition d ∷ es) none = let p = or_parts (bytes_eq d.name l.name) (has_definition l.name es) none in (λ is. absurd (true≢false (sym is ∙ p.0)), lemma_again l es p.1)

-- how a definition is set: with the same head, or where nothing uses it
pub record Mode (most : ℕ) (l : List Edit) (d : definitions.Definition) : Type 0 where
  pub asked : Bool
  pub fitting : Fitting asked (Definition d) (entries_of l)
  pub unused : asked ≡ true → user_in d.name (parts_of most l) ≡ None

sorts_told : (b : Bool) (o : Option EditRefusal) → (if b then None else o) ≡ None → b ≡ false → o ≡ None
sorts_told true o e is = absurd (true≢false is)
sorts_told false o e is = e

define_mode : (most : ℕ) (l : List Edit) (d : definitions.Definition) → Differ (entries_of l) → has_lemma d.name (entries_of l) ≡ false → sorts_refusal (parts_of most l) d ≡ None → Mode most l d
define_mode most l d differ none e = go (keeps_sorts d (entries_of l)) refl
  where
    go : (b : Bool) → keeps_sorts d (entries_of l) ≡ b → Mode most l d
    go true is = record { asked = false; fitting = λ off. fits_again d (entries_of l) none differ is; unused = λ on. absurd (true≢false (sym on)) }
    go false is = record {
      asked = true;
      fitting = λ off. absurd (true≢false off);
      unused = λ on. use_told d.name (user_in d.name (parts_of most l)) (sorts_told (keeps_sorts d (entries_of l)) (in_use d.name (user_in d.name (parts_of most l))) e is);
    }

-- what the tests of a definition tell
pub record Defined (most : ℕ) (l : List Edit) (d : definitions.Definition) : Type 0 where
  pub told : DefineTold (entries_of l) d
  pub order : order_refusal (entries_of l) d ≡ None
  pub mode : Mode most l d

pub defined : (most : ℕ) (l : List Edit) (d : definitions.Definition) → Differ (entries_of l) → Accepts most l (edit.Define d) → Defined most l d
defined most l d differ e =
    let first = first_told (define_refusal (entries_of l) d) _ e in
    let second = first_told (full (parts_of most (edit.Define d ∷ l))) _ first.1 in
    let third = first_told (order_refusal (entries_of l) d) (sorts_refusal (parts_of most l) d) second.1 in
    let told = define_told (entries_of l) d first.0 in record { told = told; order = third.0; mode = define_mode most l d differ told.no_lemma third.1 }

each_unused : (asked : Bool) (x : List ℕ) (es : List Item) → (asked ≡ true → Each (λ e. item_names x e ≡ false) es) → Each (IsUnused asked x) es
each_unused true x es unused = all es (unused refl)
  where
    all : (es : List Item) → Each (λ e. item_names x e ≡ false) es → Each (IsUnused true x) es
    all [] h = tt
    all (e ∷ es) h = (λ on. h.0, all es h.1)
each_unused false x es unused = all es
  where
    all : (es : List Item) → Each (IsUnused false x) es
    all [] = tt
    all (e ∷ es) = (never_asked (item_names x e), all es)

pub unused_entries : (most : ℕ) (l : List Edit) (asked : Bool) (x : List ℕ) → (asked ≡ true → user_in x (parts_of most l) ≡ None) → Each (IsUnused asked x) (entries_of l)
unused_entries most l asked x unused = each_unused asked x (entries_of l) (λ on. (user_told x (parts_of most l) (unused on)).0)

-- whose entries differ, and whose formulas keep the rules
pub record IsTable (es : List Item) : Type 0 where
  pub differ : Differ es
  pub kept : AreKept (heads_of es) [] es

set_table : (asked : Bool) (n : Item) (es : List Item) → IsTable es → Fitting asked n es → Each (IsUnused asked (entry_name n)) es → IsKept (heads_of (put_entry es n)) (heads_of (before_entry es (entry_name n))) n → IsTable (put_entry es n)
set_table asked n es table fit unused own = record {
  differ = put_differ n es table.differ;
  kept = put_kept asked n (heads_of es) (heads_of (put_entry es n)) [] (put_serves asked n es fit) es fit unused own table.kept;
}

each_later : (scope : List Entry) (x : List ℕ) (hs more : List Head) → Serves false x hs more → (fs : List Formula) → Each (λ f. keeps_rules scope hs f [] ≡ true) fs → Each (λ f. keeps_rules scope more f [] ≡ true) fs
each_later scope x hs more serves [] e = tt
each_later scope x hs more serves (f ∷ fs) e = (serves_keep scope false x hs more serves f (never_asked _) e.0, each_later scope x hs more serves fs e.1)

lemma_table : (l : lemmas.Lemma) (es : List Item) → IsTable es → LemmaTold es l → IsTable (put_entry es (Lemma l))
lemma_table l es table told =
    let fit : Fitting false (Lemma l) es = λ off. lemma_again l es told.no_definition in
    let serves = put_serves false (Lemma l) es fit in
    set_table false (Lemma l) es table fit (each_unused false l.name es (λ on. absurd (true≢false (sym on))))
    (each_later (scope_of_parameters l.params) l.name (heads_of es) (heads_of (put_entry es (Lemma l))) serves l.sequent.left told.left, each_later (scope_of_parameters l.params) l.name (heads_of es) (heads_of (put_entry es (Lemma l))) serves l.sequent.right told.right)

less_table : (x : List ℕ) (es : List Item) → IsTable es → Each (λ e. item_names x e ≡ false) es → IsTable (without_entry es x)
less_table x es table unused = record {
  differ = without_differ x es table.differ;
  kept = without_kept x (heads_of es) (heads_of (without_entry es x)) [] (same_serve true x (heads_of es) (heads_of (without_entry es x)) (without_serves x es)) es (each_unused true x es (λ on. unused)) table.kept;
}

-- what the tests of a drop tell: nothing uses the entry
pub drop_told : (b : Bool) (x : List ℕ) (most : ℕ) (l : List Edit) (rest : Option EditRefusal) → (if b then in_use x (user_in x (parts_of most l)) else rest) ≡ None → b ≡ true → user_in x (parts_of most l) ≡ None
drop_told true x most l rest e is = use_told x (user_in x (parts_of most l)) e
drop_told false x most l rest e is = absurd (true≢false (sym is))

dropped : (most : ℕ) (l : List Edit) (x : List ℕ) → IsTable (entries_of l) → drop_refusal (parts_of most l) x ≡ None → IsTable (entries_of (edit.Drop x ∷ l))
dropped most l x table e = go (has_entry x (entries_of l)) refl
  where
    go : (b : Bool) → has_entry x (entries_of l) ≡ b → IsTable (entries_of (edit.Drop x ∷ l))
    go true is = subst IsTable (sym (without_entries (table_of l) x)) (less_table x (entries_of l) table (user_told x (parts_of most l) (drop_told (has_entry x (entries_of l)) x most l _ e is)).0)
    go false is = subst IsTable (sym (ap (map entry_in) (without_none (table_of l) x is))) table

pub table_good : (most : ℕ) (l : List Edit) → IsGood most l → IsTable (entries_of l)
table_good most [] good = record { differ = tt; kept = tt }
table_good most (edit.Var p ∷ l) good = table_good most l good.0
table_good most (edit.Root w ∷ l) good = table_good most l good.0
table_good most (edit.Step q s ∷ l) good = table_good most l good.0
table_good most (edit.Clear q ∷ l) good = table_good most l good.0
table_good most (edit.Prove q k c ∷ l) good = table_good most l good.0
table_good most (edit.ProveLemma n c ∷ l) good = subst IsTable (sym (prove_entries (table_of l) n c)) (table_good most l good.0)
table_good most (edit.Define d ∷ l) good =
    let table = table_good most l good.0 in
    let set = defined most l d table.differ good.1 in
    subst IsTable (sym (put_entries (table_of l) (Definition d)))
    (set_table set.mode.asked (Definition d) (entries_of l) table set.mode.fitting (unused_entries most l set.mode.asked d.name set.mode.unused) (body_kept (entries_of l) d set.told set.order))
table_good most (edit.Lemma m ∷ l) good = subst IsTable (sym (put_entries (table_of l) (Lemma m))) (lemma_table m (entries_of l) (table_good most l good.0) (lemma_told (entries_of l) m good.1))
table_good most (edit.Drop x ∷ l) good = dropped most l x (table_good most l good.0) good.1

-- the library of accepted edits is well made
pub library_made : (most : ℕ) (l : List Edit) → IsGood most l → WellMade (library_of l)
library_made most l good = let table = table_good most l good in well_made (entries_of l) table.differ table.kept
