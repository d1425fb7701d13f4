-- A table whose entries have different names, and whose formulas keep the rules of sorts, is well made.
use Rattle.std.proofs.Common.{◌≡◌, ℕ, Bool, true, false, if◌then◌else◌, List, [], ◌∷◌, ◌++◌, find, Option, None, refl, sym, ap, ◌∙◌, subst, true≢false}
use Rattle.std.proofs.lemmas.Bool.{or_parts, or_from}
use Rattle.std.specs.Prelude.{bytes_eq, is_some}
use Rattle.rw_terms.specs.declared.term.Sort.{Sort}
use Rattle.rw_terms.specs.declared.term.Formula.{Formula}
use Rattle.rw_terms.specs.Named.{Named}
use Rattle.rw_terms.specs.Sorts.{variable_sort, constant_sort}
use Rattle.rw_terms.specs.Formed.{is_head}
use Rattle.rw_terms.specs.Rules.{applies, keeps_rules}
use Rattle.rw_terms.specs.Validity.{Each}
use Rattle.rw_goals.specs.declared.library.Item.{Item}
use Rattle.rw_goals.specs.declared.library.Item.TheVariants.{Definition, Lemma}
use Rattle.rw_goals.specs.Library.{if_so, or_else, parameters_of}
use Rattle.rw_goals.specs.Sorting as goals
use Rattle.rw_citations.specs.Goal.{scope_of_parameters}
use Rattle.rw_citations.specs.WellMade.{IsMade, AreMade}
use Rattle.rw_library.specs.Entries.{entry_name, is_entry, has_entry, put_entry, without_entry, heads_of}
use Rattle.rw_meaning.proofs.Tests.{same_bytes, other_bytes}
use Rattle.rw_collect.proofs.Agreeing.{Others, take_entries, keeps_by_names, Any, All, any_opens}
use Rattle.rw_collect.proofs.Served.{IsKept, AreKept, heads_last}

-- the sort of a parameter
parameter_sort : (params : List Named) (x : List ℕ) → goals.name_sort params x ≡ variable_sort (scope_of_parameters params) x
parameter_sort [] x = refl
parameter_sort (p ∷ params) x = go (bytes_eq p.0 x) refl (parameter_sort params x)
  where
    go : (b : Bool) → bytes_eq p.0 x ≡ b → goals.name_sort params x ≡ variable_sort (scope_of_parameters params) x → goals.name_sort (p ∷ params) x ≡ variable_sort (scope_of_parameters (p ∷ params)) x
    go true is rest = rw is refl
    go false is rest = rw is rest

-- no parameter is a constant
no_constant : (params : List Named) (x : List ℕ) → constant_sort (scope_of_parameters params) x ≡ None
no_constant [] x = refl
no_constant (p ∷ params) x = go (bytes_eq p.0 x) refl (no_constant params x)
  where
    go : (b : Bool) → bytes_eq p.0 x ≡ b → constant_sort (scope_of_parameters params) x ≡ None → constant_sort (scope_of_parameters (p ∷ params)) x ≡ None
    go true is rest = rw is refl
    go false is rest = rw is rest

-- the heads take what the entries take
takes_same : (es : List Item) (q : List ℕ) (sorts : List (Option Sort)) → goals.takes (parameters_of es q) sorts ≡ applies (find (is_head q) (heads_of es)) sorts
takes_same [] q sorts = refl
takes_same (Lemma l ∷ es) q sorts = takes_same es q sorts
takes_same (Definition d ∷ es) q sorts = go (bytes_eq d.name q) refl (takes_same es q sorts)
  where
    go : (b : Bool) → bytes_eq d.name q ≡ b → goals.takes (parameters_of es q) sorts ≡ applies (find (is_head q) (heads_of es)) sorts →
        goals.takes (parameters_of (Definition d ∷ es) q) sorts ≡ applies (find (is_head q) (heads_of (Definition d ∷ es))) sorts
    go true is rest = rw is refl
    go false is rest = rw is rest

-- a formula over parameters that keeps the rules keeps them as goals do
pub bridged : (params : List Named) (es : List Item) (f : Formula) → keeps_rules (scope_of_parameters params) (heads_of es) f [] ≡ true → goals.keeps_rules params es f [] ≡ true
bridged params es f e = keeps_by_names (scope_of_parameters params) (heads_of es) params es false [] All others Any any_opens f (λ on. absurd (true≢false (sym on))) tt e
  where
    others : Others (scope_of_parameters params) (heads_of es) (goals.name_sort params) (goals.name_sort params) (take_entries params es) false [] All
    others = record {
      variables = λ y n k. parameter_sort params y;
      constants = λ y n k. absurd (true≢false (sym k ∙ ap is_some (no_constant params y)));
      predicates = λ q sorts n h. takes_same es q sorts ∙ h;
    }

-- no two entries have one name
abbrev pub Differ : List Item → Type 0
Differ [] = Unit {0}
Differ (e ∷ es) = (has_entry (entry_name e) es ≡ false) × Differ es

-- an entry that is set is of its own name
put_none : (n : Item) (y : List ℕ) → bytes_eq (entry_name n) y ≡ false → (es : List Item) → has_entry y es ≡ false → has_entry y (put_entry es n) ≡ false
put_none n y other [] e = or_from (bytes_eq (entry_name n) y) false other refl
put_none n y other (d ∷ es) e = go (is_entry (entry_name n) d) (put_none n y other es (or_parts (is_entry y d) (has_entry y es) e).1)
  where
    go : (b : Bool) → has_entry y (put_entry es n) ≡ false → has_entry y (if b then n ∷ es else d ∷ put_entry es n) ≡ false
    go true rest = or_from (bytes_eq (entry_name n) y) (has_entry y es) other (or_parts (is_entry y d) (has_entry y es) e).1
    go false rest = or_from (is_entry y d) (has_entry y (put_entry es n)) (or_parts (is_entry y d) (has_entry y es) e).0 rest

pub put_differ : (n : Item) (es : List Item) → Differ es → Differ (put_entry es n)
put_differ n [] e = (refl, tt)
put_differ n (d ∷ es) e = go (is_entry (entry_name n) d) refl (put_differ n es e.1)
  where
    go : (b : Bool) → is_entry (entry_name n) d ≡ b → Differ (put_entry es n) → Differ (if b then n ∷ es else d ∷ put_entry es n)
    go true is rest = (subst (λ x. has_entry x es ≡ false) (same_bytes (entry_name d) (entry_name n) is) e.0, e.1)
    go false is rest = (put_none n (entry_name d) (other_bytes (entry_name d) (entry_name n) is) es e.0, rest)

without_none : (x y : List ℕ) (es : List Item) → has_entry y es ≡ false → has_entry y (without_entry es x) ≡ false
without_none x y [] e = refl
without_none x y (d ∷ es) e = go (is_entry x d) (without_none x y es (or_parts (is_entry y d) (has_entry y es) e).1)
  where
    go : (b : Bool) → has_entry y (without_entry es x) ≡ false → has_entry y (if b then es else d ∷ without_entry es x) ≡ false
    go true rest = (or_parts (is_entry y d) (has_entry y es) e).1
    go false rest = or_from (is_entry y d) (has_entry y (without_entry es x)) (or_parts (is_entry y d) (has_entry y es) e).0 rest

pub without_differ : (x : List ℕ) (es : List Item) → Differ es → Differ (without_entry es x)
without_differ x [] e = tt
without_differ x (d ∷ es) e = go (is_entry x d) (without_differ x es e.1)
  where
    go : (b : Bool) → Differ (without_entry es x) → Differ (if b then es else d ∷ without_entry es x)
    go true rest = e.1
    go false rest = (without_none x (entry_name d) es e.0, rest)

-- a predicate that no entry has the name of is not defined
not_defined : (es : List Item) (p : List ℕ) → has_entry p es ≡ false → parameters_of es p ≡ None
not_defined [] p e = refl
not_defined (Lemma l ∷ es) p e = not_defined es p (or_parts (bytes_eq l.name p) (has_entry p es) e).1
not_defined (Definition d ∷ es) p e =
    let parts = or_parts (bytes_eq d.name p) (has_entry p es) e in ap (λ b. or_else (if_so b d.params) (parameters_of es p)) parts.0 ∙ not_defined es p parts.1

-- none of some entries has the name of one before them
abbrev AreNew : List Item → List Item → Type 0
AreNew before es = Each (λ e. has_entry (entry_name e) before ≡ false) es

last_none : (x : List ℕ) (before : List Item) (e : Item) → has_entry x before ≡ false → is_entry x e ≡ false → has_entry x (before ++ e ∷ []) ≡ false
last_none x [] e h is = or_from (is_entry x e) false is refl
last_none x (d ∷ before) e h is = let parts = or_parts (is_entry x d) (has_entry x before) h in or_from (is_entry x d) (has_entry x (before ++ e ∷ [])) parts.0 (last_none x before e parts.1 is)

new_behind : (before : List Item) (e : Item) (es : List Item) → has_entry (entry_name e) es ≡ false → AreNew before es → AreNew (before ++ e ∷ []) es
new_behind before e [] other new = tt
new_behind before e (d ∷ es) other new =
    let parts = or_parts (is_entry (entry_name e) d) (has_entry (entry_name e) es) other in
    (last_none (entry_name d) before e new.0 (other_bytes (entry_name d) (entry_name e) parts.0), new_behind before e es parts.1 new.1)

module _ (all : List Item) where
  each_made : (params : List Named) (fs : List Formula) → Each (λ f. keeps_rules (scope_of_parameters params) (heads_of all) f [] ≡ true) fs → Each (λ f. goals.keeps_rules params all f [] ≡ true) fs
  each_made params [] e = tt
  each_made params (f ∷ fs) e = (bridged params all f e.0, each_made params fs e.1)

  item_made : (before : List Item) (e : Item) → has_entry (entry_name e) before ≡ false → IsKept (heads_of all) (heads_of before) e → IsMade all before e
  item_made before (Definition d) new kept = (not_defined before d.name new, bridged d.params before d.body kept)
  item_made before (Lemma l) new kept = (each_made l.params l.sequent.left kept.0, each_made l.params l.sequent.right kept.1)

  all_made : (before es : List Item) → AreNew before es → Differ es → AreKept (heads_of all) (heads_of before) es → AreMade all before es
  all_made before [] new differ kept = tt
  all_made before (e ∷ es) new differ kept =
      (item_made before e new.0 kept.0, all_made (before ++ e ∷ []) es (new_behind before e es differ.0 new.1) differ.1 (subst (λ hs. AreKept (heads_of all) hs es) (sym (heads_last before e)) kept.1))

all_new : (es : List Item) → AreNew [] es
all_new [] = tt
all_new (e ∷ es) = (refl, all_new es)

pub well_made : (es : List Item) → Differ es → AreKept (heads_of es) [] es → AreMade es [] es
well_made es differ kept = all_made es [] es (all_new es) differ kept
