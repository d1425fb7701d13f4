-- The root of accepted edits is well-formed over the globals, by the heads of the table.
use Rattle.std.proofs.Common.{◌≡◌, ℕ, Bool, true, false, not, if◌then◌else◌, ◌||◌, ◌&&◌, is_some, List, [], ◌∷◌, length, map, find, Option, Some, None, refl, sym, ap, ◌∙◌, subst, true≢false}
use Rattle.std.proofs.lemmas.Bool.{false_from_ne_true, or_parts}
use Rattle.std.specs.Prelude.{bytes_eq, nat_lt, option_and_then}
use Rattle.rw_terms.specs.declared.scope.Entry.{Entry}
use Rattle.rw_terms.specs.declared.scope.Head.{Head}
use Rattle.rw_terms.specs.declared.term.Formula.{Formula}
use Rattle.rw_terms.specs.Scopes.{has_name}
use Rattle.rw_terms.specs.Sorts.{as_variable, as_constant, variable_sort, constant_sort}
use Rattle.rw_terms.specs.Rules.{keeps_rules}
use Rattle.rw_terms.specs.Mentions.{formula_mentions}
use Rattle.rw_faults.specs.Faults.{unknown_in}
use Rattle.rw_faults.specs.Initial.{is_twice, is_listed}
use Rattle.rw_faults.specs.Limits.{is_light, is_shallow}
use Rattle.rw_programs.specs.declared.prog.Param.{Param}
use Rattle.rw_programs.specs.declared.prog.Spec.{Spec}
use Rattle.rw_programs.specs.State.{Name, is_in}
use Rattle.rw_programs.specs.Refine.{is_value}
use Rattle.rw_meaning.proofs.Tests.{same_bytes, bytes_same}
use Rattle.rw_soundness.specs.Sound.{IsReady}
use Rattle.rw_soundness.proofs.Bits.{listed_in}
use Rattle.rw_soundness.proofs.Longer.{ready_longer}
use Rattle.rw_goals.specs.declared.library.Item.TheVariants as item
use Rattle.rw_library.specs.Entries.{has_entry, put_entry, without_entry, heads_of}
use Rattle.rw_library.specs.Naming.{applies as stands}
use Rattle.rw_nodes.specs.declared.edit.Edit.{Edit}
use Rattle.rw_nodes.specs.declared.edit.Edit.TheVariants as edit
use Rattle.rw_nodes.specs.Table.{table_of, entry_in, entries_of}
use Rattle.rw_nodes.specs.Edits.{global, is_param, without_param, globals_of, root_of}
use Rattle.rw_nodes.specs.Parts.{parts_of}
use Rattle.rw_nodes.proofs.Tabled.{put_entries, prove_entries, without_entries, without_none}
use Rattle.rw_refusals.specs.declared.refusal.EditRefusal.{EditRefusal}
use Rattle.rw_refusals.specs.declared.refusal.EditRefusal.TheVariants as refusal
use Rattle.rw_refusals.specs.declared.refusal.Which.TheVariants as which
use Rattle.rw_refusals.specs.declared.refusal.Spot.TheVariants as spot
use Rattle.rw_tree.specs.Users.{root_names, user_in, root_speaks}
use Rattle.rw_nodes.specs.Edits.{place_at}
use Rattle.rw_refusals.specs.Refusals.{frame_unknown, root_unknown, is_ill_formed, ill_formed_part, past_limit, unknown, ill_formed, root_refusal}
use Rattle.rw_tree.specs.Used.{in_use, global_refusal, drop_refusal}
use Rattle.rw_tree.specs.Accepting.{IsGood}
use Rattle.rw_tree.proofs.Same.{first_told}
use Rattle.rw_collect.proofs.Bits.{first_none}
use Rattle.rw_collect.proofs.Lists.{map_append}
use Rattle.rw_collect.proofs.Agreeing.{Not, Others, take_heads, keeps_otherwise, Any, All, any_opens}
use Rattle.rw_collect.proofs.Served.{Serves, same_serve, never_asked, serves_keep, put_serves, without_serves}
use Rattle.rw_collect.proofs.Told.{known_told, formed_told, sound_part, lemma_told, use_told, user_told}
use Rattle.rw_collect.proofs.Made.{lemma_again, defined, table_good}

-- a global is a variable
param_variable : (globals : List Param) (x : Name) → is_param globals x ≡ true → is_some (variable_sort (map global globals) x) ≡ true
param_variable [] x h = absurd (true≢false (sym h))
param_variable (p ∷ globals) x h = go (bytes_eq p.name x) refl (param_variable globals x)
  where
    go : (b : Bool) → bytes_eq p.name x ≡ b → (is_param globals x ≡ true → is_some (variable_sort (map global globals) x) ≡ true) → is_some (variable_sort (map global (p ∷ globals)) x) ≡ true
    go true is rest = rw is refl
    go false is rest = rw is (rest (sym (ap (λ b. b || is_param globals x) is) ∙ h))

-- and no name of kind value
never_value : (globals : List Param) (x : Name) → is_value (map global globals) x ≡ false
never_value [] x = refl
never_value (p ∷ globals) x = go (bytes_eq p.name x) refl (never_value globals x)
  where
    go : (b : Bool) → bytes_eq p.name x ≡ b → is_value (map global globals) x ≡ false → is_value (map global (p ∷ globals)) x ≡ false
    go true is rest = rw is refl
    go false is rest = rw is rest

-- the names of a frame without an unknown one are globals
frame_known : (globals : List Param) (frame : List Name) → frame_unknown globals frame ≡ None → (x : Name) → is_in x frame ≡ true → is_param globals x ≡ true
frame_known globals [] none x i = absurd (true≢false (sym i))
frame_known globals (y ∷ frame) none x i = go (is_param globals y) refl (bytes_eq x y) refl (λ rest. frame_known globals frame rest x)
  where
    go : (b : Bool) → is_param globals y ≡ b → (c : Bool) → bytes_eq x y ≡ c → (frame_unknown globals frame ≡ None → is_in x frame ≡ true → is_param globals x ≡ true) → is_param globals x ≡ true
    go true is true e rest = ap (is_param globals) (same_bytes x y e) ∙ is
    go true is false e rest = rest (sym (ap (λ b. if b then frame_unknown globals frame else Some y) is) ∙ none) (sym (ap (λ b. b || is_in x frame) e) ∙ i)
    go false is c e rest = let clash : Some y ≡ None = sym (ap (λ b. if b then frame_unknown globals frame else Some y) is) ∙ none in absurd (cc)

-- no part is ill-formed
parts_told : (twice pre post : Bool) (one two three : ℕ) → (if twice then Some one else if pre then Some two else if post then Some three else None) ≡ None → (twice ≡ false) × (pre ≡ false) × (post ≡ false)
parts_told true pre post one two three e = absurd (cc)
parts_told false true post one two three e = absurd (cc)
parts_told false false true one two three e = absurd (cc)
parts_told false false false one two three e = (refl, refl, refl)

-- no limit is passed
limits_told : (a b c d : Bool) (rest : Option EditRefusal) → (if not a || not b then Some (refusal.Limit which.Weight 1024) else if not c || not d then Some (refusal.Limit which.Depth 64) else rest) ≡ None → ((a && c) ≡ true) × ((b && d) ≡ true)
limits_told false b c d rest e = absurd (cc)
limits_told true false c d rest e = absurd (cc)
limits_told true true false d rest e = absurd (cc)
limits_told true true true false rest e = absurd (cc)
limits_told true true true true rest e = (refl, refl)

-- a root that no test refuses is well-formed
root_told : (globals : List Param) (heads : List Head) (w : Spec) → root_refusal globals heads w ≡ None → IsReady (map global globals) heads w
unfolding root_refusal
root_told globals heads w e =
    let tests = first_told (unknown (root_unknown globals heads w)) _ e in
    let later = first_told (ill_formed (ill_formed_part (map global globals) heads w)) (past_limit w) tests.1 in
    let names = first_none (frame_unknown globals w.frame) _ (known_told (root_unknown globals heads w) tests.0) in
    let formulas = first_none (unknown_in (map global globals) heads w.pre) (unknown_in (map global globals) heads w.post) names.1 in
    let parts = parts_told (is_twice w.frame) (is_ill_formed (map global globals) heads [] w.pre) (is_ill_formed (map global globals) heads w.frame w.post) 0 1 2 (formed_told (ill_formed_part (map global globals) heads w) later.0) in
    let within = limits_told (is_light w.pre) (is_light w.post) (is_shallow w.pre) (is_shallow w.post) (if nat_lt 64 (length w.frame) then Some (refusal.Limit which.Globals 64) else None) later.1 in
    let pre = sound_part (map global globals) heads [] w.pre within.0 formulas.0 parts.1 in
    let post = sound_part (map global globals) heads w.frame w.post within.1 formulas.1 parts.2 in record {
      pre = pre.0;
      post = post.0;
      variables = λ x i. param_variable globals x (frame_known globals w.frame names.0 x i);
      no_values = λ x i. never_value globals x;
      differ = parts.0;
      no_initial = pre.1;
      initial = post.1;
    }

-- it stays so where heads serve it
ready_served : (scope : List Entry) (asked : Bool) (x : Name) (hs more : List Head) (w : Spec) → Serves asked x hs more → Not asked (stands x w.pre || stands x w.post) → IsReady scope hs w → IsReady scope more w
ready_served scope asked x hs more w serves unused ready = record {
  pre = (ready.pre.0, serves_keep scope asked x hs more serves w.pre (λ on. (or_parts (stands x w.pre) (stands x w.post) (unused on)).0) ready.pre.1);
  post = (ready.post.0, serves_keep scope asked x hs more serves w.post (λ on. (or_parts (stands x w.pre) (stands x w.post) (unused on)).1) ready.post.1);
  variables = ready.variables;
  no_values = ready.no_values;
  differ = ready.differ;
  no_initial = ready.no_initial;
  initial = ready.initial;
}

-- a name is found as before where another is dropped
less_found : (globals : List Param) (x y : Name) → bytes_eq x y ≡ false → find (has_name y) (map global (without_param globals x)) ≡ find (has_name y) (map global globals)
less_found [] x y other = refl
less_found (p ∷ globals) x y other = go (bytes_eq p.name x) refl (bytes_eq p.name y) refl (less_found globals x y other)
  where
    go : (b : Bool) → bytes_eq p.name x ≡ b → (c : Bool) → bytes_eq p.name y ≡ c → find (has_name y) (map global (without_param globals x)) ≡ find (has_name y) (map global globals) →
        find (has_name y) (map global (if b then globals else p ∷ without_param globals x)) ≡ find (has_name y) (map global (p ∷ globals))
    go true is true it rest = absurd (true≢false (sym (bytes_same x y (sym (same_bytes p.name x is) ∙ same_bytes p.name y it)) ∙ other))
    go true is false it rest = rw it refl
    go false is true it rest = rw it refl
    go false is false it rest = rw it rest

-- the root stays well-formed where a global is dropped of which it does not speak
ready_less : (globals : List Param) (x : Name) (heads : List Head) (w : Spec) → root_speaks x (Some w) ≡ false → IsReady (map global globals) heads w → IsReady (map global (without_param globals x)) heads w
ready_less globals x heads w silent ready = record {
  pre = (ready.pre.0, less_kept w.pre (or_parts (formula_mentions x w.pre) (formula_mentions x w.post) formulas).0 ready.pre.1);
  post = (ready.post.0, less_kept w.post (or_parts (formula_mentions x w.pre) (formula_mentions x w.post) formulas).1 ready.post.1);
  variables = λ y i. ap (λ o. is_some (option_and_then (λ (e : Entry). as_variable e.kind e.sort) o)) (less_found globals x y (other y i)) ∙ ready.variables y i;
  no_values = λ y i. never_value (without_param globals x) y;
  differ = ready.differ;
  no_initial = ready.no_initial;
  initial = ready.initial;
}
  where
    formulas : (formula_mentions x w.pre || formula_mentions x w.post) ≡ false
    formulas = (or_parts (is_listed w.frame x) (formula_mentions x w.pre || formula_mentions x w.post) silent).1

    framed : is_in x w.frame ≡ false
    framed = sym (listed_in w.frame x) ∙ (or_parts (is_listed w.frame x) (formula_mentions x w.pre || formula_mentions x w.post) silent).0

    other : (y : Name) → is_in y w.frame ≡ true → bytes_eq x y ≡ false
    other y i = false_from_ne_true (bytes_eq x y) (λ is. true≢false (sym i ∙ ap (λ z. is_in z w.frame) (sym (same_bytes x y is)) ∙ framed))

    others : Others (map global globals) heads (variable_sort (map global (without_param globals x))) (constant_sort (map global (without_param globals x))) (take_heads (map global (without_param globals x)) heads) true x All
    others = record {
      variables = λ y n k. ap (option_and_then (λ (e : Entry). as_variable e.kind e.sort)) (less_found globals x y (n refl));
      constants = λ y n k. ap (option_and_then (λ (e : Entry). as_constant e.kind e.sort)) (less_found globals x y (n refl));
      predicates = λ q sorts n h. h;
    }

    less_kept : (f : Formula) → formula_mentions x f ≡ false → keeps_rules (map global globals) heads f [] ≡ true → keeps_rules (map global (without_param globals x)) heads f [] ≡ true
    less_kept f n e = keeps_otherwise (map global globals) (map global (without_param globals x)) heads heads true x All others Any any_opens f (λ on. n) tt e

-- what the tests of a drop tell of a global
global_told : (c : Bool) (x : Name) (root : Option Spec) (o : Option EditRefusal) → (if false then o else if c then global_refusal x root else Some (refusal.Unknown x)) ≡ None → root_speaks x root ≡ false
global_told true x root o e = go (root_speaks x root) e
  where
    go : (b : Bool) → (if b then Some (refusal.InUse x (spot.At (place_at []))) else None) ≡ None → b ≡ false
    go true e = absurd (cc)
    go false e = refl
global_told false x root o e = absurd (cc)

abbrev Ready : List Edit → Spec → Type 0
Ready l w = IsReady (map global (globals_of l)) (heads_of (entries_of l)) w

-- where an entry is dropped that nothing uses, or a global
ready_dropped : (most : ℕ) (l : List Edit) (x : Name) (w : Spec) → root_of l ≡ Some w → drop_refusal (parts_of most l) x ≡ None → Ready l w → Ready (edit.Drop x ∷ l) w
ready_dropped most l x w is e ready = go (has_entry x (entries_of l)) refl e
  where
    served : user_in x (parts_of most l) ≡ None → IsReady (map global (globals_of l)) (heads_of (without_entry (entries_of l) x)) w
    served none =
        let root : root_names x (Some w) ≡ false = ap (root_names x) (sym is) ∙ (user_told x (parts_of most l) none).1 in
        ready_served (map global (globals_of l)) true x (heads_of (entries_of l)) (heads_of (without_entry (entries_of l) x)) w
        (same_serve true x (heads_of (entries_of l)) (heads_of (without_entry (entries_of l) x)) (without_serves x (entries_of l))) (λ on. root) ready

    go : (b : Bool) → has_entry x (entries_of l) ≡ b → (if b then in_use x (user_in x (parts_of most l)) else if is_param (globals_of l) x then global_refusal x (root_of l) else Some (refusal.Unknown x)) ≡ None →
        Ready (edit.Drop x ∷ l) w
    go true there e =
        subst (λ globals. IsReady (map global globals) (heads_of (entries_of (edit.Drop x ∷ l))) w) (sym (ap (λ b. if b then globals_of l else without_param (globals_of l) x) there))
        (subst (λ es. IsReady (map global (globals_of l)) (heads_of es) w) (sym (without_entries (table_of l) x)) (served (use_told x (user_in x (parts_of most l)) e)))
    go false there e =
        let silent : root_speaks x (Some w) ≡ false = ap (root_speaks x) (sym is) ∙ global_told (is_param (globals_of l) x) x (root_of l) None e in
        subst (λ globals. IsReady (map global globals) (heads_of (entries_of (edit.Drop x ∷ l))) w) (sym (ap (λ b. if b then globals_of l else without_param (globals_of l) x) there))
        (subst (λ es. IsReady (map global (without_param (globals_of l) x)) (heads_of es) w) (sym (ap (map entry_in) (without_none (table_of l) x there))) (ready_less (globals_of l) x (heads_of (entries_of l)) w silent ready))

-- and stays so, whatever is declared, set or dropped later
pub root_ready : (most : ℕ) (l : List Edit) → IsGood most l → (w : Spec) → root_of l ≡ Some w → Ready l w
root_ready most [] good w e = absurd (cc)
root_ready most (edit.Var p ∷ l) good w e =
    subst (λ scope. IsReady scope (heads_of (entries_of l)) w) (sym (map_append global (globals_of l) (p ∷ [])))
    (ready_longer (map global (globals_of l)) (global p ∷ []) (heads_of (entries_of l)) w (root_ready most l good.0 w e))
root_ready most (edit.Root v ∷ l) good w e =
    let is : v ≡ w = cc in
    subst (IsReady (map global (globals_of l)) (heads_of (entries_of l))) is (root_told (globals_of l) (heads_of (entries_of l)) v (first_told (root_refusal (globals_of l) (heads_of (entries_of l)) v) _ good.1).0)
root_ready most (edit.Step q s ∷ l) good w e = root_ready most l good.0 w e
root_ready most (edit.Clear q ∷ l) good w e = root_ready most l good.0 w e
root_ready most (edit.Prove q k c ∷ l) good w e = root_ready most l good.0 w e
root_ready most (edit.ProveLemma n c ∷ l) good w e = subst (λ es. IsReady (map global (globals_of l)) (heads_of es) w) (sym (prove_entries (table_of l) n c)) (root_ready most l good.0 w e)
root_ready most (edit.Define d ∷ l) good w e =
    let set = defined most l d (table_good most l good.0).differ good.1 in
    subst (λ es. IsReady (map global (globals_of l)) (heads_of es) w) (sym (put_entries (table_of l) (item.Definition d)))
    (ready_served (map global (globals_of l)) set.mode.asked d.name (heads_of (entries_of l)) (heads_of (put_entry (entries_of l) (item.Definition d))) w
    (put_serves set.mode.asked (item.Definition d) (entries_of l) set.mode.fitting) (λ on. ap (root_names d.name) (sym e) ∙ (user_told d.name (parts_of most l) (set.mode.unused on)).1) (root_ready most l good.0 w e))
root_ready most (edit.Lemma m ∷ l) good w e =
    subst (λ es. IsReady (map global (globals_of l)) (heads_of es) w) (sym (put_entries (table_of l) (item.Lemma m)))
    (ready_served (map global (globals_of l)) false m.name (heads_of (entries_of l)) (heads_of (put_entry (entries_of l) (item.Lemma m))) w
    (put_serves false (item.Lemma m) (entries_of l) (λ off. lemma_again m (entries_of l) (lemma_told (entries_of l) m good.1).no_definition)) (never_asked _) (root_ready most l good.0 w e))
root_ready most (edit.Drop x ∷ l) good w e = ready_dropped most l x w e good.1 (root_ready most l good.0 w e)
