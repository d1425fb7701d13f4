-- The states in which concrete bodies begin fit their scopes.
use Rattle.std.proofs.Common.{◌≡◌, refl, sym, ap, ◌∙◌, subst, Bool, true, false, ◌||◌, List, [], ◌∷◌, ◌++◌, map, find, Option, Some, None, true≢false}
use Rattle.std.specs.Prelude.{bytes_eq, if◌then◌else◌}
use Rattle.std.proofs.lemmas.Bool.{false_from_ne_true}
use Rattle.rw_terms.specs.declared.scope.Entry.{Entry}
use Rattle.rw_terms.specs.declared.scope.Kind.{Kind}
use Rattle.rw_terms.specs.declared.scope.Kind.TheVariants as kind
use Rattle.rw_terms.specs.Scopes.{has_name}
use Rattle.rw_terms.specs.State.{Value, FitsEntry, State as Map, Fits as FitsMap}
use Rattle.rw_programs.specs.declared.prog.Param.{Param}
use Rattle.rw_programs.specs.State.{Name, Fits, empty, is_in, put, put_all, names_of, ValuesFor}
use Rattle.rw_programs.proofs.Frames.{put_all_off}
use Rattle.rw_meaning.specs.Filling.{module_entries}
use Rattle.rw_meaning.proofs.Tests.{same_bytes, bytes_same}
use Rattle.rw_meaning.proofs.Scopes.{put_all_on}
use Rattle.rw_heads.specs.declared.head.Module.{Module}
use Rattle.rw_heads.specs.declared.head.Oper.{Oper}
use Rattle.rw_modules.specs.Heads.{entries, start_scope, oper_scope}
use Rattle.rw_simulation.specs.Coupling.{begun, start_state}
use Rattle.rw_simulation.specs.Concrete.{IsFormedOper}
use Rattle.rw_simulation.proofs.Chosen.{fits_off}
use Rattle.rw_simulation.proofs.Lists.{in_left, in_right}

pub names_in : (k : Kind) (ps : List Param) → map (λ e. e.name) (entries k ps) ≡ names_of ps
names_in k [] = refl
names_in k (p ∷ ps) = ap (λ l. p.name ∷ l) (names_in k ps)

-- what is found in two lists of entries
pub found_in : (es more : List Entry) (x : Name) → is_in x (map (λ e. e.name) es) ≡ true → find (has_name x) (es ++ more) ≡ find (has_name x) es
found_in [] more x i = absurd (true≢false (sym i))
found_in (e ∷ es) more x i = go (bytes_eq x e.name) refl (bytes_eq e.name x) refl i (found_in es more x)
  where
    go : (a : Bool) → bytes_eq x e.name ≡ a → (b : Bool) → bytes_eq e.name x ≡ b → (a || is_in x (map (λ e. e.name) es)) ≡ true → (is_in x (map (λ e. e.name) es) ≡ true → find (has_name x) (es ++ more) ≡ find (has_name x) es)
        → find (has_name x) ((e ∷ es) ++ more) ≡ find (has_name x) (e ∷ es)
    go a i true j k ih = rw j refl
    go true i false j k ih = absurd (true≢false (sym (bytes_same e.name x (sym (same_bytes x e.name i))) ∙ j))
    go false i false j k ih = rw j (ih k)

pub found_out : (es more : List Entry) (x : Name) → is_in x (map (λ e. e.name) es) ≡ false → find (has_name x) (es ++ more) ≡ find (has_name x) more
found_out [] more x i = refl
found_out (e ∷ es) more x i = go (bytes_eq x e.name) refl (bytes_eq e.name x) refl i (found_out es more x)
  where
    go : (a : Bool) → bytes_eq x e.name ≡ a → (b : Bool) → bytes_eq e.name x ≡ b → (a || is_in x (map (λ e. e.name) es)) ≡ false → (is_in x (map (λ e. e.name) es) ≡ false → find (has_name x) (es ++ more) ≡ find (has_name x) more)
        → find (has_name x) ((e ∷ es) ++ more) ≡ find (has_name x) more
    go true i b j k ih = absurd (true≢false k)
    go false i true j k ih = absurd (true≢false (sym (bytes_same x e.name (sym (same_bytes e.name x j))) ∙ i))
    go false i false j k ih = rw j (ih k)

-- a map that fits each of two lists where it is looked for
pub both_fit : (es more : List Entry) (own : Map) → ((x : Name) → is_in x (map (λ e. e.name) es) ≡ true → FitsEntry (find (has_name x) es) (own x))
    → ((x : Name) → is_in x (map (λ e. e.name) es) ≡ false → FitsEntry (find (has_name x) more) (own x)) → FitsMap (es ++ more) own
both_fit es more own on off x = go (is_in x (map (λ e. e.name) es)) refl
  where
    go : (b : Bool) → is_in x (map (λ e. e.name) es) ≡ b → FitsEntry (find (has_name x) (es ++ more)) (own x)
    go true i = subst (λ o. FitsEntry o (own x)) (sym (found_in es more x i)) (on x i)
    go false i = subst (λ o. FitsEntry o (own x)) (sym (found_out es more x i)) (off x i)

-- the kind does not matter
pub kind_fits : (k l : Kind) (ps : List Param) (x : Name) (v : Option Value) → FitsEntry (find (has_name x) (entries k ps)) v → FitsEntry (find (has_name x) (entries l ps)) v
kind_fits k l [] x v h = h
kind_fits k l (p ∷ ps) x v h = go (bytes_eq p.name x) refl h (kind_fits k l ps x v)
  where
    same : (v : Option Value) → FitsEntry (Some (record { name = p.name; sort = p.sort; kind = k })) v → FitsEntry (Some (record { name = p.name; sort = p.sort; kind = l })) v
    same None h = h
    same (Some v) h = h

    go : (b : Bool) → bytes_eq p.name x ≡ b → FitsEntry (find (has_name x) (entries k (p ∷ ps))) v → (FitsEntry (find (has_name x) (entries k ps)) v → FitsEntry (find (has_name x) (entries l ps)) v)
        → FitsEntry (find (has_name x) (entries l (p ∷ ps))) v
    go true i h ih =
        subst (λ o. FitsEntry o v) (sym (ap (λ b. if b then Some (record { name = p.name; sort = p.sort; kind = l }) else find (has_name x) (entries l ps)) i))
        (same v (subst (λ o. FitsEntry o v) (ap (λ b. if b then Some (record { name = p.name; sort = p.sort; kind = k }) else find (has_name x) (entries k ps)) i) h))
    go false i h ih =
        subst (λ o. FitsEntry o v) (sym (ap (λ b. if b then Some (record { name = p.name; sort = p.sort; kind = l }) else find (has_name x) (entries l ps)) i))
        (ih (subst (λ o. FitsEntry o v) (ap (λ b. if b then Some (record { name = p.name; sort = p.sort; kind = k }) else find (has_name x) (entries k ps)) i) h))

-- values of the sorts, put for the names
pub values_fit : (k : Kind) (ps : List Param) (vs : List (Option Value)) → ValuesFor ps vs → FitsMap (entries k ps) (put_all (names_of ps) vs empty)
values_fit k [] [] hv x = tt
values_fit k [] (v ∷ vs) hv x = absurd hv
values_fit k (p ∷ ps) [] hv x = absurd hv
values_fit k (p ∷ ps) (None ∷ vs) hv x = absurd hv
values_fit k (p ∷ ps) (Some v ∷ vs) hv x = go (bytes_eq x p.name) refl (bytes_eq p.name x) refl (values_fit k ps vs hv.1 x)
  where
    go : (b : Bool) → bytes_eq x p.name ≡ b → (c : Bool) → bytes_eq p.name x ≡ c → FitsEntry (find (has_name x) (entries k ps)) (put_all (names_of ps) vs empty x)
        → FitsEntry (find (has_name x) (entries k (p ∷ ps))) (put p.name (Some v) (put_all (names_of ps) vs empty) x)
    go true e true l ih = rw (e, l) hv.0
    go false e false l ih = rw (e, l) ih
    go true e false l ih = absurd (true≢false (sym (bytes_same p.name x (sym (same_bytes x p.name e))) ∙ l))
    go false e true l ih = absurd (true≢false (sym (bytes_same x p.name (sym (same_bytes p.name x l))) ∙ e))

-- a concrete start
pub start_enters : (m : Module) (ws : List (Option Value)) → ValuesFor m.concrete ws → Fits (start_scope m) (start_state m.concrete ws)
start_enters m ws hv = record { names = values_fit kind.Local m.concrete ws hv; parts = refl }

-- a concrete operation
module _ (m : Module) (o : Oper) (fo : IsFormedOper m o) (c : Map) (args rs : List (Option Value)) (hv : ValuesFor o.values args) (hr : ValuesFor o.results rs) (fits : FitsMap (module_entries m.concrete) c) where
  own : Map
  own = put_all (names_of o.results) rs (put_all (names_of o.values) args c)

  at_value : (x : Name) → is_in x (names_of o.values) ≡ true → own x ≡ put_all (names_of o.values) args empty x
  unfolding own
  at_value x i = put_all_off (names_of o.results) rs (put_all (names_of o.values) args c) x (fo.differ x i) ∙ put_all_on (names_of o.values) args c empty x i

  at_result : (x : Name) → is_in x (names_of m.concrete) ≡ false → is_in x (names_of o.values) ≡ false → (b : Bool) → is_in x (names_of o.results) ≡ b → own x ≡ put_all (names_of o.results) rs empty x
  unfolding own
  at_result x i j true k = put_all_on (names_of o.results) rs (put_all (names_of o.values) args c) empty x k
  at_result x i j false k =
      put_all_off (names_of o.results) rs (put_all (names_of o.values) args c) x k ∙ (put_all_off (names_of o.values) args c x j
      ∙ (fits_off m.concrete c x fits i ∙ sym (put_all_off (names_of o.results) rs empty x k)))

  at_state : (x : Name) → is_in x (names_of m.concrete) ≡ true → own x ≡ c x
  unfolding own
  at_state x i =
      put_all_off (names_of o.results) rs (put_all (names_of o.values) args c) x (false_from_ne_true (is_in x (names_of o.results)) (λ j. true≢false (sym i ∙ (fo.new x (in_right (names_of o.values) (names_of o.results) x j)).1)))
      ∙ put_all_off (names_of o.values) args c x (false_from_ne_true (is_in x (names_of o.values)) (λ j. true≢false (sym i ∙ (fo.new x (in_left (names_of o.values) (names_of o.results) x j)).1)))

  value_fits : (x : Name) → is_in x (names_of o.values) ≡ true → FitsEntry (find (has_name x) (entries kind.Value o.values)) (own x)
  value_fits x i = subst (FitsEntry (find (has_name x) (entries kind.Value o.values))) (sym (at_value x i)) (values_fit kind.Value o.values args hv x)

  result_fits : (x : Name) → is_in x (names_of m.concrete) ≡ false → is_in x (names_of o.values) ≡ false → FitsEntry (find (has_name x) (entries kind.Outcome o.results)) (own x)
  result_fits x i j = subst (FitsEntry (find (has_name x) (entries kind.Outcome o.results))) (sym (at_result x i j (is_in x (names_of o.results)) refl)) (values_fit kind.Outcome o.results rs hr x)

  -- values and results, off the concrete state
  call_fits : (x : Name) → is_in x (names_of m.concrete) ≡ false → FitsEntry (find (has_name x) (entries kind.Value o.values ++ entries kind.Outcome o.results)) (own x)
  call_fits x i = go (is_in x (names_of o.values)) refl
    where
      go : (b : Bool) → is_in x (names_of o.values) ≡ b → FitsEntry (find (has_name x) (entries kind.Value o.values ++ entries kind.Outcome o.results)) (own x)
      go true j =
          subst (λ e. FitsEntry e (own x)) (sym (found_in (entries kind.Value o.values) (entries kind.Outcome o.results) x (ap (is_in x) (names_in kind.Value o.values) ∙ j))) (value_fits x j)
      go false j =
          subst (λ e. FitsEntry e (own x)) (sym (found_out (entries kind.Value o.values) (entries kind.Outcome o.results) x (ap (is_in x) (names_in kind.Value o.values) ∙ j))) (result_fits x i j)

  own_fits : FitsMap (oper_scope m o) own
  own_fits =
      both_fit (start_scope m) (entries kind.Value o.values ++ entries kind.Outcome o.results) own
      (λ x i. subst (FitsEntry (find (has_name x) (start_scope m))) (sym (at_state x (sym (ap (is_in x) (names_in kind.Local m.concrete)) ∙ i))) (kind_fits kind.Module kind.Local m.concrete x (c x) (fits x)))
      (λ x i. call_fits x (sym (ap (is_in x) (names_in kind.Local m.concrete)) ∙ i))

  pub oper_enters : Fits (oper_scope m o) (begun o.values o.results c args rs)
  unfolding own
  oper_enters = record { names = own_fits; parts = refl }
