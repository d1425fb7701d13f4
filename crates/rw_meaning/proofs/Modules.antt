-- States in and behind the block of a module.
use mathlib.Core.Path.{fun_ext}
use Rattle.std.proofs.Common.{◌≡◌, refl, sym, ap, ◌∙◌, subst, Bool, true, false, ◌||◌, List, [], ◌∷◌, map, find, Some, None, true≢false}
use Rattle.std.specs.Prelude.{bytes_eq, if◌then◌else◌}
use Rattle.rw_terms.specs.declared.scope.Entry.{Entry}
use Rattle.rw_terms.specs.Scopes.{has_name}
use Rattle.rw_terms.specs.State.{FitsEntry, State as Map, Fits as FitsMap}
use Rattle.rw_programs.specs.declared.prog.Param.{Param}
use Rattle.rw_programs.specs.declared.prog.ModCode.{ModCode}
use Rattle.rw_programs.specs.State.{Name, State, empty, is_in, only, names_of}
use Rattle.rw_programs.specs.Tables.{Table, find_module, hold}
use Rattle.rw_programs.specs.Scoped.{with_entries, with_module}
use Rattle.rw_meaning.specs.Filling.{module_entries, brought, brings_of, PartFits, PartsFit, FitsIn}
use Rattle.rw_meaning.proofs.Tests.{same_bytes, bytes_same, if_not}
use Rattle.rw_meaning.proofs.Scopes.{extends, enter_fits, leave_fits}

entries_named : (ps : List Param) → map (λ e. e.name) (module_entries ps) ≡ names_of ps
entries_named [] = refl
entries_named (p ∷ ps) = ap (λ l. p.name ∷ l) (entries_named ps)

-- nothing is found under a name that is none of the module's
unfound : (ps : List Param) (x : Name) → is_in x (names_of ps) ≡ false → find (has_name x) (module_entries ps) ≡ None
unfound [] x h = refl
unfound (p ∷ ps) x h = go (bytes_eq x p.name) refl (bytes_eq p.name x) refl h (unfound ps x)
  where
    go : (a : Bool) → bytes_eq x p.name ≡ a → (b : Bool) → bytes_eq p.name x ≡ b → (a || is_in x (names_of ps)) ≡ false
        → (is_in x (names_of ps) ≡ false → find (has_name x) (module_entries ps) ≡ None) → find (has_name x) (module_entries (p ∷ ps)) ≡ None
    go true i b j h ih = absurd (true≢false h)
    go false i true j h ih = absurd (true≢false (sym (bytes_same x p.name (sym (same_bytes p.name x j))) ∙ i))
    go false i false j h ih = rw j (ih h)

-- a map that fits the module's state does so on its names alone
only_fits : (ps : List Param) (m : Map) → FitsMap (module_entries ps) m → FitsMap (module_entries ps) (only (names_of ps) m)
only_fits ps m fm x = go (is_in x (names_of ps)) refl
  where
    go : (b : Bool) → is_in x (names_of ps) ≡ b → FitsEntry (find (has_name x) (module_entries ps)) (only (names_of ps) m x)
    go true i = rw i (fm x)
    go false i = rw (i, unfound ps x i) tt

only_empty : (xs : List Name) → only xs empty ≡ empty
only_empty xs = fun_ext (λ x. go x (is_in x xs))
  where
    go : (x : Name) (b : Bool) → (if b then empty x else None) ≡ None
    go x true = refl
    go x false = refl

-- the part of another module stays
other_part : (b : Bool) (n m : Name) (parts : Name → Map) (modules : List ModCode) (opened : List Name) (new : Map) → b ≡ false
    → PartFits (is_in n opened) (find_module n modules) (parts n) → PartFits (is_in n opened) (find_module n modules) (if b then new else parts n)
other_part true n m parts modules opened new e h = absurd (true≢false e)
other_part false n m parts modules opened new e h = h

module _ (E : Table) (opened outside : List Name) (m : Name) (d : ModCode) (found : find_module m E.modules ≡ Some d) (named : bytes_eq d.name m ≡ true) (opens : with_module opened m ≡ Some outside) where
  new_module : is_in m opened ≡ false
  new_module = (if_not (is_in m opened) (m ∷ opened) outside opens).0

  outside_is : m ∷ opened ≡ outside
  outside_is = (if_not (is_in m opened) (m ∷ opened) outside opens).1

  name_is : d.name ≡ m
  name_is = same_bytes d.name m named

  -- in the block of the module: its state is that from its start
  concrete_enters : (scope : List Entry) (s : State) (a : Map) → FitsMap scope s.own → PartsFit true E.modules opened s.part → FitsMap (module_entries d.state) a
      → PartsFit true E.modules outside (hold true d a s).part
  concrete_enters scope s a fn fp fa = subst (λ l. PartsFit true E.modules l (hold true d a s).part) outside_is (λ n. go n (bytes_eq n d.name) refl)
    where
      go : (n : Name) (b : Bool) → bytes_eq n d.name ≡ b → PartFits (is_in n (m ∷ opened)) (find_module n E.modules) (if b then only (names_of d.state) a else s.part n)
      go n true e =
          let same : m ≡ n = sym (same_bytes n d.name e ∙ name_is) in
          subst (λ n. PartFits (is_in n (m ∷ opened)) (find_module n E.modules) (only (names_of d.state) a)) same
          (rw (bytes_same m m refl) (subst (λ o. PartFits true o (only (names_of d.state) a)) (sym found) (only_fits d.state a fa)))
      go n false e =
          let other : bytes_eq n m ≡ false = subst (λ y. bytes_eq n y ≡ false) name_is e in
          rw other (fp n)

  -- behind it the module has no part
  concrete_leaves : (t : State) → PartsFit true E.modules outside t.part → PartsFit true E.modules opened (hold true d empty t).part
  concrete_leaves t fp n = go (bytes_eq n d.name) refl
    where
      parts : PartsFit true E.modules (m ∷ opened) t.part
      parts = subst (λ l. PartsFit true E.modules l t.part) (sym outside_is) fp

      go : (b : Bool) → bytes_eq n d.name ≡ b → PartFits (is_in n opened) (find_module n E.modules) (if b then only (names_of d.state) empty else t.part n)
      go true e =
          let same : m ≡ n = sym (same_bytes n d.name e ∙ name_is) in
          subst (λ n. PartFits (is_in n opened) (find_module n E.modules) (only (names_of d.state) empty)) same
          (rw new_module (only_empty (names_of d.state)))
      go false e =
          let other : bytes_eq n m ≡ false = subst (λ y. bytes_eq n y ≡ false) name_is e in
          rw other at (parts n)

-- the same where the module's names are names of the scope
module _ (scope inner : List Entry) (d : ModCode) (takes : with_entries scope (module_entries d.state) ≡ Some inner) where
  pub abstract_enters : (m a : Map) → FitsMap scope m → FitsMap (module_entries d.state) a → FitsMap inner (λ x. if is_in x (names_of d.state) then a x else m x)
  abstract_enters m a fm fa =
      enter_fits scope (module_entries d.state) inner (extends scope (module_entries d.state) inner takes) m a _ fm fa
      (λ x i. let j : is_in x (names_of d.state) ≡ true = ap (is_in x) (sym (entries_named d.state)) ∙ i in rw j)
      (λ x i. let j : is_in x (names_of d.state) ≡ false = ap (is_in x) (sym (entries_named d.state)) ∙ i in rw j)

  pub abstract_leaves : (m : Map) → FitsMap inner m → FitsMap scope (λ x. if is_in x (names_of d.state) then empty x else m x)
  abstract_leaves m fm =
      leave_fits scope (module_entries d.state) inner (extends scope (module_entries d.state) inner takes) m _ fm
      (λ x i. let j : is_in x (names_of d.state) ≡ true = ap (is_in x) (sym (entries_named d.state)) ∙ i in rw j)
      (λ x i. let j : is_in x (names_of d.state) ≡ false = ap (is_in x) (sym (entries_named d.state)) ∙ i in rw j)

-- a module has the name by which it is found
find_named : (m : Name) (modules : List ModCode) (d : ModCode) → find_module m modules ≡ Some d → bytes_eq d.name m ≡ true
find_named m [] d e = absurd (cc)
find_named m (a ∷ modules) d e = go (bytes_eq a.name m) refl e (find_named m modules d)
  where
    go : (b : Bool) → bytes_eq a.name m ≡ b → (if b then Some a else find_module m modules) ≡ Some d → (find_module m modules ≡ Some d → bytes_eq d.name m ≡ true) → bytes_eq d.name m ≡ true
    go true h e ih = let r : a ≡ d = cc in subst (λ x. bytes_eq x.name m ≡ true) r h
    go false h e ih = ih e

module _ (E : Table) (opened outside : List Name) (scope inner : List Entry) (m : Name) (d : ModCode) (found : find_module m E.modules ≡ Some d)
    (opens : with_module opened m ≡ Some outside) (takes : with_entries scope (brought E.is_concrete (find_module m E.modules)) ≡ Some inner) where
  pub module_enters : (s : State) (a : Map) → FitsIn E opened scope s → FitsMap (module_entries d.state) a → FitsIn E outside inner (hold E.is_concrete d a s)
  module_enters s a f fa = go E.is_concrete refl takes f.parts
    where
      go : (b : Bool) → E.is_concrete ≡ b → with_entries scope (brought b (find_module m E.modules)) ≡ Some inner → PartsFit b E.modules opened s.part → FitsIn E outside inner (hold b d a s)
      go true e t p = let same : scope ≡ inner = cc in record {
        names = subst (λ l. FitsMap l s.own) same f.names;
        parts = subst (λ b. PartsFit b E.modules outside (hold true d a s).part) (sym e)
            (concrete_enters E opened outside m d found (find_named m E.modules d found) opens scope s a f.names p fa);
      }
      go false e t p = record {
        names = abstract_enters scope inner d (subst (λ o. with_entries scope (brought false o) ≡ Some inner) found t) s.own a f.names fa;
        parts = subst (λ b. PartsFit b E.modules outside s.part) (sym e) p;
      }

  pub module_leaves : (t : State) → FitsIn E outside inner t → FitsIn E opened scope (hold E.is_concrete d empty t)
  module_leaves t f = go E.is_concrete refl takes f.parts
    where
      go : (b : Bool) → E.is_concrete ≡ b → with_entries scope (brought b (find_module m E.modules)) ≡ Some inner → PartsFit b E.modules outside t.part → FitsIn E opened scope (hold b d empty t)
      go true e k p = let same : inner ≡ scope = cc in record {
        names = subst (λ l. FitsMap l t.own) same f.names;
        parts = subst (λ b. PartsFit b E.modules opened (hold true d empty t).part) (sym e)
            (concrete_leaves E opened outside m d found (find_named m E.modules d found) opens t p);
      }
      go false e k p = record {
        names = abstract_leaves scope inner d (subst (λ o. with_entries scope (brought false o) ≡ Some inner) found k) t.own f.names;
        parts = subst (λ b. PartsFit b E.modules opened t.part) (sym e) p;
      }

-- under an abstract table the names of a module's state are those that its block brings
pub brought_off : (E : Table) (n : Name) (d : ModCode) → find_module n E.modules ≡ Some d → E.is_concrete ≡ false
    → (x : Name) → is_in x (map (λ e. e.name) (brings_of E n)) ≡ false → is_in x (names_of d.state) ≡ false
brought_off E n d found e x h =
    ap (is_in x) (sym (entries_named d.state))
    ∙ subst (λ o. is_in x (map (λ e. e.name) (brought false o)) ≡ false) found (subst (λ b. is_in x (map (λ e. e.name) (brought b (find_module n E.modules))) ≡ false) e h)

-- a name that the block does not bring keeps its value where the module's state is written
pub hold_off : (E : Table) (n : Name) (d : ModCode) → find_module n E.modules ≡ Some d → (x : Name) → is_in x (map (λ e. e.name) (brings_of E n)) ≡ false
    → (a : Map) (s : State) → (hold E.is_concrete d a s).own x ≡ s.own x
hold_off E n d found x h a s = go E.is_concrete refl
  where
    go : (b : Bool) → E.is_concrete ≡ b → (hold b d a s).own x ≡ s.own x
    go true e = refl
    go false e = rw (brought_off E n d found e x h)
