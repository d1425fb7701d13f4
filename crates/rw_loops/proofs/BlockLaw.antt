-- The law of local blocks is sound.
use Rattle.std.proofs.Common.{◌≡◌, ℕ, Bool, true, false, ◌||◌, not, if◌then◌else◌, List, [], ◌∷◌, ◌++◌, find, Option, Some, None, refl, sym, ap, ◌∙◌, subst, true≢false, bytes_eq}
use Rattle.rw_terms.specs.declared.scope.Entry.{Entry}
use Rattle.rw_terms.specs.declared.scope.Head.{Head}
use Rattle.rw_terms.specs.declared.scope.Kind.TheVariants as kind
use Rattle.rw_terms.specs.declared.term.Formula.{Formula}
use Rattle.rw_terms.specs.declared.term.Sort.{Sort}
use Rattle.rw_terms.specs.Scopes.{has_name, is_fresh}
use Rattle.rw_terms.specs.Formed.{is_sort}
use Rattle.rw_terms.specs.Rules.{keeps_rules}
use Rattle.rw_terms.specs.Truth.{Definition}
use Rattle.rw_terms.specs.State.{Value, HasSort, FitsEntry, State as Map, Fits as FitsMap, given}
use Rattle.rw_subst.specs.declared.slot.Form.{Form}
use Rattle.rw_subst.specs.declared.slot.Form.TheVariants as form
use Rattle.rw_subst.specs.Looks.{in_states}
use Rattle.rw_subst.specs.Stands.{stands_in}
use Rattle.rw_programs.specs.declared.prog.Prog.{Prog}
use Rattle.rw_programs.specs.declared.prog.Spec.{Spec}
use Rattle.rw_programs.specs.declared.prog.Prog.TheVariants as prog
use Rattle.rw_programs.specs.declared.applied.Context.{Context}
use Rattle.rw_programs.specs.declared.applied.Misfit.TheVariants as cause
use Rattle.rw_programs.specs.State.{Name, State, Holds, SameSort, Within, is_in, put, with_own}
use Rattle.rw_programs.specs.Scoped.{with_local, with_entries}
use Rattle.rw_programs.specs.Tables.{Table}
use Rattle.rw_programs.specs.Meaning.{Bodies, bodies, bodies_before, MayEnd, Sure, ends_by, sure_by}
use Rattle.rw_programs.specs.Refine.{is_value, is_value_entry, HasValues}
use Rattle.rw_meaning.specs.Filling.{fill}
use Rattle.rw_meaning.proofs.Tests.{same_bytes, fresh_is}
use Rattle.rw_meaning.proofs.Scopes.{Extends, extends}
use Rattle.rw_meaning.proofs.Entering.{local_fits}
use Rattle.rw_loops.specs.Laws.{block_misfit, block_made}
use Rattle.rw_soundness.specs.Sound.{FitsWith, IsSoundWhere}
use Rattle.rw_loops.proofs.Placed.{IsPlaced, not_in_scope, no_variable, variable_in}
use Rattle.rw_loops.proofs.Standing.{states_agree}

-- what a local block is sure of and ends in
block_sure : (E : Table) (calls before : Bodies) (ks : ℕ → Prog) (x : Name) (sort : Sort) (s : State)
    → ((v : Value) → HasSort v sort → sure_by E calls before (ks 1) (with_own s (put x (Some v) s.own))) → sure_by E calls before (fill ks (prog.Block x sort (prog.Kid 1))) s
unfolding Rattle.rw_programs.specs.declared.prog.Prog.TheBlock.hidden-the_row-Prog-0 denote.Hole.Carrier.hidden
block_sure E calls before ks x sort s h = h

block_ends : (E : Table) (calls before : Bodies) (ks : ℕ → Prog) (x : Name) (sort : Sort) (s t : State) → ends_by E calls before (fill ks (prog.Block x sort (prog.Kid 1))) s t
    → (v : Value) × (m : State) × HasSort v sort × ends_by E calls before (ks 1) (with_own s (put x (Some v) s.own)) m × (t ≡ with_own m (put x None m.own))
unfolding Rattle.rw_programs.specs.declared.prog.Prog.TheBlock.hidden-the_row-Prog-0 denote.Hole.Carrier.hidden
block_ends E calls before ks x sort s t e = e

-- a new name that has a sort may be a local
record IsLocal (scope : List Entry) (x : Name) (sort : Sort) : Type 0 where
  fresh : find (has_name x) scope ≡ None
  taken : with_local scope x sort ≡ Some (scope ++ record { name = x; sort = sort; kind = kind.Local } ∷ [])
  entered : with_entries scope (record { name = x; sort = sort; kind = kind.Local } ∷ []) ≡ Some (scope ++ record { name = x; sort = sort; kind = kind.Local } ∷ [])

local_is : (scope : List Entry) (x : Name) (sort : Sort) → block_misfit scope x sort ≡ None → IsLocal scope x sort
local_is scope x sort e = go (is_fresh x scope) refl (is_sort sort) refl e
  where
    go : (a : Bool) → is_fresh x scope ≡ a → (b : Bool) → is_sort sort ≡ b → (if not a then Some cause.NotFresh else if not b then Some cause.Sort else None) ≡ None → IsLocal scope x sort
    go false i b j e = absurd (cc)
    go true i false j e = absurd (cc)
    go true i true j e = record { fresh = fresh_is x scope i; taken = rw (j, i) refl; entered = rw i refl }

-- a name of a list with one more
in_last : (names : List Name) (x y : Name) → is_in y (names ++ x ∷ []) ≡ (is_in y names || bytes_eq y x)
in_last [] x y = go (bytes_eq y x)
  where
    go : (b : Bool) → (b || false) ≡ b
    go true = refl
    go false = refl
in_last (z ∷ names) x y = go (bytes_eq y z) (in_last names x y)
  where
    go : (b : Bool) → is_in y (names ++ x ∷ []) ≡ (is_in y names || bytes_eq y x) → (b || is_in y (names ++ x ∷ [])) ≡ ((b || is_in y names) || bytes_eq y x)
    go true ih = refl
    go false ih = ih

module _ (context : Context) (heads : List Head) (w : Spec) (x : Name) (sort : Sort) (placed : IsPlaced context.scope heads w) (no_misfit : block_misfit context.scope x sort ≡ None) where
  abbrev scope : List Entry
  scope = context.scope

  abbrev local : Entry
  local = record { name = x; sort = sort; kind = kind.Local }

  abbrev inner : List Entry
  inner = scope ++ local ∷ []

  fresh : find (has_name x) scope ≡ None
  fresh = (local_is scope x sort no_misfit).fresh

  -- a name that is in scope is another
  other : (y : Name) → (find (has_name y) scope ≡ None → ⊥) → bytes_eq y x ≡ false
  other y there = go (bytes_eq y x) refl
    where
      go : (b : Bool) → bytes_eq y x ≡ b → bytes_eq y x ≡ false
      go true i = absurd (there (ap (λ z. find (has_name z) scope) (same_bytes y x i) ∙ fresh))
      go false i = i

  enter_fits : (s : State) (v : Value) → FitsMap scope s.own → HasSort v sort → FitsMap inner (put x (Some v) s.own)
  enter_fits s v fits hv = local_fits scope x sort inner (local_is scope x sort no_misfit).taken s.own v fits hv

  off_local : (m : Map) (v : Option Value) (y : Name) → bytes_eq y x ≡ false → put x v m y ≡ m y
  off_local m v y i = rw i refl

  enter_values : (fixed : Map) (s : State) (v : Value) → HasValues scope fixed s → HasValues inner fixed (with_own s (put x (Some v) s.own))
  enter_values fixed s v has y is = go (bytes_eq y x) refl
    where
      ext : Extends scope (local ∷ []) inner
      ext = extends scope (local ∷ []) inner (local_is scope x sort no_misfit).entered

      no_value : (b : Bool) → has_name y local ≡ b → is_value (local ∷ []) y ≡ false
      no_value true i = rw i refl
      no_value false i = rw i refl

      go : (b : Bool) → bytes_eq y x ≡ b → put x (Some v) s.own y ≡ fixed y
      go true i = absurd (true≢false (sym is ∙ (ap is_value_entry (ext.new y (rw i refl)).0 ∙ no_value (has_name y local) refl)))
      go false i = off_local s.own (Some v) y i ∙ has y (ap is_value_entry (sym (ext.old y (rw i refl))) ∙ is)

  -- what stands in a formula over the scope has the same value in states that differ in the local alone
  kept : (library : List Definition) (f : Formula) (s0 s t0 t : State) → keeps_rules scope heads f [] ≡ true → ((y : Name) → bytes_eq y x ≡ false → s0.own y ≡ t0.own y) → ((y : Name) → bytes_eq y x ≡ false → s.own y ≡ t.own y) → Holds library f s0 s → Holds library f t0 t
  kept library f s0 s t0 t keeps e0 e = states_agree library f s0 s t0 t agree
    where
      apart : (g : Form) (y : Name) → stands_in g y f ≡ true → bytes_eq y x ≡ false
      apart g y h = other y (λ none. not_in_scope scope heads f g y keeps none h)

      agree : (g : Form) (y : Name) → stands_in g y f ≡ true → in_states s0.own s.own g y ≡ in_states t0.own t.own g y
      agree form.Variable y h = ap given (e y (apart form.Variable y h))
      agree form.Initial y h = ap given (e0 y (apart form.Initial y h))
      agree form.Constant y h = ap given (e y (apart form.Constant y h))

  -- the local taken away, what is left is within the frame
  leave_within : (s m : State) (v : Value) → FitsMap scope s.own → Within (w.frame ++ x ∷ []) (with_own s (put x (Some v) s.own)) m → Within w.frame s (with_own m (put x None m.own))
  leave_within s m v fits h = record { off = λ y i. off y i (bytes_eq y x) refl; sorts = sorts; parts = h.parts }
    where
      off : (y : Name) → is_in y w.frame ≡ false → (b : Bool) → bytes_eq y x ≡ b → put x None m.own y ≡ s.own y
      off y i true j = rw j (sym (nothing (find (has_name y) scope) (s.own y) (ap (λ z. find (has_name z) scope) (same_bytes y x j) ∙ fresh) (fits y)))
        where
          nothing : (o : Option Entry) (u : Option Value) → o ≡ None → FitsEntry o u → u ≡ None
          nothing None None e f = refl
          nothing None (Some v) e f = absurd f
          nothing (Some a) u e f = absurd (cc)
      off y i false j = off_local m.own None y j ∙ (h.off y (in_last w.frame x y ∙ rw (i, j) refl) ∙ off_local s.own (Some v) y j)

      sorts : (y : Name) → is_in y w.frame ≡ true → SameSort (s.own y) (put x None m.own y)
      sorts y i =
          let j = other y (λ none. true≢false (sym (variable_in scope w.frame y placed.variables i) ∙ no_variable scope y none)) in
          let same = h.sorts y (in_last w.frame x y ∙ rw i refl) in
          subst (SameSort (s.own y)) (sym (off_local m.own None y j)) (subst (λ u. SameSort u (m.own y)) (off_local s.own (Some v) y j) same)

  pub block_sound : (others : Name → Map) → IsSoundWhere (FitsWith others) context w (block_made context w x sort)
  block_sound others fixed E p k ks valid kids s fits has h = (
    block_sure E (bodies E p k) (bodies_before E p) ks x sort s (λ v hv. (better v hv).0),
    λ t e. let r = block_ends E (bodies E p k) (bodies_before E p) ks x sort s t e in
        let i = (better r.0 r.2).1 r.1 r.3 in
        subst (λ t. Within w.frame s t × Holds E.library w.post s t) (sym r.4) (
          leave_within s r.1 r.0 fits.0 i.0,
          kept E.library w.post (with_own s (put x (Some r.0) s.own)) r.1 s (with_own r.1 (put x None r.1.own)) placed.post.1
              (λ y j. off_local s.own (Some r.0) y j) (λ y j. sym (off_local r.1.own None y j)) i.1,
        ),
  )
    where
      better : (v : Value) → HasSort v sort → Sure E p k (ks 1) (with_own s (put x (Some v) s.own))
          × ((m : State) → MayEnd E p k (ks 1) (with_own s (put x (Some v) s.own)) m → Within (w.frame ++ x ∷ []) (with_own s (put x (Some v) s.own)) m × Holds E.library w.post (with_own s (put x (Some v) s.own)) m)
      better v hv =
          let s' : State = with_own s (put x (Some v) s.own) in
          kids.0 s' (enter_fits s v fits.0 hv, fits.1) (enter_values fixed s v has)
          (kept E.library w.pre s s s' s' placed.pre.1 (λ y j. sym (off_local s.own (Some v) y j)) (λ y j. sym (off_local s.own (Some v) y j)) h)
