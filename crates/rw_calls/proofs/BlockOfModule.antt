-- The law of the blocks of modules is sound.
use Rattle.std.proofs.Common.{◌≡◌, ◌<◌, ℕ, Bool, true, false, not, if◌then◌else◌, is_some, List, [], ◌∷◌, ◌++◌, map, find, reverse, Option, Some, None, IsSomeAnd, refl, sym, ap, ◌∙◌, subst, true≢false}
use Rattle.std.specs.Prelude.{bytes_eq, option_and_then}
use Rattle.std.proofs.lemmas.Bool.{and_from, and_parts, ltb-true, or_parts, not-false}
use Rattle.rw_terms.specs.declared.scope.Entry.{Entry}
use Rattle.rw_terms.specs.declared.scope.Head.{Head}
use Rattle.rw_terms.specs.declared.scope.Kind.TheVariants as kind
use Rattle.rw_terms.specs.Scopes.{has_name, is_fresh}
use Rattle.rw_terms.specs.State.{Value, FitsEntry, State as Map, Fits as FitsMap}
use Rattle.rw_faults.specs.Initial.{is_twice}
use Rattle.rw_subst.specs.Looks.{in_states}
use Rattle.rw_programs.specs.declared.prog.Param.{Param}
use Rattle.rw_programs.specs.declared.prog.ModCode.{ModCode}
use Rattle.rw_programs.specs.declared.prog.Spec.{Spec}
use Rattle.rw_programs.specs.declared.prog.Prog.{Prog}
use Rattle.rw_programs.specs.declared.prog.Prog.TheVariants as prog
use Rattle.rw_programs.specs.declared.prog.Prog.TheViews as made
use Rattle.rw_programs.specs.declared.applied.Context.{Context}
use Rattle.rw_programs.specs.declared.applied.Applied.{Applied}
use Rattle.rw_programs.specs.State.{Name, State, Fits, Holds, Within, empty, is_in, names_of, with_own, ValuesFor}
use Rattle.rw_programs.specs.Scoped.{with_entries}
use Rattle.rw_programs.specs.Tables.{Table, find_module, hold}
use Rattle.rw_programs.specs.Meaning.{Bodies, bodies, bodies_before, ends_by, sure_by, MayEnd, Sure}
use Rattle.rw_programs.specs.Refine.{is_value, is_value_entry, HasValues, RefinesGiven}
use Rattle.rw_programs.proofs.Frames.{within_fits}
use Rattle.rw_meaning.specs.Filling.{fill, module_entries, PartsFit}
use Rattle.rw_meaning.proofs.Grow.{ends_of_any, before_ends, sure_before}
use Rattle.rw_meaning.proofs.Scopes.{Extends, extends, enter_fits, leave_fits}
use Rattle.rw_meaning.proofs.Tests.{other_bytes, fresh_is}
use Rattle.rw_derived.specs.Causes.{each_is}
use Rattle.rw_soundness.specs.Sound.{IsReady, KidsMeet, FitsContext, RefinesWhere}
use Rattle.rw_soundness.proofs.Causes.{passes}
use Rattle.rw_soundness.proofs.Ready.{scope_agrees, within_by_fits}
use Rattle.rw_heads.specs.declared.head.Module.{Module}
use Rattle.rw_modules.specs.Laws.{open_context, open_spec, open_made, are_new, open_law}
use Rattle.rw_simulation.specs.Coupling.{start_state}
use Rattle.rw_simulation.proofs.Chosen.{first_differs, rest_differ}
use Rattle.rw_simulation.proofs.Entered.{names_in}
use Rattle.rw_simulation.proofs.Link.{some_here, here_some}
use Rattle.rw_simulation.proofs.Lists.{in_none}
use Rattle.rw_simulation.proofs.Spoken.{holds_and}
use Rattle.rw_calls.specs.Sound.{IsFormedStart, StartMeets, BlocksAreSound}
use Rattle.rw_calls.proofs.CallLaw.{none_behind}
use Rattle.rw_calls.proofs.Tests.{fitting}
use Rattle.rw_programs.proofs.Beside.{with_no_parts, without_parts}

-- what the block of a module is sure of and ends in
block_sure : (E : Table) (calls before : Bodies) (ks : ℕ → Prog) (name : Name) (s : State)
    → IsSomeAnd (find_module name E.modules) (λ d. (vs : List (Option Value)) → ValuesFor d.state vs → before.sure d.place d.start (start_state d.state vs)
    × ((a : State) → before.ends d.place d.start (start_state d.state vs) a → sure_by E calls before (ks 1) (hold E.is_concrete d a.own s))) → sure_by E calls before (fill ks (made.ModBlock name (prog.Kid 1))) s
unfolding Rattle.rw_programs.specs.declared.prog.Prog.TheBlock.hidden-the_row-Prog-0 denote.Hole.Carrier.hidden
block_sure E calls before ks name s h = h

block_ends : (E : Table) (calls before : Bodies) (ks : ℕ → Prog) (name : Name) (s t : State) → ends_by E calls before (fill ks (made.ModBlock name (prog.Kid 1))) s t
    → IsSomeAnd (find_module name E.modules) (λ d. (vs : List (Option Value)) × (a b : State) × ValuesFor d.state vs × before.ends d.place d.start (start_state d.state vs) a
    × ends_by E calls before (ks 1) (hold E.is_concrete d a.own s) b × (t ≡ hold E.is_concrete d empty b))
unfolding Rattle.rw_programs.specs.declared.prog.Prog.TheBlock.hidden-the_row-Prog-0 denote.Hole.Carrier.hidden
block_ends E calls before ks name s t e = e

pub joined_thrice : {X : Type 0} (xs ys zs : List X) → (xs ++ ys) ++ zs ≡ xs ++ (ys ++ zs)
joined_thrice [] ys zs = refl
joined_thrice (x ∷ xs) ys zs = ap (λ l. x ∷ l) (joined_thrice xs ys zs)

-- nothing is found with one entry more of another name
none_more : (scope : List Entry) (x : Name) (e : Entry) → find (has_name x) scope ≡ None → bytes_eq e.name x ≡ false → find (has_name x) (scope ++ e ∷ []) ≡ None
none_more [] x e none other = ap (λ b. if b then Some e else None) other
none_more (a ∷ scope) x e none other = go (bytes_eq a.name x) refl none (λ n. none_more scope x e n other)
  where
    go : (b : Bool) → bytes_eq a.name x ≡ b → find (has_name x) (a ∷ scope) ≡ None → (find (has_name x) scope ≡ None → find (has_name x) (scope ++ e ∷ []) ≡ None) → find (has_name x) ((a ∷ scope) ++ e ∷ []) ≡ None
    go true i n ih = absurd (some_none (sym (ap (λ b. if b then Some a else find (has_name x) scope) i) ∙ n))
      where
        some_none : Some a ≡ None → ⊥
        some_none q = absurd (cc)
    go false i n ih =
        ap (λ b. if b then Some a else find (has_name x) (scope ++ e ∷ [])) i ∙ ih (sym (ap (λ b. if b then Some a else find (has_name x) scope) i) ∙ n)

-- names that are new and others than one more
still_new : (scope : List Entry) (e : Entry) (names : List Name) → each_is (λ x. is_fresh x scope) names ≡ true → is_in e.name names ≡ false → each_is (λ x. is_fresh x (scope ++ e ∷ [])) names ≡ true
still_new scope e [] new off = refl
still_new scope e (x ∷ names) new off =
    and_from _ _ here (still_new scope e names (and_parts (is_fresh x scope) _ new).1 (or_parts (bytes_eq e.name x) (is_in e.name names) off).1)
  where
    none : find (has_name x) (scope ++ e ∷ []) ≡ None
    none = none_more scope x e (fresh_is x scope (and_parts _ (each_is (λ x. is_fresh x scope) names) new).0) (or_parts (bytes_eq e.name x) (is_in e.name names) off).0

    here : is_fresh x (scope ++ e ∷ []) ≡ true
    here = ap (λ (o : Option Entry). not (is_some o)) none

-- a scope takes names that are new and differ
pub takes : (scope : List Entry) (ps : List Param) → each_is (λ x. is_fresh x scope) (names_of ps) ≡ true → is_twice (names_of ps) ≡ false → with_entries scope (module_entries ps) ≡ Some (scope ++ module_entries ps)
takes scope [] new differ = ap Some (sym (none_behind scope))
takes scope (p ∷ ps) new differ =
    let e : Entry = record { name = p.name; sort = p.sort; kind = kind.Module } in
    ap (λ b. option_and_then (λ i. with_entries i (module_entries ps)) (if b then Some (scope ++ e ∷ []) else None)) (and_parts (is_fresh p.name scope) _ new).0
    ∙ (takes (scope ++ e ∷ []) ps (still_new scope e (names_of ps) (and_parts (is_fresh p.name scope) _ new).1 (first_differs p.name (names_of ps) differ)) (rest_differ p.name (names_of ps) differ)
    ∙ ap Some (joined_thrice scope (e ∷ []) (module_entries ps)))

-- names of modules are not of kind value
pub no_value : (ps : List Param) (x : Name) → is_value (module_entries ps) x ≡ false
no_value [] x = refl
no_value (p ∷ ps) x = go (bytes_eq p.name x) refl (no_value ps x)
  where
    go : (b : Bool) → bytes_eq p.name x ≡ b → is_value (module_entries ps) x ≡ false → is_value (module_entries (p ∷ ps)) x ≡ false
    go true i ih = rw i refl
    go false i ih = rw i ih

unfound : (ps : List Param) (x : Name) → is_in x (names_of ps) ≡ false → find (has_name x) (module_entries ps) ≡ None
unfound [] x h = refl
unfound (p ∷ ps) x h =
    ap (λ b. if b then Some (record { name = p.name; sort = p.sort; kind = kind.Module }) else find (has_name x) (module_entries ps)) (other_bytes x p.name (or_parts (bytes_eq x p.name) (is_in x (names_of ps)) h).0)
    ∙ unfound ps x (or_parts (bytes_eq x p.name) (is_in x (names_of ps)) h).1

nothing : (o : Option Entry) (u : Option Value) → o ≡ None → FitsEntry o u → u ≡ None
nothing None None e f = refl
nothing None (Some v) e f = absurd f
nothing (Some z) u e f = absurd (cc)

module _ (context : Context) (heads : List Head) (w : Spec) (m : Module) (place : ℕ) (ready : IsReady context.scope heads w) (formed : IsFormedStart heads m) (new : are_new context.scope m ≡ true) (earlier : place < context.order)
    (fixed : Map) (E : Table) (k : ℕ) (kids : ℕ → Prog) (meets : StartMeets E m place) (kid : RefinesGiven fixed (open_context context m).scope E context.order k (prog.Spec (open_spec w m)) E context.order k (kids 1))
    (name : Name) (same_name : m.name ≡ name) where
  abbrev scope : List Entry
  scope = context.scope

  abbrev A : List Name
  A = names_of m.state

  abbrev inner : List Entry
  inner = scope ++ module_entries m.state

  ext : Extends scope (module_entries m.state) inner
  ext = extends scope (module_entries m.state) inner (takes scope m.state new formed.differ)

  is_entry : (x : Name) (b : Bool) → is_in x A ≡ b → is_in x (map (λ e. e.name) (module_entries m.state)) ≡ b
  is_entry x b i = ap (is_in x) (names_in kind.Module m.state) ∙ i

  was_entry : (x : Name) (b : Bool) → is_in x (map (λ e. e.name) (module_entries m.state)) ≡ b → is_in x A ≡ b
  was_entry x b i = sym (ap (is_in x) (names_in kind.Module m.state)) ∙ i

  -- a name that is in scope is none of the module's
  off_module : (x : Name) → (find (has_name x) scope ≡ None → ⊥) → is_in x A ≡ false
  off_module x there = go (is_in x A) refl
    where
      go : (b : Bool) → is_in x A ≡ b → is_in x A ≡ false
      go true i = absurd (there (ext.new x (is_entry x true i)).1)
      go false i = i

  -- a name of the module's entries is one of the module
  on_module : (x : Name) → (find (has_name x) (module_entries m.state) ≡ None → ⊥) → is_in x A ≡ true
  on_module x there = go (is_in x A) refl
    where
      go : (b : Bool) → is_in x A ≡ b → is_in x A ≡ true
      go true i = i
      go false i = absurd (there (unfound m.state x i))

  abbrev into : Map → State → State
  into a s = with_own s (λ x. if is_in x A then a x else s.own x)

  at_module : (a : Map) (s : State) (x : Name) → is_in x A ≡ true → (into a s).own x ≡ a x
  at_module a s x i = ap (λ b. if b then a x else s.own x) i

  at_other : (a : Map) (s : State) (x : Name) → is_in x A ≡ false → (into a s).own x ≡ s.own x
  at_other a s x i = ap (λ b. if b then a x else s.own x) i

  module _ (s : State) (fit : Fits scope s) (has : HasValues scope fixed s) (before : Holds E.library w.pre s s) where
    abbrev Started : State → Type 0
    Started a = FitsMap (module_entries m.state) a.own × Holds E.library m.start a a

    module _ (a : State) (started : Started a) where
      abbrev s1 : State
      s1 = into a.own s

      in_fits : Fits inner s1
      in_fits = record {
        names = enter_fits scope (module_entries m.state) inner ext s.own a.own s1.own fit.names started.0 (λ x i. at_module a.own s x (was_entry x true i)) (λ x i. at_other a.own s x (was_entry x false i));
        parts = fit.parts;
      }

      in_values : HasValues inner fixed s1
      in_values x is = go (is_in x A) refl
        where
          go : (b : Bool) → is_in x A ≡ b → s1.own x ≡ fixed x
          go true i = absurd (true≢false (sym is ∙ (ap is_value_entry (ext.new x (is_entry x true i)).0 ∙ no_value m.state x)))
          go false i = at_other a.own s x i ∙ has x (ap is_value_entry (sym (ext.old x (is_entry x false i))) ∙ is)

      in_pre : Holds E.library (open_spec w m).pre s1 s1
      in_pre = holds_and (reverse E.library) (in_states s1.own s1.own) [] w.pre m.start (
        (scope_agrees scope heads w.pre ready.pre.1 E.library s.own s.own s1.own s1.own (λ x there. let e = sym (at_other a.own s x (off_module x there)) in (e, e))).0 before,
        (scope_agrees (module_entries m.state) heads m.start formed.start.1 E.library a.own a.own s1.own s1.own (λ x there. let e = sym (at_module a.own s x (on_module x there)) in (e, e))).0 started.1,
      )

      better : Sure E context.order k (kids 1) s1 × ((t : State) → MayEnd E context.order k (kids 1) s1 t → Within (w.frame ++ A) s1 t × Holds E.library w.post s1 t)
      better = kid s1 in_fits in_values in_pre

      module _ (t : State) (within : Within (w.frame ++ A) s1 t) (after : Holds E.library w.post s1 t) where
        abbrev out : State
        out = into empty t

        end_fits : Fits inner t
        end_fits = without_parts inner t (within_fits inner (w.frame ++ A) s1 t (with_no_parts inner s1 in_fits) within)

        out_fits : Fits scope out
        out_fits = record {
          names = leave_fits scope (module_entries m.state) inner ext t.own out.own end_fits.names (λ x i. at_module empty t x (was_entry x true i)) (λ x i. at_other empty t x (was_entry x false i));
          parts = end_fits.parts;
        }

        kept : (x : Name) → is_in x w.frame ≡ false → (b : Bool) → is_in x A ≡ b → out.own x ≡ s.own x
        kept x off true i = at_module empty t x i ∙ sym (nothing (find (has_name x) scope) (s.own x) (ext.new x (is_entry x true i)).1 (fit.names x))
        kept x off false i = at_other empty t x i ∙ (within.off x (in_none w.frame A x off i) ∙ at_other a.own s x i)

        out_meets : Within w.frame s out × Holds E.library w.post s out
        out_meets = (
          within_by_fits scope w.frame s out (with_no_parts scope s fit) (with_no_parts scope out out_fits) (λ x off. kept x off (is_in x A) refl),
          (scope_agrees scope heads w.post ready.post.1 E.library s1.own t.own s.own out.own (λ x there. (at_other a.own s x (off_module x there), sym (at_other empty t x (off_module x there))))).0 after,
        )

    abbrev d : ModCode
    d = meets.entry

    found : find_module name E.modules ≡ Some d
    found = subst (λ n. find_module n E.modules ≡ Some d) same_name meets.found

    as_into : (a : Map) (s : State) → hold E.is_concrete d a s ≡ into a s
    as_into a s = (λ i. hold (meets.abstract i) d a s) ∙ (λ i. with_own s (λ x. if is_in x (names_of (meets.state_is i)) then a x else s.own x))

    started : (vs : List (Option Value)) → ValuesFor d.state vs → (a : State) → (bodies_before E context.order).ends d.place d.start (start_state d.state vs) a → Started a
    started vs hv a e =
        let hm = subst (λ ps. ValuesFor ps vs) meets.state_is hv in
        let r = meets.meets vs hm in
        let x = (before_ends E context.order d.place d.start (start_state d.state vs) a e).1 in
        r.2 a (ends_of_any E place d.start r.0 x.0 (start_state m.state vs) a r.1
        (subst (λ z. MayEnd E z x.0 d.start (start_state m.state vs) a) meets.place_is (subst (λ ps. MayEnd E d.place x.0 d.start (start_state ps vs) a) meets.state_is x.1)))

    start_sure : (vs : List (Option Value)) → ValuesFor d.state vs → (bodies_before E context.order).sure d.place d.start (start_state d.state vs)
    start_sure vs hv =
        let r = meets.meets vs (subst (λ ps. ValuesFor ps vs) meets.state_is hv) in
        subst (λ z. (bodies_before E context.order).sure z d.start (start_state d.state vs)) (sym meets.place_is)
        (subst (λ ps. (bodies_before E context.order).sure place d.start (start_state ps vs)) (sym meets.state_is) (sure_before E context.order place d.start (start_state m.state vs) earlier (r.0, r.1)))

    open_sure : Sure E context.order k (fill kids (made.ModBlock name (prog.Kid 1))) s
    open_sure =
        block_sure E (bodies E context.order k) (bodies_before E context.order) kids name s
        (here_some (find_module name E.modules) d (λ d. (vs : List (Option Value)) → ValuesFor d.state vs → (bodies_before E context.order).sure d.place d.start (start_state d.state vs)
        × ((a : State) → (bodies_before E context.order).ends d.place d.start (start_state d.state vs) a → Sure E context.order k (kids 1) (hold E.is_concrete d a.own s))) found
        (λ vs hv. (start_sure vs hv, λ a e. subst (Sure E context.order k (kids 1)) (sym (as_into a.own s)) (better a (started vs hv a e)).0)))

    open_ends : (t : State) → MayEnd E context.order k (fill kids (made.ModBlock name (prog.Kid 1))) s t → Within w.frame s t × Holds E.library w.post s t
    open_ends t x =
        let y = some_here (find_module name E.modules) d (λ d. (vs : List (Option Value)) × (a b : State) × ValuesFor d.state vs × (bodies_before E context.order).ends d.place d.start (start_state d.state vs) a
        × MayEnd E context.order k (kids 1) (hold E.is_concrete d a.own s) b × (t ≡ hold E.is_concrete d empty b)) found (block_ends E (bodies E context.order k) (bodies_before E context.order) kids name s t x) in
        let st = started y.0 y.3 y.1 y.4 in
        let r = (better y.1 st).1 y.2 (subst (λ z. MayEnd E context.order k (kids 1) z y.2) (as_into y.1.own s) y.5) in
        subst (λ t. Within w.frame s t × Holds E.library w.post s t) (sym (y.6 ∙ as_into empty y.2)) (out_meets y.1 st y.2 r.0 r.1)

    pub open_better : Sure E context.order k (fill kids (made.ModBlock name (prog.Kid 1))) s × ((t : State) → MayEnd E context.order k (fill kids (made.ModBlock name (prog.Kid 1))) s t → Within w.frame s t × Holds E.library w.post s t)
    open_better = (open_sure, open_ends)

-- under an abstract table the states of a context are those that fit the scope
of_context : (E : Table) (context : Context) (s : State) → E.is_concrete ≡ false → FitsContext E context s → Fits context.scope s
of_context E context s abstract fit = record { names = fit.names; parts = subst (λ (b : Bool). PartsFit b E.modules context.opened s.part) abstract fit.parts }

to_context : (E : Table) (context : Context) (s : State) → E.is_concrete ≡ false → Fits context.scope s → FitsContext E context s
to_context E context s abstract fit = record { names = fit.names; parts = subst (λ (b : Bool). PartsFit b E.modules context.opened s.part) (sym abstract) fit.parts }

pub blocks_are_sound : BlocksAreSound
unfolding open_law
blocks_are_sound context heads w name m place a ready formed same_name law fixed E k kids meets kid =
    let f = fitting _ _ _ _ _ _ law in
    let new = not-false _ (passes _ _ _ f.no_cause).0 in
    let kid' : KidsMeet fixed E context.order k kids 1 (open_made context w name m).children = subst (λ (a : Applied). KidsMeet fixed E context.order k kids 1 a.children) f.makes kid in
    subst (λ (a : Applied). RefinesWhere FitsContext fixed E context.order k context (prog.Spec w) (fill kids a.skeleton)) (sym f.makes)
    (λ s fit has before. open_better context heads w m place ready formed new (ltb-true place context.order (and_parts _ _ f.is_earlier).0) fixed E k kids meets
    (λ s1 fit1. kid'.0 s1 (to_context E (open_context context m) s1 meets.abstract fit1)) name same_name s (of_context E context s meets.abstract fit) has before)
