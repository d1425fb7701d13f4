-- A program that changes no name of kind value runs through states that have the values of these names.
use Rattle.std.proofs.Common.{◌≡◌, refl, sym, ap, ◌∙◌, subst, ℕ, zero, suc, Bool, true, false, List, [], ◌∷◌, map, find, Option, Some, None, inl, inr, true≢false}
use Rattle.std.proofs.lemmas.Bool.{or_from, and_parts}
use Rattle.std.specs.Prelude.{bytes_eq}
use Rattle.rw_terms.specs.declared.scope.Entry.{Entry}
use Rattle.rw_terms.specs.declared.scope.Kind.TheVariants as kind
use Rattle.rw_terms.specs.declared.term.Sort.{Sort}
use Rattle.rw_terms.specs.Scopes.{has_name}
use Rattle.rw_terms.specs.State.{State as Map}
use Rattle.rw_programs.specs.declared.prog.ModCode.{ModCode}
use Rattle.rw_programs.specs.declared.prog.Param.{Param}
use Rattle.rw_programs.specs.declared.prog.Pin.{Pin}
use Rattle.rw_programs.specs.declared.prog.Prog.{Prog, Spec, Kid, Skip, Assign, If', Do', Call, OpCall, Row_of-Arm, end_of-Arm, more_of-Arm}
use Rattle.rw_programs.specs.Made.{Seq, Block, Con, ModBlock}
use Rattle.rw_programs.specs.State.{Name, State, empty, is_in, put_all, read_all, names_of, with_own}
use Rattle.rw_programs.specs.Tables.{Table, find_proc, find_module, pin_names, pin_terms, returned, hold}
use Rattle.rw_programs.specs.Meaning.{Bodies, values, ends_by, arm_ends, arms_sure, Chain}
use Rattle.rw_programs.specs.Refine.{is_value_kind, is_value_entry, is_value, HasValues}
use Rattle.rw_programs.specs.Laws.{KeepsValues}
use Rattle.rw_programs.specs.Scoped.{with_entry, with_entries, with_local, with_pin, with_pins, with_module, if_some, prog_scoped, row_scoped}
use Rattle.rw_terms.specs.Rules.{sort_in}
use Rattle.rw_programs.proofs.Frames.{put_all_off}
use Rattle.rw_meaning.specs.Filling.{WhereSome, FitsIn, EachPart, EachArm, CallFitsBy, module_entries, brought, brings_of}
use Rattle.rw_meaning.specs.Given.{SetsNoValue}
use Rattle.rw_meaning.proofs.Carried.{Carried, fitting, each_join, row_join}
use Rattle.rw_meaning.proofs.Ending.{some_tested, where_is, row_fits}
use Rattle.rw_meaning.proofs.Entering.{local_entry}
use Rattle.rw_meaning.proofs.Modules.{hold_off}
use Rattle.rw_meaning.proofs.Options.{some_use}
use Rattle.rw_meaning.proofs.Overlays.{in_or_off, own_is}
use Rattle.rw_meaning.proofs.Scopes.{found_with, find_with, with_is}
use Rattle.rw_meaning.proofs.Tests.{same_bytes, and_then_is}

-- both scopes have the same names of kind value, and none of these is one of the names
record SameValues (scope inner : List Entry) (names : List Name) : Type 0 where
  down : (x : Name) → is_value inner x ≡ true → (is_value scope x ≡ true) × (is_in x names ≡ false)
  up : (x : Name) → is_value scope x ≡ true → (is_value inner x ≡ true) × (is_in x names ≡ false)

no_new : (scope inner : List Entry) → Some scope ≡ Some inner → SameValues scope inner []
no_new scope inner h = let same : scope ≡ inner = cc in subst (λ i. SameValues scope i []) same (record { down = λ x i. (i, refl); up = λ x i. (i, refl) })

-- a name that is new in the scope and of another kind
new_entry : (scope : List Entry) (e : Entry) (scope' : List Entry) → with_entry scope e ≡ Some scope' → is_value_kind e.kind ≡ false
    → (inner : List Entry) (names : List Name) → SameValues scope' inner names → SameValues scope inner (e.name ∷ names)
new_entry scope e scope' h k inner names v = record {
  down = λ x i. let r = v.down x i in let q = older x r.0 in (q, or_from _ _ (other x q) r.1);
  up = λ x i. let r = v.up x (newer x i) in (r.0, or_from _ _ (other x i) r.1);
}
  where
    at : (x : Name) → find (has_name x) scope' ≡ found_with (find (has_name x) scope) (has_name x e) e
    at x = ap (find (has_name x)) (sym (with_is scope e scope' h).1) ∙ find_with scope x e

    other : (x : Name) → is_value scope x ≡ true → bytes_eq x e.name ≡ false
    other x i =
        in_or_off (bytes_eq x e.name)
        (λ j. absurd (true≢false (sym (subst (λ y. is_value scope y ≡ true) (same_bytes x e.name j) i) ∙ ap is_value_entry (with_is scope e scope' h).0)))
        (λ j. j)

    older : (x : Name) → is_value scope' x ≡ true → is_value scope x ≡ true
    older x i = go (find (has_name x) scope) (has_name x e) (sym (ap is_value_entry (at x)) ∙ i)
      where
        go : (o : Option Entry) (b : Bool) → is_value_entry (found_with o b e) ≡ true → is_value_entry o ≡ true
        go None true i = absurd (true≢false (sym i ∙ k))
        go None false i = absurd (true≢false (sym i))
        go (Some a) b i = i

    newer : (x : Name) → is_value scope x ≡ true → is_value scope' x ≡ true
    newer x i = ap is_value_entry (at x) ∙ go (find (has_name x) scope) (has_name x e) i
      where
        go : (o : Option Entry) (b : Bool) → is_value_entry o ≡ true → is_value_entry (found_with o b e) ≡ true
        go None b i = absurd (true≢false (sym i))
        go (Some a) b i = i

local_values : (scope : List Entry) (x : Name) (sort : Sort) (inner : List Entry) → with_local scope x sort ≡ Some inner → SameValues scope inner (x ∷ [])
local_values scope x sort inner h =
    new_entry scope (record { name = x; sort = sort; kind = kind.Local }) inner (local_entry scope x sort inner h) refl inner [] (no_new inner inner refl)

pins_values : (outer : List Entry) (pins : List Pin) (scope inner : List Entry) → with_pins outer scope pins ≡ Some inner → SameValues scope inner (pin_names pins)
pins_values outer [] scope inner h = no_new scope inner h
pins_values outer (p ∷ pins) scope inner h =
    let r = and_then_is (λ i. with_pins outer i pins) (with_pin outer scope p) inner h in
    let q = and_then_is (λ sort. with_entry scope (record { name = p.name; sort = sort; kind = kind.Constant })) (sort_in outer [] p.term) r.0 r.1 in
    new_entry scope (record { name = p.name; sort = q.0; kind = kind.Constant }) r.0 q.2 refl inner (pin_names pins) (pins_values outer pins r.0 inner r.2)

entries_values : (ps : List Param) (scope inner : List Entry) → with_entries scope (module_entries ps) ≡ Some inner → SameValues scope inner (map (λ e. e.name) (module_entries ps))
entries_values [] scope inner h = no_new scope inner h
entries_values (p ∷ ps) scope inner h =
    let e : Entry = record { name = p.name; sort = p.sort; kind = kind.Module } in
    let r = and_then_is (λ i. with_entries i (module_entries ps)) (with_entry scope e) inner h in
    new_entry scope e r.0 r.1 refl inner (map (λ e. e.name) (module_entries ps)) (entries_values ps r.0 inner r.2)

brought_values : (b : Bool) (o : Option ModCode) (scope inner : List Entry) → with_entries scope (brought b o) ≡ Some inner → SameValues scope inner (map (λ e. e.name) (brought b o))
brought_values true o scope inner h = no_new scope inner h
brought_values false None scope inner h = no_new scope inner h
brought_values false (Some d) scope inner h = entries_values d.state scope inner h

-- a state that agrees off the new names has the same values there
into : (fixed : Map) (scope inner : List Entry) (names : List Name) → SameValues scope inner names → (s t : State) → ((x : Name) → is_in x names ≡ false → t.own x ≡ s.own x)
    → HasValues scope fixed s → HasValues inner fixed t
into fixed scope inner names v s t off has x i = let r = v.down x i in off x r.1 ∙ has x r.0

-- a name of kind value is none of those that may be changed
unset : (scope : List Entry) (names : List Name) → KeepsValues scope names → (x : Name) → is_value scope x ≡ true → is_in x names ≡ false
unset scope names keeps x v = in_or_off (is_in x names) (λ h. absurd (true≢false (sym v ∙ keeps x h))) (λ h. h)

module _ (E : Table) (calls before : Bodies) (brings : Name → List Entry) where
  -- what is asked of each part
  abbrev pub Q : List Name → List Entry → Prog → Type 0
  Q opened scope c = CallFitsBy E calls before brings opened scope c × SetsNoValue E opened scope c

  -- the names of kind value keep their values
  abbrev Stays : List Entry → (State → State → Type 0) → Type 0
  Stays scope N = (s t : State) → N s t → (x : Name) → is_value scope x ≡ true → t.own x ≡ s.own x

  chain_stays : (scope : List Entry) (N : State → State → Type 0) → Stays scope N → (k : ℕ) → Stays scope (Chain N k)
  chain_stays scope N f zero s t e x v = own_is t s (sym e) x
  chain_stays scope N f (suc k) s t e x v = f e.0 t e.2 x v ∙ chain_stays scope N f k s e.0 e.1 x v

  block_stays : (scope inner : List Entry) (y : Name) (sort : Sort) (c : Prog) → with_local scope y sort ≡ Some inner → Stays inner (ends_by E calls before c) → Stays scope (ends_by E calls before (Block y sort c))
  block_stays scope inner y sort c h f s t e x v =
      let r = (local_values scope y sort inner h).up x v in
      own_is t _ e.4 x ∙ put_all_off (y ∷ []) [] e.1.own x r.1 ∙ f (with_own s (put_all (y ∷ []) (Some e.0 ∷ []) s.own)) e.1 e.3 x r.0 ∙ put_all_off (y ∷ []) (Some e.0 ∷ []) s.own x r.1

  con_stays : (scope inner : List Entry) (pins : List Pin) (c : Prog) → with_pins scope scope pins ≡ Some inner → Stays inner (ends_by E calls before c) → Stays scope (ends_by E calls before (Con pins c))
  con_stays scope inner pins c h f s t e x v =
      let r = (pins_values scope pins scope inner h).up x v in
      own_is t _ e.2 x ∙ put_all_off (pin_names pins) [] e.0.own x r.1
      ∙ f (with_own s (put_all (pin_names pins) (values (pin_terms pins) s) s.own)) e.0 e.1 x r.0 ∙ put_all_off (pin_names pins) (values (pin_terms pins) s) s.own x r.1

  module_stays : (scope inner : List Entry) (m : Name) (c : Prog) → with_entries scope (brings_of E m) ≡ Some inner → Stays inner (ends_by E calls before c) → Stays scope (ends_by E calls before (ModBlock m c))
  module_stays scope inner m c h f s t e x v =
      let r = (brought_values E.is_concrete (find_module m E.modules) scope inner h).up x v in
      some_use (find_module m E.modules) _ (t.own x ≡ s.own x) (λ d found y.
      own_is t _ y.6 x ∙ hold_off E m d found x r.1 empty y.2 ∙ f (hold E.is_concrete d y.1.own s) y.2 y.5 x r.0 ∙ hold_off E m d found x r.1 y.1.own s) e

  mutual
    stays : (opened : List Name) (scope : List Entry) (c : Prog) → prog_scoped brings opened scope c ≡ true → EachPart brings Q opened scope c → Stays scope (ends_by E calls before c)
    stays opened scope (Spec w) ok q = λ s t e x v. e.0.off x (unset scope w.frame q.1 x v)
    stays opened scope (Kid n) ok q = λ s t e. absurd e
    stays opened scope Skip ok q = λ s t e x v. own_is t s e x
    stays opened scope (Assign names terms) ok q = λ s t e x v. own_is t _ e x ∙ put_all_off names (values terms s) s.own x (unset scope names q.1 x v)
    stays opened scope (Seq c d) ok q = λ s t e x v. stays opened scope d (and_parts _ _ ok).1 q.2 e.0 t e.2 x v ∙ stays opened scope c (and_parts _ _ ok).0 q.1 s e.0 e.1 x v
    stays opened scope (If' shape arms) ok q = row_stays opened scope arms ok q.1
    stays opened scope (Do' variant shape arms) ok q = λ s t e. chain_stays scope (arm_ends E calls before arms) (row_stays opened scope arms (and_parts _ _ ok).1 q.1) e.0.0 s t e.0.1
    stays opened scope (Block x sort c) ok q =
        let r = some_tested (λ inner. prog_scoped brings opened inner c) (with_local scope x sort) ok in
        block_stays scope r.0 x sort c r.1 (stays opened r.0 c r.2 (where_is (with_local scope x sort) r.0 (λ inner. EachPart brings Q opened inner c) r.1 q.1))
    stays opened scope (Con pins c) ok q =
        let r = some_tested (λ inner. prog_scoped brings opened inner c) (with_pins scope scope pins) ok in
        con_stays scope r.0 pins c r.1 (stays opened r.0 c r.2 (where_is (with_pins scope scope pins) r.0 (λ inner. EachPart brings Q opened inner c) r.1 q.1))
    stays opened scope (Call f args names) ok q = λ s t h x v. some_use (find_proc f E.procs) _ (t.own x ≡ s.own x)
        (λ e found y. own_is t _ y.4 x ∙ put_all_off names (read_all (names_of e.results) y.1.own) s.own x (unset scope names q.1 x v)) h
    stays opened scope (OpCall m o args names) ok q = λ s t h x v.
        let brought = unset scope (map (λ e. e.name) (brings_of E m)) q.1.1 x v in
        some_use (find_module m E.modules) _ (t.own x ≡ s.own x) (λ d found. some_use (find_proc o d.operations) _ (t.own x ≡ s.own x) (λ e there y.
        own_is t _ y.4 x ∙ hold_off E m d found x brought y.1.own (returned e names y.1 s) ∙ put_all_off names (read_all (names_of e.results) y.1.own) s.own x (unset scope names q.1.0 x v))) h
    stays opened scope (ModBlock m c) ok q =
        let o = some_tested (λ outside. if_some (λ inner. prog_scoped brings outside inner c) (with_entries scope (brings m))) (with_module opened m) ok in
        let r = some_tested (λ inner. prog_scoped brings o.0 inner c) (with_entries scope (brings m)) o.2 in
        let part = where_is (with_module opened m) o.0 (λ outside. WhereSome (with_entries scope (brings m)) (λ inner. EachPart brings Q outside inner c)) o.1 q.1 in
        module_stays scope r.0 m c (subst (λ es. with_entries scope es ≡ Some r.0) q.0.0.0 r.1)
        (stays o.0 r.0 c r.2 (where_is (with_entries scope (brings m)) r.0 (λ inner. EachPart brings Q o.0 inner c) r.1 part))

    row_stays : {m : _} (opened : List Name) (scope : List Entry) (arms : Row_of-Arm m) → row_scoped brings opened scope arms ≡ true → EachArm brings Q opened scope arms → Stays scope (arm_ends E calls before arms)
    row_stays opened scope end_of-Arm ok q = λ s t e. absurd e
    row_stays opened scope (more_of-Arm g c rest) ok q =
        let both = (and_parts _ _ ok).1 in
        arm_stays scope (stays opened scope c (and_parts _ _ both).0 q.0) (row_stays opened scope rest (and_parts _ _ both).1 q.1)
      where
        arm_stays : (scope : List Entry) → Stays scope (ends_by E calls before c) → Stays scope (arm_ends E calls before rest) → Stays scope (arm_ends E calls before (more_of-Arm g c rest))
        arm_stays scope f h s t (inl e) = f s t e.1
        arm_stays scope f h s t (inr e) = h s t e

  -- the states that fit the context and have these values
  abbrev pub FitsGiven : Map → List Name → List Entry → State → Type 0
  FitsGiven fixed opened scope s = FitsIn E opened scope s × HasValues scope fixed s

  row_given : (fixed : Map) {m : _} (opened : List Name) (scope : List Entry) (arms : Row_of-Arm m) → row_scoped brings opened scope arms ≡ true → EachArm brings Q opened scope arms
      → (s t : State) → FitsGiven fixed opened scope s → arms_sure E calls before arms s → arm_ends E calls before arms s t → FitsGiven fixed opened scope t
  row_given fixed opened scope arms ok q s t f h e = (
    row_fits E calls before brings opened scope arms ok (row_join brings Q Q (CallFitsBy E calls before brings) (λ o r d a b. a.0) opened scope arms q q) s t f.0 h e,
    λ x v. row_stays opened scope arms ok q s t e x v ∙ f.1 x v,
  )

  pub having : (fixed : Map) → Carried E calls before brings Q (FitsGiven fixed)
  having fixed = let fit = fitting E calls before brings in record {
    ends = λ opened scope c ok q s t f h e. (
      fit.ends opened scope c ok (each_join brings Q Q (CallFitsBy E calls before brings) (λ o r d a b. a.0) opened scope c q q) s t f.0 h e,
      λ x v. stays opened scope c ok q s t e x v ∙ f.1 x v,
    );
    row_ends = row_given fixed;
    in_block = λ opened scope inner y sort h s v f hv. (
      fit.in_block opened scope inner y sort h s v f.0 hv,
      into fixed scope inner (y ∷ []) (local_values scope y sort inner h) s (with_own s (put_all (y ∷ []) (Some v ∷ []) s.own)) (λ x i. put_all_off (y ∷ []) (Some v ∷ []) s.own x i) f.1,
    );
    in_con = λ opened scope inner pins h s f. (
      fit.in_con opened scope inner pins h s f.0,
      into fixed scope inner (pin_names pins) (pins_values scope pins scope inner h) s (with_own s (put_all (pin_names pins) (values (pin_terms pins) s) s.own))
          (λ x i. put_all_off (pin_names pins) (values (pin_terms pins) s) s.own x i) f.1,
    );
    in_module = λ opened outside scope inner m c opens takes q d found vs hv st a e s f.
        let taken : with_entries scope (brings_of E m) ≡ Some inner = subst (λ es. with_entries scope es ≡ Some inner) q.0.0 takes in (
          fit.in_module opened outside scope inner m c opens takes q.0 d found vs hv st a e s f.0,
          into fixed scope inner (map (λ e. e.name) (brings_of E m)) (brought_values E.is_concrete (find_module m E.modules) scope inner taken) s (hold E.is_concrete d a.own s)
              (λ x i. hold_off E m d found x i a.own s) f.1,
        );
  }
