-- What the block of a module leaves to its kid is well-formed where it stands.
use Rattle.std.proofs.Common.{◌≡◌, Bool, true, false, ◌||◌, is_some, List, [], ◌∷◌, ◌++◌, map, find, Option, Some, None, refl, sym, ap, ◌∙◌, subst, true≢false}
use Rattle.std.specs.Prelude.{bytes_eq, option_and_then, if◌then◌else◌}
use Rattle.std.proofs.lemmas.Bool.{and_parts, or_from, or_parts, not-false}
use Rattle.rw_terms.specs.declared.scope.Entry.{Entry}
use Rattle.rw_terms.specs.declared.scope.Head.{Head}
use Rattle.rw_terms.specs.declared.scope.Kind.TheVariants as kind
use Rattle.rw_terms.specs.declared.term.Sort.{Sort}
use Rattle.rw_terms.specs.declared.term.Formula.TheVariants.{And}
use Rattle.rw_terms.specs.Scopes.{has_name}
use Rattle.rw_terms.specs.Sorts.{as_variable, as_constant, variable_sort}
use Rattle.rw_terms.specs.Validity.{Each}
use Rattle.rw_faults.specs.Initial.{is_listed, is_twice}
use Rattle.rw_faults.specs.Limits.{is_small}
use Rattle.rw_subst.specs.declared.slot.Form.{Form}
use Rattle.rw_subst.specs.declared.slot.Form.TheVariants as form
use Rattle.rw_programs.specs.declared.prog.Param.{Param}
use Rattle.rw_programs.specs.declared.prog.Spec.{Spec}
use Rattle.rw_programs.specs.declared.applied.Applied.{Applied}
use Rattle.rw_programs.specs.State.{Name, is_in, names_of}
use Rattle.rw_programs.specs.Refine.{is_value, is_value_entry}
use Rattle.rw_meaning.specs.Filling.{module_entries}
use Rattle.rw_meaning.proofs.Scopes.{Extends, extends}
use Rattle.rw_meaning.proofs.Tests.{bytes_same, other_bytes, same_bytes}
use Rattle.rw_soundness.specs.Sound.{IsReady}
use Rattle.rw_soundness.proofs.Binders.{small}
use Rattle.rw_soundness.proofs.Bits.{listed_in}
use Rattle.rw_soundness.proofs.Causes.{passes}
use Rattle.rw_soundness.proofs.Conditions.{and_fine}
use Rattle.rw_soundness.proofs.Longer.{ready_longer}
use Rattle.rw_soundness.proofs.Replaced.{form_sort}
use Rattle.rw_soundness.proofs.Unchanged.{keeps_wider, outside_more}
use Rattle.rw_heads.specs.declared.head.Module.{Module}
use Rattle.rw_modules.specs.Laws.{open_spec, are_new, open_law}
use Rattle.rw_simulation.proofs.Entered.{names_in}
use Rattle.rw_simulation.proofs.Lists.{in_left, in_none, of_joined}
use Rattle.rw_calls.specs.Sound.{IsFormedStart, BlockKidsAreReady}
use Rattle.rw_calls.proofs.BlockOfModule.{takes, no_value}
use Rattle.rw_calls.proofs.Tests.{fitting}

-- two lists of names that differ, with none in common
twice_joined : (xs ys : List Name) → is_twice xs ≡ false → is_twice ys ≡ false → ((x : Name) → is_in x xs ≡ true → is_in x ys ≡ false) → is_twice (xs ++ ys) ≡ false
twice_joined [] ys one other apart = other
twice_joined (x ∷ xs) ys one other apart =
    or_from (is_listed (xs ++ ys) x) (is_twice (xs ++ ys))
    (listed_in (xs ++ ys) x ∙ in_none xs ys x (sym (listed_in xs x) ∙ (or_parts (is_listed xs x) (is_twice xs) one).0) (apart x (ap (λ b. b || is_in x xs) (bytes_same x x refl))))
    (twice_joined xs ys (or_parts (is_listed xs x) (is_twice xs) one).1 other (λ y i. apart y (later (bytes_eq y x) (is_in y xs) i)))
  where
    later : (a b : Bool) → b ≡ true → (a || b) ≡ true
    later true b e = refl
    later false b e = e

-- names of a module are variables
are_variables : (ps : List Param) (x : Name) → is_in x (names_of ps) ≡ true → is_some (variable_sort (module_entries ps) x) ≡ true
are_variables [] x i = absurd (true≢false (sym i))
are_variables (p ∷ ps) x i = go (bytes_eq x p.name) refl (bytes_eq p.name x) refl i (are_variables ps x)
  where
    go : (a : Bool) → bytes_eq x p.name ≡ a → (b : Bool) → bytes_eq p.name x ≡ b → (a || is_in x (names_of ps)) ≡ true → (is_in x (names_of ps) ≡ true → is_some (variable_sort (module_entries ps) x) ≡ true)
        → is_some (variable_sort (module_entries (p ∷ ps)) x) ≡ true
    go a e true k i ih = rw k refl
    go true e false k i ih = absurd (true≢false (sym (bytes_same p.name x (sym (same_bytes x p.name e))) ∙ k))
    go false e false k i ih = rw k (ih i)

-- a name that is not found has no sort
unsorted : (scope : List Entry) (g : Form) (x : Name) → find (has_name x) scope ≡ None → form_sort scope g x ≡ None
unsorted scope form.Variable x none = ap (λ (o : Option Entry). option_and_then (λ e. as_variable e.kind e.sort) o) none
unsorted scope form.Initial x none = ap (λ (o : Option Entry). option_and_then (λ e. as_variable e.kind e.sort) o) none
unsorted scope form.Constant x none = ap (λ (o : Option Entry). option_and_then (λ e. as_constant e.kind e.sort) o) none

-- a name has a sort by what is found
sorted_alike : (scope more : List Entry) (g : Form) (x : Name) → find (has_name x) scope ≡ find (has_name x) more → form_sort scope g x ≡ form_sort more g x
sorted_alike scope more form.Variable x e = ap (λ (o : Option Entry). option_and_then (λ e. as_variable e.kind e.sort) o) e
sorted_alike scope more form.Initial x e = ap (λ (o : Option Entry). option_and_then (λ e. as_variable e.kind e.sort) o) e
sorted_alike scope more form.Constant x e = ap (λ (o : Option Entry). option_and_then (λ e. as_constant e.kind e.sort) o) e

unfound : (ps : List Param) (x : Name) → is_in x (names_of ps) ≡ false → find (has_name x) (module_entries ps) ≡ None
unfound [] x h = refl
unfound (p ∷ ps) x h =
    ap (λ b. if b then Some (record { name = p.name; sort = p.sort; kind = kind.Module }) else find (has_name x) (module_entries ps)) (other_bytes x p.name (or_parts (bytes_eq x p.name) (is_in x (names_of ps)) h).0)
    ∙ unfound ps x (or_parts (bytes_eq x p.name) (is_in x (names_of ps)) h).1

module _ (scope : List Entry) (heads : List Head) (w : Spec) (m : Module) (ready : IsReady scope heads w) (formed : IsFormedStart heads m) (new : are_new scope m ≡ true) (within : is_small (And w.pre m.start) ≡ true) where
  abbrev A : List Name
  A = names_of m.state

  abbrev inner : List Entry
  inner = scope ++ module_entries m.state

  ext : Extends scope (module_entries m.state) inner
  ext = extends scope (module_entries m.state) inner (takes scope m.state new formed.differ)

  is_entry : (x : Name) → is_in x A ≡ true → is_in x (map (λ e. e.name) (module_entries m.state)) ≡ true
  is_entry x i = ap (is_in x) (names_in kind.Module m.state) ∙ i

  longer : IsReady inner heads w
  longer = ready_longer scope (module_entries m.state) heads w ready

  -- a name of the frame is in scope, and so none of the module
  frame_apart : (x : Name) → is_in x w.frame ≡ true → is_in x A ≡ false
  frame_apart x i = go (is_in x A) refl
    where
      go : (b : Bool) → is_in x A ≡ b → is_in x A ≡ false
      go true j = absurd (true≢false (sym (ready.variables x i) ∙ ap is_some (unsorted scope form.Variable x (ext.new x (is_entry x j)).1)))
      go false j = j

  wider : (g : Form) (x : Name) (s : Sort) → form_sort (module_entries m.state) g x ≡ Some s → form_sort inner g x ≡ Some s
  wider g x s h = go (is_in x A) refl
    where
      some_none : None ≡ Some s → ⊥
      some_none q = absurd (cc)

      go : (b : Bool) → is_in x A ≡ b → form_sort inner g x ≡ Some s
      go true j = sorted_alike inner (module_entries m.state) g x (ext.new x (is_entry x j)).0 ∙ h
      go false j = absurd (some_none (sym (unsorted (module_entries m.state) g x (unfound m.state x j)) ∙ h))

  open_ready : IsReady inner heads (open_spec w m)
  open_ready =
      let both = and_fine inner heads [] w.pre m.start (longer.pre.1, ready.no_initial) (keeps_wider (module_entries m.state) inner heads m.start wider formed.start.1, formed.initial) in record {
        pre = (small (And w.pre m.start) within, both.0);
        post = longer.post;
        variables = λ x i. of_joined (is_some (variable_sort inner x) ≡ true) w.frame A x (longer.variables x)
            (λ j. ap is_some (sorted_alike inner (module_entries m.state) form.Variable x (ext.new x (is_entry x j)).0) ∙ are_variables m.state x j) i;
        no_values = λ x i. of_joined (is_value inner x ≡ false) w.frame A x (longer.no_values x) (λ j. ap is_value_entry (ext.new x (is_entry x j)).0 ∙ no_value m.state x) i;
        differ = twice_joined w.frame A ready.differ formed.differ frame_apart;
        no_initial = both.1;
        initial = outside_more w.frame (w.frame ++ A) w.post (λ x h. listed_in (w.frame ++ A) x ∙ in_left w.frame A x (sym (listed_in w.frame x) ∙ h)) ready.initial;
      }

pub block_kids_are_ready : BlockKidsAreReady
unfolding open_law
block_kids_are_ready context heads w name m place a ready formed law =
    let f = fitting _ _ _ _ _ _ law in
    let new = not-false _ (passes _ _ _ f.no_cause).0 in
    subst (λ (b : Applied). Each (λ c. IsReady c.context.scope heads c.spec) b.children) (sym f.makes) (open_ready context.scope heads w m ready formed new (and_parts _ _ f.is_small).0, tt)
