-- The bodies of code that fits leave their results, and main its globals.
use Rattle.std.proofs.Common.{◌≡◌, refl, sym, ap, subst, ◌∙◌, ℕ, suc, Bool, true, false, true≢false, ◌&&◌, ◌||◌, if◌then◌else◌, List, [], ◌∷◌, ◌++◌, map, find, length, Option, Some, None}
use Rattle.std.specs.Prelude.{nat_lt, nat_eq, bytes_eq, is_some}
use Rattle.std.proofs.lemmas.Bool.Decides.{Decides-eqb}
use Rattle.rw_terms.specs.declared.scope.Entry.{Entry}
use Rattle.rw_terms.specs.declared.scope.Kind.{Kind}
use Rattle.rw_terms.specs.declared.scope.Kind.TheVariants as kind
use Rattle.rw_terms.specs.declared.term.Sort.{Sort}
use Rattle.rw_terms.specs.Scopes.{has_name}
use Rattle.rw_terms.specs.Sorts.{variable_sort}
use Rattle.rw_terms.specs.Rules.{sort_in, is_of, are_of}
use Rattle.rw_terms.specs.State.{Value}
use Rattle.rw_terms.specs.Validity.{Each}
use Rattle.rw_programs.specs.declared.prog.Param.{Param}
use Rattle.rw_programs.specs.declared.prog.ProcCode.{ProcCode}
use Rattle.rw_programs.specs.declared.prog.Code.{Code}
use Rattle.rw_programs.specs.declared.prog.Prog.{Prog, Spec, Kid, Skip, Assign, If', Do', Call, OpCall, Row_of-Arm, end_of-Arm, more_of-Arm}
use Rattle.rw_programs.specs.Made.{Seq, Block, Con, ModBlock}
use Rattle.rw_programs.specs.State.{Name, empty, is_in, names_of, ValuesFor}
use Rattle.rw_programs.specs.Tables.{find_proc, find_module}
use Rattle.rw_programs.specs.Scoped.{with_local, with_entries, with_module, if_some, no_names, row_scoped, is_scoped, each_set}
use Rattle.rw_meaning.proofs.Tests.{same_bytes, bytes_same}
use Rattle.rw_meaning.proofs.Scopes.{with_is}
use Rattle.rw_meaning.proofs.Entering.{local_entry}
use Rattle.rw_meaning.proofs.Ending.{some_tested}
use Rattle.rw_evaluation.proofs.Evaluations.{both_true}
use Rattle.rw_machine.specs.CodeFits.{differ, takes, calls_fit, row_calls_fit, entries_as, body_scope, ModuleFits, CodeFits}
use Rattle.rw_evaluation.specs.Stored.{all_meant}
use Rattle.rw_machine.specs.Outcome.{first, start_of}
use Rattle.rw_machine.specs.Runs.{EndsHaveValues}
use Rattle.rw_machine.proofs.Leaving.{AllThere, set_has, Leaves, ArmsLeave, BodiesLeave, ended_pays}

-- the names are names of the scope
abbrev Among : List Name → List Entry → Type 0
Among xs scope = (x : Name) → is_in x xs ≡ true → is_some (find (has_name x) scope) ≡ true

found_on : (x : Name) (scope more : List Entry) → is_some (find (has_name x) scope) ≡ true → is_some (find (has_name x) (scope ++ more)) ≡ true
found_on x [] more e = absurd (true≢false (sym e))
found_on x (a ∷ scope) more e = go (has_name x a) e (found_on x scope more)
  where
    go : (b : Bool) → is_some (if b then Some a else find (has_name x) scope) ≡ true → (is_some (find (has_name x) scope) ≡ true → is_some (find (has_name x) (scope ++ more)) ≡ true)
        → is_some (if b then Some a else find (has_name x) (scope ++ more)) ≡ true
    go true e f = refl
    go false e f = f e

found_behind : (x : Name) (scope more : List Entry) → is_some (find (has_name x) more) ≡ true → is_some (find (has_name x) (scope ++ more)) ≡ true
found_behind x [] more e = e
found_behind x (a ∷ scope) more e = go (has_name x a) (found_behind x scope more e)
  where
    go : (b : Bool) → is_some (find (has_name x) (scope ++ more)) ≡ true → is_some (if b then Some a else find (has_name x) (scope ++ more)) ≡ true
    go true h = refl
    go false h = h

-- parameters are among the entries of a scope that they make
params_among : (k : Kind) (ps : List Param) → Among (names_of ps) (entries_as k ps)
params_among k [] x i = absurd (true≢false (sym i))
params_among k (p ∷ ps) x i = go (bytes_eq x p.name) refl i (params_among k ps x)
  where
    e : Entry
    e = record { name = p.name; sort = p.sort; kind = k }

    go : (b : Bool) → bytes_eq x p.name ≡ b → (b || is_in x (names_of ps)) ≡ true → (is_in x (names_of ps) ≡ true → is_some (find (has_name x) (entries_as k ps)) ≡ true)
        → is_some (find (has_name x) (e ∷ entries_as k ps)) ≡ true
    go true j i f = ap (λ b. is_some (if b then Some e else find (has_name x) (entries_as k ps))) (bytes_same p.name x (sym (same_bytes x p.name j)))
    go false j i f = skip (has_name x e) (f i)
      where
        skip : (b : Bool) → is_some (find (has_name x) (entries_as k ps)) ≡ true → is_some (if b then Some e else find (has_name x) (entries_as k ps)) ≡ true
        skip true h = refl
        skip false h = h

-- a new name is not one of the names
new_out : (xs : List Name) (scope : List Entry) (x : Name) → Among xs scope → find (has_name x) scope ≡ None → is_in x xs ≡ false
new_out xs scope x a none = go (is_in x xs) refl
  where
    go : (b : Bool) → is_in x xs ≡ b → is_in x xs ≡ false
    go true i = absurd (true≢false (sym (a x i) ∙ ap is_some none))
    go false i = i

as_many : (xs : List Param) (f : Name → Option Sort) (names : List Name) → are_of (map (λ p. p.sort) xs) (map f names) ≡ true → length names ≡ length xs
as_many [] f [] e = refl
as_many [] f (n ∷ names) e = absurd (true≢false (sym e))
as_many (p ∷ xs) f [] e = absurd (true≢false (sym e))
as_many (p ∷ xs) f (n ∷ names) e = ap suc (as_many xs f names (both_true (is_of p.sort (f n)) (are_of (map (λ p. p.sort) xs) (map f names)) e).1)

if_some_is : {A : Type 0} (test : A → Bool) (o : Option A) → if_some test o ≡ true → (a : A) → o ≡ Some a → test a ≡ true
if_some_is test None e a i = absurd (true≢false (sym e))
if_some_is test (Some x) e a i = let j : x ≡ a = cc in subst (λ x. test x ≡ true) j e

-- what holds of each holds of the one that is found
each_found : {A : Type 0} (P : A → Type 0) (test : A → Bool) (xs : List A) → Each P xs → (a : A) → find test xs ≡ Some a → P a
each_found P test [] h a e = absurd (cc)
each_found P test (x ∷ xs) h a e = go (test x) e (each_found P test xs h.1 a)
  where
    go : (b : Bool) → (if b then Some x else find test xs) ≡ Some a → (find test xs ≡ Some a → P a) → P a
    go true e more = let i : x ≡ a = cc in subst P i h.0
    go false e more = more e

module _ (code : Code) (xs : List Name) where
  takes_many : (scope : List Entry) (args : List _) (names : List Name) (e : ProcCode) → takes scope args names e ≡ true → length names ≡ length e.results
  takes_many scope args names e h =
      as_many e.results (variable_sort scope) names (both_true (are_of (map (λ p. p.sort) e.results) (map (variable_sort scope) names)) (differ names)
      (both_true (are_of (map (λ p. p.sort) e.values) (map (sort_in scope []) args)) _ h).1).0

  mutual
    leaves : (p : ℕ) (opened : List Name) (scope : List Entry) (c : Prog) → Among xs scope → is_scoped opened scope c ≡ true → calls_fit code p scope c ≡ true → Leaves code xs c
    leaves p opened scope (Spec w) a s f = tt
    leaves p opened scope (Kid n) a s f = tt
    leaves p opened scope Skip a s f = tt
    leaves p opened scope (Assign names terms) a s f = (Decides-eqb (length names) (length terms)).0 (both_true (nat_eq (length names) (length terms)) (each_set scope names terms) s).0
    leaves p opened scope (Seq c d) a s f =
        let i = both_true (is_scoped opened scope c) (is_scoped opened scope d) s in
        let j = both_true (calls_fit code p scope c) (calls_fit code p scope d) f in
        (leaves p opened scope c a i.0 j.0, leaves p opened scope d a i.1 j.1)
    leaves p opened scope (If' shape arms) a s f = arms_leave p opened scope arms a s f
    leaves p opened scope (Do' v shape arms) a s f = arms_leave p opened scope arms a (both_true _ (row_scoped no_names opened scope arms) s).1 f
    leaves p opened scope (Block x sort c) a s f =
        let r = some_tested (λ inner. is_scoped opened inner c) (with_local scope x sort) s in
        let w = with_is scope (record { name = x; sort = sort; kind = kind.Local }) r.0 (local_entry scope x sort r.0 r.1) in (
          new_out xs scope x a w.0,
          leaves p opened r.0 c (λ y i. subst (λ inner. is_some (find (has_name y) inner) ≡ true) w.1 (found_on y scope _ (a y i))) r.2
              (if_some_is (λ inner. calls_fit code p inner c) (with_local scope x sort) f r.0 r.1),
        )
    leaves p opened scope (Con pins c) a s f = tt
    leaves p opened scope (Call g args names) a s f = λ e i.
        takes_many scope args names e (both_true (nat_lt e.place p) (takes scope args names e) (if_some_is _ (find_proc g code.procs) f e i)).1
    leaves p opened scope (OpCall m o args names) a s f = λ d i e j.
        takes_many scope args names e (if_some_is _ (find_proc o d.operations) (both_true (nat_lt d.place p) (if_some (takes scope args names) (find_proc o d.operations)) (if_some_is _ (find_module m code.modules) f d i)).1 e j)
    leaves p opened scope (ModBlock m c) a s f =
        let q = some_tested (λ outside. if_some (λ inner. is_scoped outside inner c) (with_entries scope (no_names m))) (with_module opened m) s in
        leaves p q.0 scope c a q.2 (both_true _ (calls_fit code p scope c) f).1

    arms_leave : {m : _} (p : ℕ) (opened : List Name) (scope : List Entry) (arms : Row_of-Arm m) → Among xs scope → row_scoped no_names opened scope arms ≡ true → row_calls_fit code p scope arms ≡ true → ArmsLeave code xs arms
    arms_leave p opened scope end_of-Arm a s f = tt
    arms_leave p opened scope (more_of-Arm g c rest) a s f =
        let i = both_true (is_scoped opened scope c) (row_scoped no_names opened scope rest) (both_true _ (is_scoped opened scope c && row_scoped no_names opened scope rest) s).1 in
        let j = both_true (calls_fit code p scope c) (row_calls_fit code p scope rest) f in
        (leaves p opened scope c a i.0 j.0, arms_leave p opened scope rest a i.1 j.1)

-- results are among what a body is over
results_among : (held : List Param) (e : ProcCode) → Among (names_of e.results) (body_scope held e)
results_among held e x i =
    found_behind x (entries_as kind.Local held) _ (found_behind x (entries_as kind.Value e.values) (entries_as kind.Outcome e.results) (params_among kind.Outcome e.results x i))

pub bodies_leave : (code : Code) (globals : List Param) → CodeFits code globals → BodiesLeave code
bodies_leave code globals fits = record {
  procs = λ f e i. let b = each_found _ (λ e. bytes_eq e.name f) code.procs fits.procs e i in leaves code (names_of e.results) e.place [] (body_scope [] e) e.body (results_among [] e) b.scoped b.calls;
  starts = λ m d i. let b = (each_found (ModuleFits code) (λ d. bytes_eq d.name m) code.modules fits.modules d i).start in
      leaves code [] d.place [] (entries_as kind.Local d.state) d.start (λ x j. absurd (true≢false (sym j))) b.scoped b.calls;
  operations = λ m d i o e j. let b = each_found _ (λ e. bytes_eq e.name o) d.operations (each_found (ModuleFits code) (λ d. bytes_eq d.name m) code.modules fits.modules d i).operations e j in
      leaves code (names_of e.results) d.place [] (body_scope d.state e) e.body (results_among d.state e) b.scoped b.calls;
}

pub main_leaves : (code : Code) (globals : List Param) → CodeFits code globals → Leaves code (names_of globals) code.main
main_leaves code globals fits = leaves code (names_of globals) _ [] (entries_as kind.Global globals) code.main (params_among kind.Global globals) fits.main.scoped fits.main.calls

values_for : (ps : List Param) (vs : List (Option Value)) → ValuesFor ps vs → (length (names_of ps) ≡ length vs) × AllThere vs
values_for [] [] h = (refl, tt)
values_for [] (v ∷ vs) h = absurd h
values_for (p ∷ ps) [] h = absurd h
values_for (p ∷ ps) (None ∷ vs) h = absurd h
values_for (p ∷ ps) (Some v ∷ vs) h = let r = values_for ps vs h.1 in (ap suc r.0, r.1)

pub ends_have_values : EndsHaveValues
ends_have_values code globals fits vs start n c e over =
    let v = values_for globals (all_meant vs) start in
    ended_pays code (names_of globals) (bodies_leave code globals fits) n (first code (start_of globals vs)) c
    (record { names = names_of globals ∷ []; owed = (main_leaves code globals fits, refl); have = (set_has (names_of globals) (all_meant vs) empty v.0 v.1, tt) }) e over
