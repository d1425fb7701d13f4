-- The tests decide what is asked of a run.
use Rattle.std.proofs.Common.{◌≡◌, refl, sym, ap, ◌∙◌, ℕ, suc, Bool, true, false, true≢false, ◌&&◌, List, [], ◌∷◌, map, length}
use Rattle.std.specs.Prelude.{Option, Result, Ok, Err, IfOk}
use Rattle.std.proofs.lemmas.List.{length-map}
use Rattle.rw_terms.specs.Rules.{is_of, are_of}
use Rattle.std.proofs.lemmas.Bool.{and_parts, and_from, eqb-true, eq-eqb}
use Rattle.rw_terms.specs.declared.scope.Entry.{Entry}
use Rattle.rw_terms.specs.declared.scope.Kind.TheVariants as kind
use Rattle.rw_terms.specs.declared.term.Sort.{Sort}
use Rattle.rw_terms.specs.declared.term.Sort.TheVariants.{Int, Array}
use Rattle.rw_terms.specs.State.{HasSort}
use Rattle.rw_terms.specs.Validity.{Each}
use Rattle.rw_programs.specs.declared.prog.Param.{Param}
use Rattle.rw_programs.specs.declared.prog.ProcCode.{ProcCode}
use Rattle.rw_programs.specs.declared.prog.ModCode.{ModCode}
use Rattle.rw_programs.specs.declared.prog.Code.{Code}
use Rattle.rw_programs.specs.declared.prog.Prog.{Prog}
use Rattle.rw_evaluation.specs.declared.value.Value.{Value as RunValue}
use Rattle.rw_evaluation.specs.declared.value.Value.TheVariants as run_value
use Rattle.rw_evaluation.specs.Stored.{meant}
use Rattle.rw_machine.specs.CodeFits.{entries_as, body_scope, main_place, BodyFits, ModuleFits, CodeFits, StartFits}
use Rattle.rw_fits.specs.Fits.{body_fits, procs_fit, operations_fit, module_fits, modules_fit, code_fits, value_fits, values_fit}

-- the test holds exactly where the fact does
abbrev pub Tests : Bool → Type 0 → Type 0
Tests b P = (b ≡ true → P) × (P → b ≡ true)

body_tests : (code : Code) (p : ℕ) (scope : List Entry) (c : Prog) → Tests (body_fits code p scope c) (BodyFits code p scope c)
body_tests code p scope c = (
  λ e. let a = and_parts _ _ e in let b = and_parts _ _ a.1 in let d = and_parts _ _ b.1 in record { names = a.0; coded = b.0; scoped = d.0; calls = d.1 },
  λ h. and_from _ _ h.names (and_from _ _ h.coded (and_from _ _ h.scoped h.calls)),
)

procs_test : (code : Code) (es : List ProcCode) → Tests (procs_fit code es) (Each (λ e. BodyFits code e.place (body_scope [] e) e.body) es)
procs_test code [] = (λ e. tt, λ h. refl)
procs_test code (e ∷ es) =
    let one = body_tests code e.place (body_scope [] e) e.body in
    let rest = procs_test code es in
    (λ i. let a = and_parts _ _ i in (one.0 a.0, rest.0 a.1), λ h. and_from _ _ (one.1 h.0) (rest.1 h.1))

operations_test : (code : Code) (d : ModCode) (es : List ProcCode) → Tests (operations_fit code d es) (Each (λ e. BodyFits code d.place (body_scope d.state e) e.body) es)
operations_test code d [] = (λ e. tt, λ h. refl)
operations_test code d (e ∷ es) =
    let one = body_tests code d.place (body_scope d.state e) e.body in
    let rest = operations_test code d es in
    (λ i. let a = and_parts _ _ i in (one.0 a.0, rest.0 a.1), λ h. and_from _ _ (one.1 h.0) (rest.1 h.1))

module_tests : (code : Code) (d : ModCode) → Tests (module_fits code d) (ModuleFits code d)
module_tests code d =
    let start = body_tests code d.place (entries_as kind.Local d.state) d.start in
    let operations = operations_test code d d.operations in (
      λ e. let a = and_parts _ _ e in let b = and_parts _ _ a.1 in record { names = a.0; start = start.0 b.0; operations = operations.0 b.1 },
      λ h. and_from _ _ h.names (and_from _ _ (start.1 h.start) (operations.1 h.operations)),
    )

modules_test : (code : Code) (ds : List ModCode) → Tests (modules_fit code ds) (Each (ModuleFits code) ds)
modules_test code [] = (λ e. tt, λ h. refl)
modules_test code (d ∷ ds) =
    let one = module_tests code d in
    let rest = modules_test code ds in
    (λ i. let a = and_parts _ _ i in (one.0 a.0, rest.0 a.1), λ h. and_from _ _ (one.1 h.0) (rest.1 h.1))

pub code_tests : (code : Code) (globals : List Param) → Tests (code_fits code globals) (CodeFits code globals)
code_tests code globals =
    let main = body_tests code main_place (entries_as kind.Global globals) code.main in
    let procs = procs_test code code.procs in
    let modules = modules_test code code.modules in (
      λ e.
          let a = and_parts _ _ e in
          let differ = and_parts _ _ a.0 in
          let b = and_parts _ _ a.1 in
          let d = and_parts _ _ b.1 in
          record { names = differ.0; places = differ.1; main = main.0 b.0; procs = procs.0 d.0; modules = modules.0 d.1 },
      λ h. and_from _ _ (and_from _ _ h.names h.places) (and_from _ _ (main.1 h.main) (and_from _ _ (procs.1 h.procs) (modules.1 h.modules))),
    )

value_tests : (v : RunValue) (sort : Sort) → Tests (value_fits v sort) (HasSort (meant v) sort)
value_tests (run_value.Int z) Int = (λ e. tt, λ h. refl)
value_tests (run_value.Int z) (Array n) = (λ e. absurd (true≢false (sym e)), λ h. absurd h)
value_tests (run_value.List l) Int = (λ e. absurd (true≢false (sym e)), λ h. absurd h)
value_tests (run_value.List l) (Array n) = (λ e. eqb-true (length l) n e, λ h. eq-eqb (length l) n h)

pub start_tests : (ps : List Param) (vs : List RunValue) → Tests (values_fit ps vs) (StartFits ps vs)
start_tests [] [] = (λ e. tt, λ h. refl)
start_tests [] (v ∷ vs) = (λ e. absurd (true≢false (sym e)), λ h. absurd h)
start_tests (p ∷ ps) [] = (λ e. absurd (true≢false (sym e)), λ h. absurd h)
start_tests (p ∷ ps) (v ∷ vs) =
    let one = value_tests v p.sort in
    let rest = start_tests ps vs in
    (λ i. let a = and_parts _ _ i in (one.0 a.0, rest.0 a.1), λ h. and_from _ _ (one.1 h.0) (rest.1 h.1))

-- what equals a test is one
pub decided : {E : Type 0} {b : Bool} {P : Type 0} (r : Result Bool E) → Tests b P → IfOk r (λ x. x ≡ b) → IfOk r (λ x. (x ≡ true → P) × (P → x ≡ true))
decided (Ok x) t e = (λ i. t.0 (sym e ∙ i), λ h. e ∙ t.1 h)
decided (Err w) t e = tt

-- lists of other lengths do not fit
pub values_unlike : (ps : List Param) (vs : List RunValue) → (length ps ≡ length vs → ⊥) → false ≡ values_fit ps vs
values_unlike [] [] n = absurd (n refl)
values_unlike [] (v ∷ vs) n = refl
values_unlike (p ∷ ps) [] n = refl
values_unlike (p ∷ ps) (v ∷ vs) n = go (value_fits v p.sort) (values_unlike ps vs (λ e. n (ap suc e)))
  where
    go : (b : Bool) → false ≡ values_fit ps vs → false ≡ (b && values_fit ps vs)
    go true h = h
    go false h = refl

sorts_unlike : (ss : List Sort) (os : List (Option Sort)) → (length ss ≡ length os → ⊥) → false ≡ are_of ss os
sorts_unlike [] [] n = absurd (n refl)
sorts_unlike [] (o ∷ os) n = refl
sorts_unlike (s ∷ ss) [] n = refl
sorts_unlike (s ∷ ss) (o ∷ os) n = go (is_of s o) (sorts_unlike ss os (λ e. n (ap suc e)))
  where
    go : (b : Bool) → false ≡ are_of ss os → false ≡ (b && are_of ss os)
    go true h = h
    go false h = refl

pub params_unlike : {A : Type 0} (f : A → Option Sort) (ps : List Param) (xs : List A) → (length ps ≡ length xs → ⊥) → false ≡ are_of (map (λ p. p.sort) ps) (map f xs)
params_unlike f ps xs n = sorts_unlike (map (λ p. p.sort) ps) (map f xs) (λ e. n (sym (length-map ps (λ p. p.sort)) ∙ e ∙ length-map xs f))
