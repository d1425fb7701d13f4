-- What a call without a cause against it says of its lists.
use Rattle.std.proofs.Common.{◌≡◌, ℕ, suc, Bool, true, false, length, List, [], ◌∷◌, map, Option, Some, None, refl, sym, ap, ◌∙◌, true≢false}
use Rattle.std.specs.Prelude.{not, nat_eq, is_some, is_none, ◌&&◌, ◌||◌}
use Rattle.std.proofs.lemmas.Bool.{and_parts, or_parts, or_right, not-false, eqb-true}
use Rattle.std.proofs.lemmas.List.{length-map}
use Rattle.rw_terms.specs.declared.term.Term.{Term}
use Rattle.rw_terms.specs.declared.scope.Entry.{Entry}
use Rattle.rw_terms.specs.Sorts.{variable_sort}
use Rattle.rw_terms.specs.Rules.{is_of}
use Rattle.rw_faults.specs.declared.faults.Checked.{Checked}
use Rattle.rw_faults.specs.Faults.{checked, fit_in, any_bad, each_fits, unknown_in_term, first_of_names}
use Rattle.rw_faults.specs.Initial.{terms_outside}
use Rattle.rw_programs.specs.declared.prog.Param.{Param}
use Rattle.rw_programs.specs.declared.applied.Misfit.{Misfit}
use Rattle.rw_programs.specs.declared.applied.Misfit.TheVariants as cause
use Rattle.rw_programs.specs.State.{Name}
use Rattle.rw_derived.specs.Causes.{cause_if, each_is, is_assignable, are_code_terms}
use Rattle.rw_procs.specs.Causes.{Callee, wrong_args, wrong_names, wrong_results, call_cause}

-- where no cause is there, none of the first four tests holds
fourth : (a b c d : Bool) (l m n o : Misfit) (behind : Option Misfit) → cause_if a l (cause_if b m (cause_if c n (cause_if d o behind))) ≡ None → d ≡ false
fourth true b c d l m n o behind e = absurd (cc)
fourth false true c d l m n o behind e = absurd (cc)
fourth false false true d l m n o behind e = absurd (cc)
fourth false false false true l m n o behind e = absurd (cc)
fourth false false false false l m n o behind e = refl

-- arguments that are not wrong are as many as the values
pub args_long : (scope : List Entry) (c : Callee) (args : List Term) → wrong_args scope (Some c) args ≡ false → length c.values ≡ length args
args_long scope c args e =
    let sorts = map (λ p. p.sort) c.values in
    let given = map (checked scope []) args in
    let fits = not-false _ (or_parts (not (fit_in sorts given)) (any_bad given) e).0 in
    sym (length-map c.values (λ p. p.sort)) ∙ eqb-true _ _ (and_parts (nat_eq (length sorts) (length given)) (each_fits sorts given) fits).0 ∙ length-map args (checked scope [])

-- names that are not wrong are as many as the results
pub names_long : (scope : List Entry) (ps : List Param) (names : List Name) → wrong_names scope ps names ≡ false → length ps ≡ length names
names_long scope [] [] e = refl
names_long scope [] (x ∷ names) e = absurd (true≢false e)
names_long scope (p ∷ ps) [] e = absurd (true≢false e)
names_long scope (p ∷ ps) (x ∷ names) e = ap suc (names_long scope ps names (or_parts (not (is_of p.sort (variable_sort scope x))) _ e).1)

pub not_as_many : (scope : List Entry) (ps : List Param) (names : List Name) → (length ps ≡ length names → ⊥) → wrong_names scope ps names ≡ true
not_as_many scope [] [] n = absurd (n refl)
not_as_many scope [] (x ∷ names) n = refl
not_as_many scope (p ∷ ps) [] n = refl
not_as_many scope (p ∷ ps) (x ∷ names) n = or_right (not (is_of p.sort (variable_sort scope x))) _ (not_as_many scope ps names (λ e. n (ap suc e)))

-- so a call without a cause has as many arguments as values, and as many names as results
pub call_long : (scope : List Entry) (frame : List Name) (c : Callee) (args : List Term) (names : List Name) → call_cause scope frame (Some c) args names ≡ None
    → (length c.values ≡ length args) × (length c.results ≡ length names)
unfolding call_cause
call_long scope frame c args names e =
    let four = fourth (terms_outside [] args) (not (are_code_terms scope args)) (not (each_is (is_assignable scope frame) names)) (wrong_args scope (Some c) args || wrong_results scope (Some c) names)
    cause.InitialNotAllowed cause.NotCode cause.NotInFrame cause.Sort (cause_if (is_none (Some c) || is_some (first_of_names (map (unknown_in_term scope) args))) cause.Unknown None) e in
    let right = or_parts (wrong_args scope (Some c) args) (wrong_results scope (Some c) names) four in
    (args_long scope c args right.0, names_long scope c.results names right.1)
