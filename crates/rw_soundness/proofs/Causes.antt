-- What is known where no cause is found.
use Rattle.std.proofs.Common.{◌≡◌, ℕ, Bool, true, false, is_some, length, List, [], map, Option, Some, None, refl, true≢false}
use Rattle.std.proofs.lemmas.Bool.{eqb-true, not-false}
use Rattle.rw_terms.specs.declared.scope.Entry.{Entry}
use Rattle.rw_terms.specs.declared.scope.Head.{Head}
use Rattle.rw_terms.specs.declared.term.Term.{Term}
use Rattle.rw_terms.specs.declared.term.Formula.{Formula}
use Rattle.rw_faults.specs.Faults.{unknown_in, unknown_in_term, first_of_names, checked}
use Rattle.rw_faults.specs.Initial.{is_listed, term_outside, terms_outside, initial_outside}
use Rattle.rw_faults.proofs.Apart.{faults_apart}
use Rattle.rw_terms.specs.Scopes.{is_fresh}
use Rattle.rw_terms.specs.Rules.{keeps_rules}
use Rattle.rw_programs.specs.declared.prog.Spec.{Spec}
use Rattle.rw_programs.specs.declared.prog.Prog.{Prog}
use Rattle.rw_programs.specs.declared.applied.Applied.{Applied}
use Rattle.rw_programs.specs.declared.applied.Misfit.{Misfit}
use Rattle.rw_laws.specs.declared.premises.Premises.{Premises}
use Rattle.rw_derived.specs.Derived.{with_constants}
use Rattle.rw_derived.specs.Causes.{cause_if, each_is, formula_cause, new_cause, seq_cause, is_assignable, any_ill_set, assign_cause, are_fresh, seqcon_cause, con_cause, contract_cause, is_kind, is_fixed_kind, expand_cause}
use Rattle.std.specs.List.{list_any}
use Rattle.rw_laws.specs.Laws.{fits, applied, law_with}

-- what a law that fits says of its tests
pub record Fitting (first : Option Misfit) (small twice : Bool) (s : Prog) (p : Premises) (a : Applied) : Type 0 where
  pub no_cause : first ≡ None
  pub is_small : small ≡ true
  pub once : twice ≡ false
  pub makes : a ≡ applied s p

pub fitting : (first : Option Misfit) (small twice : Bool) (s : Prog) (p : Premises) (a : Applied) → law_with first small twice s p ≡ fits a → Fitting first small twice s p a
fitting (Some m) small twice s p a e = absurd (cc)
fitting None false twice s p a e = absurd (cc)
fitting None true true s p a e = absurd (cc)
fitting None true false s p a e = record { no_cause = refl; is_small = refl; once = refl; makes = cc }

-- a test that is not the cause, and what is behind it
pub passes : (b : Bool) (m : Misfit) (behind : Option Misfit) → cause_if b m behind ≡ None → (b ≡ false) × (behind ≡ None)
passes true m behind e = absurd (cc)
passes false m behind e = (refl, e)

pub none : (A : Type 0) (o : Option A) → is_some o ≡ false → o ≡ None
none A None e = refl
none A (Some a) e = absurd (true≢false e)

-- a formula without a cause keeps the rules
pub formula_kept : (scope : List Entry) (heads : List Head) (f : Formula) → formula_cause scope heads f ≡ None → keeps_rules scope heads f [] ≡ true
unfolding formula_cause
formula_kept scope heads f e =
    let sorted = passes _ _ _ e in let known = passes _ _ _ sorted.1 in
    (faults_apart scope heads f []).1 (none (List ℕ) (unknown_in scope heads f) known.0, sorted.0)

pub new_tests : (scope : List Entry) (heads : List Head) (names : List (List ℕ)) (f : Formula) → new_cause scope heads names f ≡ None → (initial_outside names f ≡ false) × (keeps_rules scope heads f [] ≡ true)
unfolding new_cause
new_tests scope heads names f e = let first = passes _ _ _ e in (first.0, formula_kept scope heads f first.1)

pub seq_tests : (scope : List Entry) (heads : List Head) (w : Spec) (f : Formula) → seq_cause scope heads w f ≡ None → (initial_outside [] w.post ≡ false) × (initial_outside [] f ≡ false)
unfolding seq_cause
seq_tests scope heads w f e = let first = passes _ _ _ e in (first.0, (new_tests scope heads [] f first.1).0)

-- what is known of the formula between the parts
pub seq_new : (scope : List Entry) (heads : List Head) (w : Spec) (f : Formula) → seq_cause scope heads w f ≡ None → new_cause scope heads [] f ≡ None
unfolding seq_cause
seq_new scope heads w f e = (passes _ _ _ e).1

pub seq_formula : (scope : List Entry) (heads : List Head) (w : Spec) (f : Formula) → seq_cause scope heads w f ≡ None → (initial_outside [] f ≡ false) × (keeps_rules scope heads f [] ≡ true)
seq_formula scope heads w f e = new_tests scope heads [] f (seq_new scope heads w f e)

pub record Assigning (scope : List Entry) (w : Spec) (names : List (List ℕ)) (terms : List Term) : Type 0 where
  pub long : length names ≡ length terms
  pub no_initial : terms_outside [] terms ≡ false
  pub in_frame : each_is (is_assignable scope w.frame) names ≡ true
  pub sorted : any_ill_set scope names terms ≡ false
  pub known : first_of_names (map (unknown_in_term scope) terms) ≡ None

pub assign_tests : (scope : List Entry) (w : Spec) (names : List (List ℕ)) (terms : List Term) → assign_cause scope w names terms ≡ None → Assigning scope w names terms
unfolding assign_cause
assign_tests scope w names terms e =
    let a = passes _ _ _ e in let b = passes _ _ _ a.1 in let c = passes _ _ _ b.1 in let d = passes _ _ _ c.1 in let s = passes _ _ _ d.1 in let u = passes _ _ _ s.1 in record {
      long = eqb-true _ _ (not-false _ a.0);
      no_initial = b.0;
      in_frame = not-false _ d.0;
      sorted = s.0;
      known = none (List ℕ) _ u.0;
    }

pub record Pinning (scope : List Entry) (heads : List Head) (w : Spec) (names : List (List ℕ)) (f : Formula) : Type 0 where
  pub long : length names ≡ length w.frame
  pub initial : initial_outside w.frame f ≡ false
  pub fresh : are_fresh scope names ≡ true
  pub kept : keeps_rules (with_constants scope w.frame names) heads f [] ≡ true

pub seqcon_tests : (scope : List Entry) (heads : List Head) (w : Spec) (names : List (List ℕ)) (f : Formula) → seqcon_cause scope heads w names f ≡ None → Pinning scope heads w names f
unfolding seqcon_cause
seqcon_tests scope heads w names f e =
    let a = passes _ _ _ e in let b = passes _ _ _ a.1 in let c = passes _ _ _ b.1 in record {
      long = eqb-true _ _ (not-false _ a.0);
      initial = b.0;
      fresh = not-false _ c.0;
      kept = formula_kept (with_constants scope w.frame names) heads f c.1;
    }

pub record Naming (scope : List Entry) (x : List ℕ) (t : Term) : Type 0 where
  pub no_initial : term_outside [] t ≡ false
  pub fresh : is_fresh x scope ≡ true
  pub sorted : (checked scope [] t).bad ≡ false
  pub known : unknown_in_term scope t ≡ None

pub con_tests : (scope : List Entry) (x : List ℕ) (t : Term) → con_cause scope x t ≡ None → Naming scope x t
unfolding con_cause
con_tests scope x t e =
    let a = passes _ _ _ e in let b = passes _ _ _ a.1 in let c = passes _ _ _ b.1 in let d = passes _ _ _ c.1 in
    record { no_initial = a.0; fresh = not-false _ b.0; sorted = c.0; known = none (List ℕ) _ d.0 }

pub contract_tests : (w : Spec) (names : List (List ℕ)) → contract_cause w names ≡ None → each_is (is_listed w.frame) names ≡ true
unfolding contract_cause
contract_tests w names e = not-false _ (passes _ _ _ e).0

pub record Expanding (scope : List Entry) (w : Spec) (names : List (List ℕ)) : Type 0 where
  pub no_frame : list_any (is_listed w.frame) names ≡ false
  pub no_fixed : list_any (is_kind is_fixed_kind scope) names ≡ false
  pub found : list_any (λ x. is_fresh x scope) names ≡ false

pub expand_tests : (scope : List Entry) (w : Spec) (names : List (List ℕ)) → expand_cause scope w names ≡ None → Expanding scope w names
unfolding expand_cause
expand_tests scope w names e = let a = passes _ _ _ e in let b = passes _ _ _ a.1 in let c = passes _ _ _ b.1 in record { no_frame = a.0; no_fixed = b.0; found = c.0 }
