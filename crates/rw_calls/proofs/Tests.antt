-- What is known where a call fits.
use Rattle.std.proofs.Common.{◌≡◌, ℕ, Bool, true, false, not, ◌&&◌, ◌||◌, is_none, List, [], map, Option, Some, None, refl, subst}
use Rattle.std.specs.Prelude.{nat_lt}
use Rattle.std.proofs.lemmas.Bool.{and_parts, or_parts, not-false}
use Rattle.rw_terms.specs.declared.term.Term.{Term}
use Rattle.rw_faults.specs.Faults.{unknown_in_term, first_of_names}
use Rattle.rw_faults.specs.Initial.{is_listed, is_twice, terms_outside}
use Rattle.rw_programs.specs.declared.prog.Spec.{Spec}
use Rattle.rw_programs.specs.declared.prog.Prog.{Prog}
use Rattle.rw_programs.specs.declared.prog.Prog.TheVariants as prog
use Rattle.rw_programs.specs.declared.applied.Context.{Context}
use Rattle.rw_programs.specs.declared.applied.Applied.{Applied}
use Rattle.rw_programs.specs.declared.applied.Misfit.{Misfit}
use Rattle.rw_programs.specs.State.{Name, is_in}
use Rattle.rw_derived.specs.Causes.{each_is, is_assignable, are_code_terms}
use Rattle.rw_laws.specs.Laws.{fits}
use Rattle.rw_soundness.proofs.Causes.{passes, none}
use Rattle.rw_heads.specs.declared.head.ProcHead.{ProcHead}
use Rattle.rw_heads.specs.declared.step.CallStep.{CallStep}
use Rattle.rw_procs.specs.Causes.{wrong_args, wrong_names, call_cause}
use Rattle.rw_procs.specs.Laws.{law_with, callee_of, call_law, call_made}
use Rattle.rw_heads.specs.declared.head.Module.{Module}
use Rattle.rw_heads.specs.declared.head.Oper.{Oper}
use Rattle.rw_heads.specs.Heads.{find_oper}
use Rattle.rw_modules.specs.Laws.{abstract_frame, op_made, is_earlier, op_cause, op_law_of, op_law}
use Rattle.std.specs.Option.{option_map}

-- what a call that fits says of its tests
pub record Calling (context : Context) (w : Spec) (args : List Term) (names : List Name) (h : ProcHead) (place : ℕ) : Type 0 where
  pub earlier : nat_lt place context.order ≡ true
  pub once : is_twice names ≡ false
  pub no_initial : terms_outside [] args ≡ false
  pub code : are_code_terms context.scope args ≡ true
  pub in_frame : each_is (is_assignable context.scope w.frame) names ≡ true
  pub args_fit : wrong_args context.scope (Some (callee_of h)) args ≡ false
  pub names_fit : wrong_names context.scope h.results names ≡ false
  pub known : first_of_names (map (unknown_in_term context.scope) args) ≡ None

pub record Fitting (first : Option Misfit) (small earlier twice : Bool) (made a : Applied) : Type 0 where
  pub no_cause : first ≡ None
  pub is_small : small ≡ true
  pub is_earlier : earlier ≡ true
  pub once : twice ≡ false
  pub makes : a ≡ made

pub fitting : (first : Option Misfit) (small earlier twice : Bool) (made a : Applied) → law_with first small earlier twice made ≡ fits a → Fitting first small earlier twice made a
fitting (Some m) small earlier twice made a e = absurd (cc)
fitting None false earlier twice made a e = absurd (cc)
fitting None true false twice made a e = absurd (cc)
fitting None true true true made a e = absurd (cc)
fitting None true true false made a e = record { no_cause = refl; is_small = refl; is_earlier = refl; once = refl; makes = cc }

pub call_tests : (context : Context) (w : Spec) (step : CallStep) (h : ProcHead) (place : ℕ) (a : Applied) → call_law context w step (Some (h, place)) ≡ fits a
    → Calling context w step.args step.results h place × (a ≡ call_made context w step h)
unfolding call_law call_cause
call_tests context w step h place a e =
    let f = fitting _ _ _ _ _ _ e in
    let one = passes _ _ _ f.no_cause in
    let two = passes _ _ _ one.1 in
    let three = passes _ _ _ two.1 in
    let four = passes _ _ _ three.1 in
    let five = passes _ _ _ four.1 in (
      record {
        earlier = f.is_earlier;
        once = f.once;
        no_initial = one.0;
        code = not-false _ two.0;
        in_frame = not-false _ three.0;
        args_fit = (or_parts _ _ four.0).0;
        names_fit = (or_parts (wrong_args context.scope (Some (callee_of h)) step.args) _ four.0).1;
        known = none Name _ (or_parts (is_none (Some (callee_of h))) _ five.0).1;
      },
      f.makes,
    )

-- what a call of an operation that fits says of its tests
pub record Operating (context : Context) (w : Spec) (args : List Term) (names : List Name) (m : Module) (o : Oper) (place : ℕ) : Type 0 where
  pub earlier : nat_lt place context.order ≡ true
  pub once : is_twice names ≡ false
  pub no_initial : terms_outside [] args ≡ false
  pub in_frame : each_is (is_assignable context.scope w.frame) names ≡ true
  pub frame : each_is (is_listed w.frame) (abstract_frame m o) ≡ true
  pub args_fit : wrong_args context.scope (Some (record { values = o.values; results = o.results })) args ≡ false
  pub names_fit : wrong_names context.scope o.results names ≡ false
  pub known : first_of_names (map (unknown_in_term context.scope) args) ≡ None

pub op_tests : (context : Context) (w : Spec) (name op : Name) (args : List Term) (names : List Name) (m : Module) (o : Oper) (place : ℕ) (a : Applied) → find_oper op m.operations ≡ Some o → op_law context w name op args names (Some (m, place)) ≡ fits a
    → Operating context w args names m o place × (a ≡ op_made context w name op m o args names)
unfolding op_law op_cause
op_tests context w name op args names m o place a found e =
    let law : op_law_of context w name op args names (is_earlier context place) (Some (m, o)) ≡ fits a =
    subst (λ (x : Option Oper). op_law_of context w name op args names (is_earlier context place) (option_map (λ e. (m, e)) x) ≡ fits a) found e in
    let f = fitting _ _ _ _ _ _ law in
    let one = passes _ _ _ f.no_cause in
    let two = passes _ _ _ one.1 in
    let three = passes _ _ _ two.1 in
    let four = passes _ _ _ three.1 in
    let five = passes _ _ _ four.1 in (
      record {
        earlier = (and_parts _ _ f.is_earlier).0;
        once = f.once;
        no_initial = one.0;
        in_frame = not-false _ (or_parts _ _ three.0).0;
        frame = not-false _ (or_parts (not (each_is (is_assignable context.scope w.frame) names)) _ three.0).1;
        args_fit = (or_parts _ _ four.0).0;
        names_fit = (or_parts (wrong_args context.scope (Some (record { values = o.values; results = o.results })) args) _ four.0).1;
        known = none Name _ (or_parts (not (is_in name context.opened) || is_none {T = Module × Oper} (Some (m, o))) _ five.0).1;
      },
      f.makes,
    )
