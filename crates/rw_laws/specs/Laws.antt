-- What a basic law makes of a specification: a skeleton, the kids' specifications, and obligations; or the first cause why it does
-- not fit.
use Rattle.std.specs.Prelude.{◌≡◌, ℕ, Bool, true, false, ◌&&◌, ◌⊎◌, nat_le, length, List, [], ◌∷◌, ◌++◌, Option, Some, None}
use Rattle.rw_terms.specs.declared.term.Term.{Term}
use Rattle.rw_terms.specs.declared.term.Formula.{Formula}
use Rattle.rw_terms.specs.declared.scope.Entry.{Entry}
use Rattle.rw_terms.specs.declared.scope.Head.{Head}
use Rattle.rw_faults.specs.Limits.{is_small}
use Rattle.rw_faults.specs.Initial.{is_twice}
use Rattle.rw_subst.specs.Definedness.{definedness_of}
use Rattle.rw_programs.specs.declared.prog.Spec.{Spec}
use Rattle.rw_programs.specs.declared.prog.Prog.{Prog}
use Rattle.rw_programs.specs.declared.prog.Prog.TheVariants as prog
use Rattle.rw_programs.specs.declared.prog.Prog.TheViews as made
use Rattle.rw_programs.specs.declared.applied.Context.{Context}
use Rattle.rw_programs.specs.declared.applied.Applied.{Applied}
use Rattle.rw_programs.specs.declared.applied.Misfit.{Misfit}
use Rattle.rw_programs.specs.declared.applied.Misfit.TheVariants as cause
use Rattle.rw_programs.specs.declared.applied.ApplyError.{ApplyError}
use Rattle.rw_programs.specs.declared.applied.ApplyError.TheVariants as apply_error
use Rattle.rw_derived.specs.Derived.{unchanged_post, initial_pre, assigned_post, followed_post, pinned, pins_for, with_constants, with_constant, pinned_pre, without, contracted_post, expanded_post}
use Rattle.rw_derived.specs.Causes.{new_cause, seq_cause, assign_cause, seqcon_cause, con_cause, contract_cause, expand_cause}
pub use Rattle.rw_derived.specs.Making.{sequent_over, kid, pin, IsLargeRefusal}
use Rattle.rw_laws.specs.declared.step.BasicStep.{BasicStep}
use Rattle.rw_laws.specs.declared.step.BasicStep.TheVariants as step
use Rattle.rw_laws.specs.declared.premises.Premises.{Premises}

-- what the law of a step says: it fits, or it does not by this cause
pub data Law : Type 0 where
  fits : Applied → Law
  misfit : Misfit → Law

abbrev pub applied : Prog → Premises → Applied
applied skeleton p = record { skeleton = skeleton; children = p.children; obligations = p.obligations }

-- The first cause goes first; then a derived formula or frame that passes a limit, and then a name twice in a list.
abbrev pub law_with : Option Misfit → (small twice : Bool) → Prog → Premises → Law
law_with (Some m) small twice skeleton p = misfit m
law_with None false twice skeleton p = misfit cause.TooLarge
law_with None true true skeleton p = misfit cause.Alias
law_with None true false skeleton p = fits (applied skeleton p)

-- the context with another scope
abbrev pub in_scope : Context → List Entry → Context
in_scope context scope = record { scope = scope; opened = context.opened; order = context.order; inner = context.inner }

-- `skip`: the precondition gives the postcondition where nothing has changed
abbrev pub skip_premises : Context → Spec → Premises
skip_premises context w = record { children = []; obligations = sequent_over context.scope (w.pre ∷ []) (unchanged_post w ∷ []) ∷ [] }

unfoldable pub skip_law : Context → Spec → Law
skip_law context w = law_with None (is_small (unchanged_post w)) false prog.Skip (skip_premises context w)

-- `weaken`: the kid has a precondition that the old one gives
abbrev pub weaken_premises : Context → Spec → Formula → Premises
weaken_premises context w f = record {
  children = kid context w.frame f w.post ∷ [];
  obligations = sequent_over context.scope (w.pre ∷ []) (f ∷ []) ∷ [];
}

unfoldable pub weaken_law : Context → List Head → Spec → Formula → Law
weaken_law context heads w f = law_with (new_cause context.scope heads [] f) (is_small f) false (prog.Kid 1) (weaken_premises context w f)

-- `strengthen`: the kid has a postcondition that gives the old one, where the old precondition held before
abbrev pub strengthen_premises : Context → Spec → Formula → Premises
strengthen_premises context w f = record {
  children = kid context w.frame w.pre f ∷ [];
  obligations = sequent_over context.scope (initial_pre w ∷ f ∷ []) (w.post ∷ []) ∷ [];
}

unfoldable pub strengthen_law : Context → List Head → Spec → Formula → Law
strengthen_law context heads w f =
    law_with (new_cause context.scope heads w.frame f) (is_small f && is_small (initial_pre w)) false (prog.Kid 1) (strengthen_premises context w f)

-- `assign`: the terms are defined, and the postcondition holds after the assignment
abbrev pub assign_premises : Context → Spec → List (List ℕ) → List Term → Premises
assign_premises context w names terms = record {
  children = [];
  obligations =
      sequent_over context.scope (w.pre ∷ []) (definedness_of context.scope terms ∷ [])
      ∷ sequent_over context.scope (w.pre ∷ []) (assigned_post w names terms ∷ []) ∷ [];
}

unfoldable pub assign_law : Context → Spec → List (List ℕ) → List Term → Law
assign_law context w names terms =
    law_with (assign_cause context.scope w names terms) (is_small (definedness_of context.scope terms) && is_small (assigned_post w names terms)) (is_twice names)
    (prog.Assign names terms) (assign_premises context w names terms)

-- `follow`: the kid makes the postcondition hold after an assignment that follows
abbrev pub follow_premises : Context → Spec → List (List ℕ) → List Term → Premises
follow_premises context w names terms = record { children = kid context w.frame w.pre (followed_post context.scope w names terms) ∷ []; obligations = [] }

unfoldable pub follow_law : Context → Spec → List (List ℕ) → List Term → Law
follow_law context w names terms =
    law_with (assign_cause context.scope w names terms) (is_small (followed_post context.scope w names terms)) (is_twice names)
    (made.Seq (prog.Kid 1) (prog.Assign names terms)) (follow_premises context w names terms)

-- `seq`: two kids, with what holds between them
abbrev pub seq_premises : Context → Spec → Formula → Premises
seq_premises context w f = record { children = kid context w.frame w.pre f ∷ kid context w.frame f w.post ∷ []; obligations = [] }

unfoldable pub seq_law : Context → List Head → Spec → Formula → Law
seq_law context heads w f =
    law_with (seq_cause context.scope heads w f) (is_small f) false (made.Seq (prog.Kid 1) (prog.Kid 2)) (seq_premises context w f)

-- `seqcon`: the same, with constants for the first values of the frame
abbrev pub seqcon_premises : Context → Spec → List (List ℕ) → Formula → Premises
seqcon_premises context w names f =
    let inner = in_scope context (with_constants context.scope w.frame names) in record {
      children = kid inner w.frame w.pre f ∷ kid inner w.frame (pinned w.frame names f) (pinned w.frame names w.post) ∷ [];
      obligations = [];
    }

unfoldable pub seqcon_law : Context → List Head → Spec → List (List ℕ) → Formula → Law
seqcon_law context heads w names f =
    law_with (seqcon_cause context.scope heads w names f) (is_small f && (is_small (pinned w.frame names f) && is_small (pinned w.frame names w.post))) false
    (made.Con (pins_for w.frame names) (made.Seq (prog.Kid 1) (prog.Kid 2))) (seqcon_premises context w names f)

-- `con`: a constant that has the value of a term
abbrev pub con_premises : Context → Spec → List ℕ → Term → Premises
con_premises context w x t = record {
  children = kid (in_scope context (with_constant context.scope x t)) w.frame (pinned_pre w x t) w.post ∷ [];
  obligations = [];
}

unfoldable pub con_law : Context → Spec → List ℕ → Term → Law
con_law context w x t =
    law_with (con_cause context.scope x t) (is_small (pinned_pre w x t)) false (made.Con (pin x t ∷ []) (prog.Kid 1)) (con_premises context w x t)

-- `contract`: names leave the frame, and so have not changed
abbrev pub contract_premises : Context → Spec → List (List ℕ) → Premises
contract_premises context w names = record { children = kid context (without names w.frame) w.pre (contracted_post w names) ∷ []; obligations = [] }

unfoldable pub contract_law : Context → Spec → List (List ℕ) → Law
contract_law context w names =
    law_with (contract_cause w names) (is_small (contracted_post w names)) (is_twice names) (prog.Kid 1) (contract_premises context w names)

-- `expand`: names enter the frame, and are to have their first values in the end
abbrev pub expand_premises : Context → Spec → List (List ℕ) → Premises
expand_premises context w names = record { children = kid context (w.frame ++ names) w.pre (expanded_post w names) ∷ []; obligations = [] }

unfoldable pub expand_law : Context → Spec → List (List ℕ) → Law
expand_law context w names =
    law_with (expand_cause context.scope w names) (is_small (expanded_post w names) && nat_le (length (w.frame ++ names)) 64) (is_twice names)
    (prog.Kid 1) (expand_premises context w names)

-- what the law of a step says of a specification in its context
unfoldable pub law_of : Context → List Head → Spec → BasicStep → Law
law_of context heads w step.Skip = skip_law context w
law_of context heads w (step.Weaken f) = weaken_law context heads w f
law_of context heads w (step.Strengthen f) = strengthen_law context heads w f
law_of context heads w (step.Assign names terms) = assign_law context w names terms
law_of context heads w (step.Follow names terms) = follow_law context w names terms
law_of context heads w (step.Seq f) = seq_law context heads w f
law_of context heads w (step.SeqCon names f) = seqcon_law context heads w names f
law_of context heads w (step.Con x t) = con_law context w x t
law_of context heads w (step.Contract names) = contract_law context w names
law_of context heads w (step.Expand names) = expand_law context w names

-- the law fits, and P holds of what it makes
abbrev pub FitsWith : Law → (Applied → Type 0) → Type 0
FitsWith (fits a) P = P a
FitsWith (misfit m) P = ⊥

-- the law does not fit, and P holds of the cause
abbrev pub MisfitsBy : Law → (Misfit → Type 0) → Type 0
MisfitsBy (fits a) P = ⊥
MisfitsBy (misfit m) P = P m

-- want of memory, or the cause why the law does not fit
abbrev pub IsRefusal : Law → ApplyError → Type 0
IsRefusal law e = (e ≡ apply_error.Memory) ⊎ MisfitsBy law (λ m. e ≡ apply_error.Misfit m)

-- the law fits, and makes these kids and obligations
abbrev pub Makes : Law → Premises → Type 0
Makes law p = FitsWith law (λ a. (p.children ≡ a.children) × (p.obligations ≡ a.obligations))
