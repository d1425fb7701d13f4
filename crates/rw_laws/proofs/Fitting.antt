-- What a law that fits makes, and how much.
use Rattle.std.proofs.Common.{◌≡◌, ℕ, Bool, true, false, ◌&&◌, ◌++◌, length, nat_le, List, [], ◌∷◌, Option, Some, None, refl, sym, ap}
use Rattle.std.proofs.lemmas.Bool.{eqb-true, not-false}
use Rattle.rw_terms.specs.declared.scope.Entry.{Entry}
use Rattle.rw_terms.specs.declared.scope.Head.{Head}
use Rattle.rw_terms.specs.declared.term.Term.{Term}
use Rattle.rw_terms.specs.declared.term.Formula.{Formula}
use Rattle.rw_programs.specs.declared.prog.Spec.{Spec}
use Rattle.rw_programs.specs.declared.prog.Prog.{Prog}
use Rattle.rw_programs.specs.declared.applied.Context.{Context}
use Rattle.rw_programs.specs.declared.applied.Applied.{Applied}
use Rattle.rw_programs.specs.declared.applied.Misfit.{Misfit}
use Rattle.rw_laws.specs.declared.step.BasicStep.{BasicStep}
use Rattle.rw_laws.specs.declared.step.BasicStep.TheVariants as step
use Rattle.rw_laws.specs.declared.premises.Premises.{Premises}
use Rattle.rw_programs.specs.declared.prog.Prog.TheVariants as prog
use Rattle.rw_programs.specs.declared.prog.Prog.TheViews as made
use Rattle.rw_faults.specs.Limits.{is_small}
use Rattle.rw_faults.specs.Initial.{is_twice}
use Rattle.rw_subst.specs.Definedness.{definedness_of}
use Rattle.rw_derived.specs.Derived.{unchanged_post, initial_pre, assigned_post, followed_post, pinned, pins_for, pinned_pre, contracted_post, expanded_post}
use Rattle.rw_derived.specs.Causes.{cause_if, new_cause, seq_cause, assign_cause, seqcon_cause, con_cause, contract_cause, expand_cause}
use Rattle.rw_laws.specs.Laws.{fits, applied, law_with, law_of, skip_law, weaken_law, strengthen_law, assign_law, follow_law, seq_law, seqcon_law, con_law, contract_law, expand_law, FitsWith, Makes, skip_premises, weaken_premises, strengthen_premises, assign_premises, follow_premises, seq_premises, seqcon_premises, con_premises, contract_premises, expand_premises, pin}
use Rattle.rw_laws.specs.Skeletons.{skeleton_of, HasPins}
use Rattle.rw_laws.specs.Counts.{CountsAreExact}

as_many : (first : Option Misfit) (small twice : Bool) (s : Prog) (p : Premises) (a : Applied) → law_with first small twice s p ≡ fits a
    → (length a.children ≡ length p.children) × (length a.obligations ≡ length p.obligations)
as_many (Some m) small twice s p a e = absurd (cc)
as_many None false twice s p a e = absurd (cc)
as_many None true true s p a e = absurd (cc)
as_many None true false s p a e = let is : a ≡ applied s p = cc in (ap (λ b. length b.children) is, ap (λ b. length b.obligations) is)

pub counts_exact : CountsAreExact
unfolding law_of skip_law weaken_law strengthen_law assign_law follow_law seq_law seqcon_law con_law contract_law expand_law
counts_exact context heads w step.Skip a e = as_many None (is_small (unchanged_post w)) false prog.Skip (skip_premises context w) a e
counts_exact context heads w (step.Weaken f) a e = as_many (new_cause context.scope heads [] f) (is_small f) false (prog.Kid 1) (weaken_premises context w f) a e
counts_exact context heads w (step.Strengthen f) a e = as_many (new_cause context.scope heads w.frame f) (is_small f && is_small (initial_pre w)) false (prog.Kid 1) (strengthen_premises context w f) a e
counts_exact context heads w (step.Assign names terms) a e = as_many (assign_cause context.scope w names terms) (is_small (definedness_of context.scope terms) && is_small (assigned_post w names terms)) (is_twice names) (prog.Assign names terms) (assign_premises context w names terms) a e
counts_exact context heads w (step.Follow names terms) a e = as_many (assign_cause context.scope w names terms) (is_small (followed_post context.scope w names terms)) (is_twice names) (made.Seq (prog.Kid 1) (prog.Assign names terms)) (follow_premises context w names terms) a e
counts_exact context heads w (step.Seq f) a e = as_many (seq_cause context.scope heads w f) (is_small f) false (made.Seq (prog.Kid 1) (prog.Kid 2)) (seq_premises context w f) a e
counts_exact context heads w (step.SeqCon names f) a e = as_many (seqcon_cause context.scope heads w names f) (is_small f && (is_small (pinned w.frame names f) && is_small (pinned w.frame names w.post))) false (made.Con (pins_for w.frame names) (made.Seq (prog.Kid 1) (prog.Kid 2))) (seqcon_premises context w names f) a e
counts_exact context heads w (step.Con x t) a e = as_many (con_cause context.scope x t) (is_small (pinned_pre w x t)) false (made.Con (pin x t ∷ []) (prog.Kid 1)) (con_premises context w x t) a e
counts_exact context heads w (step.Contract names) a e = as_many (contract_cause w names) (is_small (contracted_post w names)) (is_twice names) (prog.Kid 1) (contract_premises context w names) a e
counts_exact context heads w (step.Expand names) a e = as_many (expand_cause context.scope w names) (is_small (expanded_post w names) && nat_le (length (w.frame ++ names)) 64) (is_twice names) (prog.Kid 1) (expand_premises context w names) a e

with_skeleton : (first : Option Misfit) (small twice : Bool) (s : Prog) (p q : Premises) → Makes (law_with first small twice s p) q → FitsWith (law_with first small twice s p) (λ b. applied s q ≡ b)
with_skeleton (Some m) small twice s p q h = h
with_skeleton None false twice s p q h = h
with_skeleton None true true s p q h = h
with_skeleton None true false s p q h = λ i. record { skeleton = s; children = h.0 i; obligations = h.1 i }

-- the kids and the obligations with the skeleton are what the law makes
pub joined : (context : Context) (heads : List Head) (w : Spec) (s : BasicStep) (q : Premises) → Makes (law_of context heads w s) q → FitsWith (law_of context heads w s) (λ b. applied (skeleton_of w s) q ≡ b)
unfolding law_of skip_law weaken_law strengthen_law assign_law follow_law seq_law seqcon_law con_law contract_law expand_law
joined context heads w step.Skip q h = with_skeleton None (is_small (unchanged_post w)) false prog.Skip (skip_premises context w) q h
joined context heads w (step.Weaken f) q h = with_skeleton (new_cause context.scope heads [] f) (is_small f) false (prog.Kid 1) (weaken_premises context w f) q h
joined context heads w (step.Strengthen f) q h = with_skeleton (new_cause context.scope heads w.frame f) (is_small f && is_small (initial_pre w)) false (prog.Kid 1) (strengthen_premises context w f) q h
joined context heads w (step.Assign names terms) q h = with_skeleton (assign_cause context.scope w names terms) (is_small (definedness_of context.scope terms) && is_small (assigned_post w names terms)) (is_twice names) (prog.Assign names terms) (assign_premises context w names terms) q h
joined context heads w (step.Follow names terms) q h = with_skeleton (assign_cause context.scope w names terms) (is_small (followed_post context.scope w names terms)) (is_twice names) (made.Seq (prog.Kid 1) (prog.Assign names terms)) (follow_premises context w names terms) q h
joined context heads w (step.Seq f) q h = with_skeleton (seq_cause context.scope heads w f) (is_small f) false (made.Seq (prog.Kid 1) (prog.Kid 2)) (seq_premises context w f) q h
joined context heads w (step.SeqCon names f) q h = with_skeleton (seqcon_cause context.scope heads w names f) (is_small f && (is_small (pinned w.frame names f) && is_small (pinned w.frame names w.post))) false (made.Con (pins_for w.frame names) (made.Seq (prog.Kid 1) (prog.Kid 2))) (seqcon_premises context w names f) q h
joined context heads w (step.Con x t) q h = with_skeleton (con_cause context.scope x t) (is_small (pinned_pre w x t)) false (made.Con (pin x t ∷ []) (prog.Kid 1)) (con_premises context w x t) q h
joined context heads w (step.Contract names) q h = with_skeleton (contract_cause w names) (is_small (contracted_post w names)) (is_twice names) (prog.Kid 1) (contract_premises context w names) q h
joined context heads w (step.Expand names) q h = with_skeleton (expand_cause context.scope w names) (is_small (expanded_post w names) && nat_le (length (w.frame ++ names)) 64) (is_twice names) (prog.Kid 1) (expand_premises context w names) q h

no_cause : (first : Option Misfit) (small twice : Bool) (s : Prog) (p q : Premises) → Makes (law_with first small twice s p) q → first ≡ None
no_cause (Some m) small twice s p q h = absurd h
no_cause None small twice s p q h = refl

passes : (b : Bool) (m : Misfit) (behind : Option Misfit) → cause_if b m behind ≡ None → b ≡ false
passes true m behind e = absurd (cc)
passes false m behind e = refl

-- lists without a cause are of one length
pub assign_long : (scope : List Entry) (w : Spec) (names : List (List ℕ)) (terms : List Term) → assign_cause scope w names terms ≡ None → length names ≡ length terms
unfolding assign_cause
assign_long scope w names terms e = eqb-true _ _ (not-false _ (passes _ _ _ e))

pub seqcon_long : (scope : List Entry) (heads : List Head) (w : Spec) (names : List (List ℕ)) (f : Formula) → seqcon_cause scope heads w names f ≡ None → length w.frame ≡ length names
unfolding seqcon_cause
seqcon_long scope heads w names f e = sym (eqb-true _ _ (not-false _ (passes _ _ _ e)))

pub has_pins : (context : Context) (heads : List Head) (w : Spec) (s : BasicStep) (q : Premises) → Makes (law_of context heads w s) q → HasPins w s
unfolding law_of seqcon_law
has_pins context heads w step.Skip q h = tt
has_pins context heads w (step.Weaken f) q h = tt
has_pins context heads w (step.Strengthen f) q h = tt
has_pins context heads w (step.Assign names terms) q h = tt
has_pins context heads w (step.Follow names terms) q h = tt
has_pins context heads w (step.Seq f) q h = tt
has_pins context heads w (step.SeqCon names f) q h = seqcon_long context.scope heads w names f (no_cause (seqcon_cause context.scope heads w names f) (is_small f && (is_small (pinned w.frame names f) && is_small (pinned w.frame names w.post))) false (made.Con (pins_for w.frame names) (made.Seq (prog.Kid 1) (prog.Kid 2))) (seqcon_premises context w names f) q h)
has_pins context heads w (step.Con x t) q h = tt
has_pins context heads w (step.Contract names) q h = tt
has_pins context heads w (step.Expand names) q h = tt
