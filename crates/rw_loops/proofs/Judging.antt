-- What a law says, from its tests.
use Rattle.std.proofs.Common.{◌≡◌, Bool, true, false, if◌then◌else◌, List, Option, Some, None, inl, inr, sym, ap, ◌∙◌, subst}
use Rattle.rw_terms.specs.declared.scope.Head.{Head}
use Rattle.rw_programs.specs.declared.prog.Spec.{Spec}
use Rattle.rw_programs.specs.declared.prog.Prog.{Prog}
use Rattle.rw_programs.specs.declared.prog.Prog.TheVariants as prog
use Rattle.rw_programs.specs.declared.applied.Context.{Context}
use Rattle.rw_programs.specs.declared.applied.Misfit.{Misfit}
use Rattle.rw_programs.specs.declared.applied.Misfit.TheVariants as cause
use Rattle.rw_programs.specs.declared.applied.ApplyError.{ApplyError}
use Rattle.rw_programs.specs.declared.applied.ApplyError.TheVariants as apply_error
use Rattle.rw_laws.specs.declared.premises.Premises.{Premises}
use Rattle.rw_laws.specs.Laws.{Law, fits, misfit, applied, FitsWith, MisfitsBy, Makes, IsRefusal}
use Rattle.rw_loops.specs.declared.step.LoopStep.{LoopStep}
use Rattle.rw_loops.specs.declared.step.LoopStep.TheVariants as step
use Rattle.rw_subst.specs.Conj.{disj}
use Rattle.rw_loops.specs.Code.{code_misfit}
use Rattle.rw_loops.specs.Limits.{is_within, are_within, IsLimitRefusal}
use Rattle.rw_loops.specs.Laws.{law_with, arms_from, if_premises, if_law, do_misfit, do_premises, do_law, block_misfit, block_premises, block_law, law_of}
use Rattle.rw_loops.specs.Skeletons.{skeleton_of}

-- the limits are those of the kids and the obligations
within_of : (s : Prog) (p : Premises) (b : Bool) → are_within p ≡ b → is_within (applied s p) ≡ b
unfolding is_within
within_of s p b e = e

module _ (first : Option Misfit) (s : Prog) (p : Premises) where
  abbrev law : Law
  law = law_with first (applied s p)

  law_when : (b : Bool) → first ≡ None → are_within p ≡ b → law ≡ (if b then fits (applied s p) else misfit cause.TooLarge)
  law_when b none within = (λ i. law_with (none i) (applied s p)) ∙ ap (λ c. if c then fits (applied s p) else misfit cause.TooLarge) (within_of s p b within)

  pub makes : first ≡ None → (q : Premises) → q ≡ p → are_within q ≡ true → Makes law q
  makes none q is within =
      subst (λ l. Makes l q) (sym (law_when true none (sym (ap are_within is) ∙ within))) (ap (λ r. r.children) is, ap (λ r. r.obligations) is)

  pub refused_first : (found : Option Misfit) (e : ApplyError) → found ≡ first → (m : Misfit) × (found ≡ Some m) × (e ≡ apply_error.Misfit m) → IsRefusal law e
  refused_first found e is h = inr (subst (λ o. MisfitsBy (law_with o (applied s p)) (λ m. e ≡ apply_error.Misfit m)) (sym h.1 ∙ is) h.2)

  pub refused_past : (e : ApplyError) → first ≡ None → IsLimitRefusal (are_within p) e → IsRefusal law e
  refused_past e none (inl memory) = inl memory
  refused_past e none (inr past) = inr (subst (λ l. MisfitsBy l (λ m. e ≡ apply_error.Misfit m)) (sym (law_when false none past.0)) past.1)

  pub refused_large : (e : ApplyError) → first ≡ None → (q : Premises) → q ≡ p → (are_within q ≡ false) × (e ≡ apply_error.Misfit cause.TooLarge) → IsRefusal law e
  refused_large e none q is past = refused_past e none (inr (sym (ap are_within is) ∙ past.0, past.1))

with_skeleton : (first : Option Misfit) (s : Prog) (p q : Premises) → Makes (law_with first (applied s p)) q → FitsWith (law_with first (applied s p)) (λ b. applied s q ≡ b)
with_skeleton (Some m) s p q h = h
with_skeleton None s p q h = go (is_within (applied s p)) h
  where
    go : (b : Bool) → Makes (if b then fits (applied s p) else misfit cause.TooLarge) q → FitsWith (if b then fits (applied s p) else misfit cause.TooLarge) (λ b. applied s q ≡ b)
    go true h = λ i. record { skeleton = s; children = h.0 i; obligations = h.1 i }
    go false h = h

-- the kids and the obligations with the skeleton are what the law makes
pub joined : (context : Context) (heads : List Head) (w : Spec) (s : LoopStep) (q : Premises) → Makes (law_of context heads w s) q → FitsWith (law_of context heads w s) (λ b. applied (skeleton_of s) q ≡ b)
unfolding law_of if_law do_law block_law
joined context heads w (step.If guards) q h = with_skeleton (code_misfit context.scope heads (disj guards)) (prog.If (arms_from 1 guards)) (if_premises context w guards) q h
joined context heads w (step.Do v guards) q h = with_skeleton (do_misfit context.scope heads w v guards) (prog.Do v (arms_from 1 guards)) (do_premises context w v guards) q h
joined context heads w (step.Block x sort) q h = with_skeleton (block_misfit context.scope x sort) (prog.Block x sort (prog.Kid 1)) (block_premises context w x sort) q h
