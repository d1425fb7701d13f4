-- What a law makes has no specification in it, and guards of code.
use Rattle.std.proofs.Common.{◌≡◌, ℕ, suc, Bool, true, false, ◌&&◌, ◌++◌, length, nat_le, if◌then◌else◌, List, [], ◌∷◌, Option, Some, None, sym, ap, ◌∙◌, subst}
use Rattle.std.proofs.lemmas.Bool.{and_parts}
use Rattle.std.specs.Prelude.{not}
use Rattle.rw_terms.specs.declared.scope.Entry.{Entry}
use Rattle.rw_terms.specs.declared.scope.Head.{Head}
use Rattle.rw_terms.specs.declared.term.Sort.{Sort}
use Rattle.rw_terms.specs.declared.term.Term.{Term}
use Rattle.rw_terms.specs.declared.term.Formula.{Formula}
use Rattle.rw_terms.specs.declared.term.Formula.TheVariants as formula
use Rattle.rw_terms.specs.declared.term.Formula.TheOpen.{Formula-F}
use Rattle.rw_terms.specs.declared.term.Formula.TheFolds.{fold-roll-Formula}
use Rattle.rw_terms.specs.Validity.{Each}
use Rattle.rw_faults.specs.Limits.{is_small}
use Rattle.rw_faults.specs.Initial.{is_twice}
use Rattle.rw_subst.specs.Definedness.{definedness_of}
use Rattle.rw_programs.specs.CodeTest.{guard_step, is_guard}
use Rattle.rw_programs.specs.declared.prog.Spec.{Spec}
use Rattle.rw_programs.specs.declared.prog.Prog.{Prog}
use Rattle.rw_programs.specs.declared.prog.Prog.TheVariants as prog
use Rattle.rw_programs.specs.declared.prog.Prog.TheViews as made
use Rattle.rw_programs.specs.declared.prog.Pin.{Pin}
use Rattle.rw_programs.specs.declared.applied.Context.{Context}
use Rattle.rw_programs.specs.declared.applied.Applied.{Applied}
use Rattle.rw_programs.specs.declared.applied.Misfit.{Misfit}
use Rattle.rw_programs.specs.declared.applied.Misfit.TheVariants as cause
use Rattle.rw_laws.specs.declared.step.BasicStep.{BasicStep}
use Rattle.rw_laws.specs.declared.step.BasicStep.TheVariants as basic
use Rattle.rw_laws.specs.declared.premises.Premises.{Premises}
use Rattle.rw_derived.specs.Derived.{unchanged_post, initial_pre, assigned_post, followed_post, pinned, pins_for, pinned_pre, contracted_post, expanded_post}
use Rattle.rw_derived.specs.Causes.{new_cause, seq_cause, assign_cause, seqcon_cause, con_cause, contract_cause, expand_cause}
use Rattle.rw_laws.specs.Laws.{fits, applied, law_with, law_of, skip_law, weaken_law, strengthen_law, assign_law, follow_law, seq_law, seqcon_law, con_law, contract_law, expand_law, skip_premises, weaken_premises, strengthen_premises, assign_premises, follow_premises, seq_premises, seqcon_premises, con_premises, contract_premises, expand_premises, pin}
use Rattle.rw_loops.specs.declared.step.LoopStep.{LoopStep}
use Rattle.rw_loops.specs.declared.step.LoopStep.TheVariants as loop
use Rattle.rw_subst.specs.Conj.{disj_with, disj}
use Rattle.rw_terms.specs.Same.{same_formula}
use Rattle.rw_loops.specs.Code.{code_misfit}
use Rattle.rw_loops.specs.Laws.{arms_from, if_made, if_law, not_below_0, loop_post, loop_code, do_made, do_misfit, do_law, block_misfit, block_made, block_law}
use Rattle.rw_loops.specs.Laws as loops
use Rattle.rw_loops.proofs.Fitting.{fitting}
use Rattle.rw_loops.proofs.Placed.{is_code}
use Rattle.rw_collect.proofs.Guarded.{IsGuarded}

with_guarded : (first : Option Misfit) (within twice : Bool) (s : Prog) (p : Premises) (a : Applied) → IsGuarded s → law_with first within twice s p ≡ fits a → IsGuarded a.skeleton
with_guarded (Some m) within twice s p a g e = absurd (cc)
with_guarded None false twice s p a g e = absurd (cc)
with_guarded None true true s p a g e = absurd (cc)
with_guarded None true false s p a g e = let is : applied s p ≡ a = cc in subst (λ b. IsGuarded b.skeleton) is g

seq_guarded : (c d : Prog) → IsGuarded c → IsGuarded d → IsGuarded (made.Seq c d)
unfolding Rattle.rw_programs.specs.declared.prog.Prog.TheBlock.hidden-the_row-Prog-0 denote.Hole.Carrier.hidden
seq_guarded c d g h = (g, h)

con_guarded : (pins : List Pin) (c : Prog) → IsGuarded c → IsGuarded (made.Con pins c)
unfolding Rattle.rw_programs.specs.declared.prog.Prog.TheBlock.hidden-the_row-Prog-0 denote.Hole.Carrier.hidden
con_guarded pins c g = g

pub basic_guarded : (context : Context) (heads : List Head) (w : Spec) (s : BasicStep) (a : Applied) → law_of context heads w s ≡ fits a → IsGuarded a.skeleton
unfolding law_of skip_law weaken_law strengthen_law assign_law follow_law seq_law seqcon_law con_law contract_law expand_law
basic_guarded context heads w basic.Skip a e = with_guarded None (is_small (unchanged_post w)) false prog.Skip (skip_premises context w) a tt e
basic_guarded context heads w (basic.Weaken f) a e = with_guarded (new_cause context.scope heads [] f) (is_small f) false (prog.Kid 1) (weaken_premises context w f) a tt e
basic_guarded context heads w (basic.Strengthen f) a e = with_guarded (new_cause context.scope heads w.frame f) (is_small f && is_small (initial_pre w)) false (prog.Kid 1) (strengthen_premises context w f) a tt e
basic_guarded context heads w (basic.Assign names terms) a e =
    with_guarded (assign_cause context.scope w names terms) (is_small (definedness_of context.scope terms) && is_small (assigned_post w names terms)) (is_twice names) (prog.Assign names terms) (assign_premises context w names terms) a tt e
basic_guarded context heads w (basic.Follow names terms) a e =
    with_guarded (assign_cause context.scope w names terms) (is_small (followed_post context.scope w names terms)) (is_twice names) (made.Seq (prog.Kid 1) (prog.Assign names terms)) (follow_premises context w names terms) a
    (seq_guarded (prog.Kid 1) (prog.Assign names terms) tt tt) e
basic_guarded context heads w (basic.Seq f) a e =
    with_guarded (seq_cause context.scope heads w f) (is_small f) false (made.Seq (prog.Kid 1) (prog.Kid 2)) (seq_premises context w f) a (seq_guarded (prog.Kid 1) (prog.Kid 2) tt tt) e
basic_guarded context heads w (basic.SeqCon names f) a e =
    with_guarded (seqcon_cause context.scope heads w names f) (is_small f && (is_small (pinned w.frame names f) && is_small (pinned w.frame names w.post))) false
    (made.Con (pins_for w.frame names) (made.Seq (prog.Kid 1) (prog.Kid 2))) (seqcon_premises context w names f) a
    (con_guarded (pins_for w.frame names) (made.Seq (prog.Kid 1) (prog.Kid 2)) (seq_guarded (prog.Kid 1) (prog.Kid 2) tt tt)) e
basic_guarded context heads w (basic.Con x t) a e =
    with_guarded (con_cause context.scope x t) (is_small (pinned_pre w x t)) false (made.Con (pin x t ∷ []) (prog.Kid 1)) (con_premises context w x t) a (con_guarded (pin x t ∷ []) (prog.Kid 1) tt) e
basic_guarded context heads w (basic.Contract names) a e = with_guarded (contract_cause w names) (is_small (contracted_post w names)) (is_twice names) (prog.Kid 1) (contract_premises context w names) a tt e
basic_guarded context heads w (basic.Expand names) a e =
    with_guarded (expand_cause context.scope w names) (is_small (expanded_post w names) && nat_le (length (w.frame ++ names)) 64) (is_twice names) (prog.Kid 1) (expand_premises context w names) a tt e

or_guards : (f g : Formula) → is_guard (formula.Or f g) ≡ true → (is_guard f ≡ true) × (is_guard g ≡ true)
or_guards f g e = and_parts (is_guard f) (is_guard g) (sym (ap is_guard (sym (formula.rolls-Or f g)) ∙ fold-roll-Formula Bool guard_step (Formula-F.Or f g)) ∙ e)

and_guards : (f g : Formula) → is_guard (formula.And f g) ≡ true → (is_guard f ≡ true) × (is_guard g ≡ true)
and_guards f g e = and_parts (is_guard f) (is_guard g) (sym (ap is_guard (sym (formula.rolls-And f g)) ∙ fold-roll-Formula Bool guard_step (Formula-F.And f g)) ∙ e)

abbrev AreGuards : List Formula → Type 0
AreGuards gs = Each (λ g. is_guard g ≡ true) gs

guards_with : (f : Formula) (gs : List Formula) → is_guard (disj_with f gs) ≡ true → (is_guard f ≡ true) × AreGuards gs
guards_with f [] e = (e, tt)
guards_with f (g ∷ gs) e = let r = guards_with (formula.Or f g) gs e in let both = or_guards f g r.0 in (both.0, (both.1, r.1))

-- each of some guards is one where their disjunction is
each_guard : (gs : List Formula) → is_guard (disj gs) ≡ true → AreGuards gs
each_guard [] e = tt
each_guard (g ∷ gs) e = guards_with g gs e

arms_guarded : (gs : List Formula) (n : ℕ) → AreGuards gs → IsGuarded (prog.If (arms_from n gs))
unfolding Rattle.rw_programs.specs.declared.prog.Prog.TheBlock.hidden-the_row-Arm-1 denote.Hole.Carrier.hidden
arms_guarded [] n g = tt
arms_guarded (f ∷ gs) n g = (g.0, tt, arms_guarded gs (suc n) g.1)

loop_guarded : (v : Term) (gs : List Formula) → AreGuards gs → IsGuarded (prog.Do v (arms_from 1 gs))
unfolding Rattle.rw_programs.specs.declared.prog.Prog.TheBlock.hidden-the_row-Arm-1 denote.Hole.Carrier.hidden
loop_guarded v gs g = arms_guarded gs 1 g

code_part : (scope : List Entry) (heads : List Head) (w : Spec) (v : Term) (gs : List Formula) → do_misfit scope heads w v gs ≡ None → code_misfit scope heads (loop_code v gs) ≡ None
code_part scope heads w v gs e = go (not (same_formula w.post (loop_post w gs))) e
  where
    go : (b : Bool) → (if b then Some cause.Shape else code_misfit scope heads (loop_code v gs)) ≡ None → code_misfit scope heads (loop_code v gs) ≡ None
    go true e = absurd (cc)
    go false e = e

block_guarded : (x : List ℕ) (sort : Sort) → IsGuarded (prog.Block x sort (prog.Kid 1))
unfolding Rattle.rw_programs.specs.declared.prog.Prog.TheBlock.hidden-the_row-Prog-0 denote.Hole.Carrier.hidden
block_guarded x sort = tt

pub loops_guarded : (context : Context) (heads : List Head) (w : Spec) (s : LoopStep) (a : Applied) → loops.law_of context heads w s ≡ fits a → IsGuarded a.skeleton
unfolding loops.law_of if_law do_law block_law
loops_guarded context heads w (loop.If guards) a e =
    let f = fitting (code_misfit context.scope heads (disj guards)) (if_made context w guards) a e in
    subst (λ b. IsGuarded b.skeleton) f.2 (arms_guarded guards 1 (each_guard guards (is_code context.scope heads (disj guards) f.0).guard))
loops_guarded context heads w (loop.Do v guards) a e =
    let f = fitting (do_misfit context.scope heads w v guards) (do_made context w v guards) a e in
    let code = is_code context.scope heads (loop_code v guards) (code_part context.scope heads w v guards f.0) in
    subst (λ b. IsGuarded b.skeleton) f.2 (loop_guarded v guards (each_guard guards (and_guards (not_below_0 v) (disj guards) code.guard).1))
loops_guarded context heads w (loop.Block x sort) a e =
    let f = fitting (block_misfit context.scope x sort) (block_made context w x sort) a e in
    subst (λ b. IsGuarded b.skeleton) f.2 (block_guarded x sort)
