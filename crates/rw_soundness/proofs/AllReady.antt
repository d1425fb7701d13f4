-- The kids' specifications are well-formed.
use Rattle.std.proofs.Common.{false, ◌&&◌, nat_le, length, ◌++◌, None, sym, subst, [], ◌∷◌}
use Rattle.std.proofs.lemmas.Bool.{and_parts}
use Rattle.rw_terms.specs.Validity.{Each}
use Rattle.rw_programs.specs.declared.prog.Prog.TheVariants as prog
use Rattle.rw_programs.specs.declared.prog.Prog.TheViews as made
use Rattle.rw_laws.specs.declared.step.BasicStep.TheVariants as step
use Rattle.rw_derived.specs.Derived.{unchanged_post, initial_pre, assigned_post, followed_post, pinned, pins_for, pinned_pre, contracted_post, expanded_post}
use Rattle.rw_derived.specs.Causes.{new_cause, seq_cause, assign_cause, seqcon_cause, con_cause, contract_cause, expand_cause}
use Rattle.rw_subst.specs.Definedness.{definedness_of}
use Rattle.rw_faults.specs.Limits.{is_small}
use Rattle.rw_faults.specs.Initial.{is_twice}
use Rattle.rw_laws.specs.Laws.{law_of, skip_law, weaken_law, strengthen_law, assign_law, follow_law, seq_law, seqcon_law, con_law, contract_law, expand_law, skip_premises, weaken_premises, strengthen_premises, assign_premises, follow_premises, seq_premises, seqcon_premises, con_premises, contract_premises, expand_premises, pin}
use Rattle.rw_soundness.specs.Sound.{IsReady, KidsAreReady}
use Rattle.rw_soundness.proofs.Causes.{fitting, assign_tests, seqcon_tests, con_tests, expand_tests}
use Rattle.rw_soundness.proofs.Causes.{new_tests, seq_formula, seq_new}
use Rattle.rw_soundness.proofs.Readiness.{weaken_ready, strengthen_ready, first_ready, follow_ready, contract_ready, expand_ready}
use Rattle.rw_soundness.proofs.Widened.{con_ready, first_pinned, second_pinned}

pub kids_are_ready : KidsAreReady
unfolding law_of skip_law weaken_law strengthen_law assign_law follow_law seq_law seqcon_law con_law contract_law expand_law
kids_are_ready context heads w step.Skip a ready e =
    let g = fitting None (is_small (unchanged_post w)) false prog.Skip (skip_premises context w) a e in
    subst (λ b. Each (λ c. IsReady c.context.scope heads c.spec) b.children) (sym g.makes)
    (tt)
kids_are_ready context heads w (step.Weaken f) a ready e =
    let g = fitting (new_cause context.scope heads [] f) (is_small f) false (prog.Kid 1) (weaken_premises context w f) a e in
    subst (λ b. Each (λ c. IsReady c.context.scope heads c.spec) b.children) (sym g.makes)
    ((weaken_ready context.scope heads w ready f g.no_cause g.is_small, tt))
kids_are_ready context heads w (step.Strengthen f) a ready e =
    let g = fitting (new_cause context.scope heads w.frame f) (is_small f && is_small (initial_pre w)) false (prog.Kid 1) (strengthen_premises context w f) a e in
    subst (λ b. Each (λ c. IsReady c.context.scope heads c.spec) b.children) (sym g.makes)
    ((strengthen_ready context.scope heads w ready f (new_tests context.scope heads w.frame f g.no_cause) (and_parts _ _ g.is_small).0, tt))
kids_are_ready context heads w (step.Assign names terms) a ready e =
    let g = fitting (assign_cause context.scope w names terms) (is_small (definedness_of context.scope terms) && is_small (assigned_post w names terms)) (is_twice names) (prog.Assign names terms) (assign_premises context w names terms) a e in
    subst (λ b. Each (λ c. IsReady c.context.scope heads c.spec) b.children) (sym g.makes)
    (tt)
kids_are_ready context heads w (step.Follow names terms) a ready e =
    let g = fitting (assign_cause context.scope w names terms) (is_small (followed_post context.scope w names terms)) (is_twice names) (made.Seq (prog.Kid 1) (prog.Assign names terms)) (follow_premises context w names terms) a e in
    subst (λ b. Each (λ c. IsReady c.context.scope heads c.spec) b.children) (sym g.makes)
    ((follow_ready context.scope heads w ready names terms (assign_tests context.scope w names terms g.no_cause) g.is_small, tt))
kids_are_ready context heads w (step.Seq f) a ready e =
    let g = fitting (seq_cause context.scope heads w f) (is_small f) false (made.Seq (prog.Kid 1) (prog.Kid 2)) (seq_premises context w f) a e in
    subst (λ b. Each (λ c. IsReady c.context.scope heads c.spec) b.children) (sym g.makes)
    ((first_ready context.scope heads w ready f (seq_formula context.scope heads w f g.no_cause) g.is_small, (weaken_ready context.scope heads w ready f (seq_new context.scope heads w f g.no_cause) g.is_small, tt)))
kids_are_ready context heads w (step.SeqCon names f) a ready e =
    let g = fitting (seqcon_cause context.scope heads w names f) (is_small f && (is_small (pinned w.frame names f) && is_small (pinned w.frame names w.post))) false (made.Con (pins_for w.frame names) (made.Seq (prog.Kid 1) (prog.Kid 2))) (seqcon_premises context w names f) a e in
    subst (λ b. Each (λ c. IsReady c.context.scope heads c.spec) b.children) (sym g.makes) (
    let tests = seqcon_tests context.scope heads w names f g.no_cause in let rest = (and_parts (is_small f) _ g.is_small).1 in
    (first_pinned context.scope heads w ready names f tests (and_parts (is_small f) _ g.is_small).0, (second_pinned context.scope heads w ready names f tests (and_parts (is_small (pinned w.frame names f)) _ rest).0 (and_parts (is_small (pinned w.frame names f)) _ rest).1, tt)))
kids_are_ready context heads w (step.Con x t) a ready e =
    let g = fitting (con_cause context.scope x t) (is_small (pinned_pre w x t)) false (made.Con (pin x t ∷ []) (prog.Kid 1)) (con_premises context w x t) a e in
    subst (λ b. Each (λ c. IsReady c.context.scope heads c.spec) b.children) (sym g.makes)
    ((con_ready context.scope heads w ready x t (con_tests context.scope x t g.no_cause) g.is_small, tt))
kids_are_ready context heads w (step.Contract names) a ready e =
    let g = fitting (contract_cause w names) (is_small (contracted_post w names)) (is_twice names) (prog.Kid 1) (contract_premises context w names) a e in
    subst (λ b. Each (λ c. IsReady c.context.scope heads c.spec) b.children) (sym g.makes)
    ((contract_ready context.scope heads w ready names g.is_small, tt))
kids_are_ready context heads w (step.Expand names) a ready e =
    let g = fitting (expand_cause context.scope w names) (is_small (expanded_post w names) && nat_le (length (w.frame ++ names)) 64) (is_twice names) (prog.Kid 1) (expand_premises context w names) a e in
    subst (λ b. Each (λ c. IsReady c.context.scope heads c.spec) b.children) (sym g.makes)
    ((expand_ready context.scope heads w ready names (expand_tests context.scope w names g.no_cause) g.once (and_parts (is_small (expanded_post w names)) _ g.is_small).0, tt))
