use Rattle.std.proofs.Common.{◌≡◌, sym, ◌∙◌, subst, inl, inr, None, ◌∷◌}
use Rattle.rw_nodes.specs.Parts.{Makes}
use Rattle.rw_tree.specs.Accepting.{IsProject}
use Rattle.rw_tree.specs.Mirror.{early_refusal}
use Rattle.rw_tree.proofs.Clauses.{on_ok, if_err, on_err, late_told, early_told}
use Rattle.rw_tree.proofs.Same.{both_none, refusal_same, made_applied, is_project}
use Rattle.rw_tree.proofs.Sound.{sound_made}
use Rattle.rw_tree.proofs.Bounded.{bounded_made}
use Rattle.rw_tree.proofs.apply.apply_edit.Goals as goal

pub early_refusal-requires : goal.early_refusal-requires
early_refusal-requires c = sound_made c.requires.0 c.requires.1 c.args.parts.now c.requires.2 c.requires.3

pub returns-in-Some-clause-refused : goal.returns-in-Some-clause-refused
returns-in-Some-clause-refused c = λ most l good made. inr (sym (refusal_same most l c.args.parts.now good made c.args.edit.now)
    ∙ early_told _ _ _ (sym c.in_ok-refusal.ensures ∙ c.in-Some.is))

pub apply_within-requires : goal.apply_within-requires
apply_within-requires c = record {
  early = sym c.in_ok-refusal.ensures ∙ c.in_default.is;
  sound = sound_made c.requires.0 c.requires.1 c.args.parts.now c.requires.2 c.requires.3;
  lengths = (bounded_made c.requires.0 c.requires.1 c.args.parts.now c.requires.2 c.requires.3).proofs;
}

pub returns-clause-made : goal.returns-clause-made
returns-clause-made c =
    let none : early_refusal c.args.parts.now c.args.edit.now ≡ None = sym c.in_ok-refusal.ensures ∙ c.in_default.is in
    on_ok c.apply_within.result _ _ (λ h most l good made.
    subst (Makes most (c.args.edit.now ∷ l)) (sym h.1)
    (made_applied most l c.args.parts.now good made c.args.edit.now (both_none _ _ none h.0))) c.apply_within.ensures.ok

pub returns-clause-project : goal.returns-clause-project
returns-clause-project c =
    let none : early_refusal c.args.parts.now c.args.edit.now ≡ None = sym c.in_ok-refusal.ensures ∙ c.in_default.is in
    on_ok c.apply_within.result _ _ (λ h.
    subst IsProject (sym h.1)
    (is_project c.requires.0 c.args.parts.now c.args.edit.now c.requires.1 c.requires.2 c.requires.3 (both_none _ _ none h.0))) c.apply_within.ensures.ok

pub returns-clause-accepted : goal.returns-clause-accepted
returns-clause-accepted c =
    let none : early_refusal c.args.parts.now c.args.edit.now ≡ None = sym c.in_ok-refusal.ensures ∙ c.in_default.is in
    on_ok c.apply_within.result _ _ (λ h most l good made. sym (refusal_same most l c.args.parts.now good made c.args.edit.now) ∙ both_none _ _ none h.0) c.apply_within.ensures.ok

pub returns-clause-refused : goal.returns-clause-refused
returns-clause-refused c =
    let none : early_refusal c.args.parts.now c.args.edit.now ≡ None = sym c.in_ok-refusal.ensures ∙ c.in_default.is in
    if_err c.apply_within.result _ _ (λ e h most l good made. elim h.1 [
      | inl m ↦ inl m
      | inr r ↦ inr (sym (refusal_same most l c.args.parts.now good made c.args.edit.now) ∙ late_told _ _ none ∙ r)
    ]) c.apply_within.ensures.err

pub returns-clause-same : goal.returns-clause-same
returns-clause-same c = on_err c.apply_within.result _ _ (λ e h. h.0) c.apply_within.ensures.err
