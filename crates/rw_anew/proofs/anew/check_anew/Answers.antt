use Rattle.std.proofs.Common.{◌≡◌, ◌≤◌, ◌+◌, ◌∙◌, ap, sym, subst}
use Rattle.rw_tree.specs.Mirror.{IsBounded}
use Rattle.rw_nodes.specs.Table.{proof_at}
use Rattle.rw_anew.specs.Anew.{lemma_marks}
use Rattle.rw_tree.proofs.Sound.{sound_made}
use Rattle.rw_tree.proofs.Bounded.{bounded_made}
use Rattle.rw_anew.specs.Cost.{lemmas_cost}
use Rattle.rw_anew.proofs.Costs.{on_err, first_within, both_taken, both_within}
use Rattle.rw_anew.proofs.Marked.{anew_same, cost_same}
use Rattle.rw_anew.proofs.anew.check_anew.Goals as goal

pub tree_marks-requires : goal.tree_marks-requires
tree_marks-requires g c = record {
  few = (bounded_made c.requires.0 c.requires.1 c.args.parts.now c.requires.2 c.requires.3).entries;
  sound = sound_made c.requires.0 c.requires.1 c.args.parts.now c.requires.2 c.requires.3;
}

pub lemma_marks-requires : goal.lemma_marks-requires
lemma_marks-requires g c =
    let bounded : IsBounded c.args.parts.now = bounded_made c.requires.0 c.requires.1 c.args.parts.now c.requires.2 c.requires.3 in
    record { few = bounded.entries; short = λ k d is. bounded.short k d (ap (λ ps. proof_at ps k) (sym c.as_slice-proofs.ensures) ∙ is) }

pub returns-clause-anew : goal.returns-clause-anew
returns-clause-anew g c = λ most l good made.
    (λ i. record { nodes = c.in_ok-nodes.ensures.marks i; lemmas = (c.in_ok-lemmas.ensures.marks ∙ ap (λ ps. lemma_marks c.args.parts.now.library ps 0 c.args.parts.now.library.entries) c.as_slice-proofs.ensures) i })
    ∙ anew_same most l c.args.parts.now good made

pub returns-in_err-nodes-clause-memory : goal.returns-in_err-nodes-clause-memory
returns-in_err-nodes-clause-memory g c = on_err c.from_residual.result
    (λ most l good made. subst (λ n. c.tree_marks.new.steps ≤ c.args.steps.now + n) (cost_same most l c.args.parts.now good made) (first_within _ _ _ _ c.in_err-nodes.ensures.memory))

pub returns-in_err-lemmas-clause-memory : goal.returns-in_err-lemmas-clause-memory
returns-in_err-lemmas-clause-memory g c = on_err c.from_residual-in_err-lemmas.result
    (λ most l good made. subst (λ n. c.lemma_marks.new.steps ≤ c.args.steps.now + n) (cost_same most l c.args.parts.now good made)
    (both_within _ _ _ _ _ c.in_ok-nodes.ensures.cost
    (subst (λ ps. c.lemma_marks.new.steps ≤ c.tree_marks.new.steps + lemmas_cost c.args.parts.now.library ps 0 c.args.parts.now.library.entries) c.as_slice-proofs.ensures c.in_err-lemmas.ensures.memory)))

pub returns-clause-cost : goal.returns-clause-cost
returns-clause-cost g c = λ most l good made.
    both_taken _ _ _ _ _ c.in_ok-nodes.ensures.cost
    (subst (λ ps. c.lemma_marks.new.steps ≡ c.tree_marks.new.steps + lemmas_cost c.args.parts.now.library ps 0 c.args.parts.now.library.entries) c.as_slice-proofs.ensures c.in_ok-lemmas.ensures.cost)
    ∙ ap (λ n. c.args.steps.now + n) (cost_same most l c.args.parts.now good made)
