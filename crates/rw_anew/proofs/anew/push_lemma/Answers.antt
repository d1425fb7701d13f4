use Rattle.std.proofs.Common.{◌≡◌, ◌+◌, ◌∙◌, ap}
use Rattle.std.specs.Option.{option_copied}
use Rattle.rw_citations.specs.Goal.{goal_of}
use Rattle.rw_anew.specs.Cost.{cert_cost, lemma_cost}
use Rattle.rw_anew.proofs.Costs.{proof_numbered}
use Rattle.rw_anew.proofs.anew.push_lemma.Goals as goal

pub returns-in_ok-push-in-Lemma-clause-cost : goal.returns-in_ok-push-in-Lemma-clause-cost
returns-in_ok-push-in-Lemma-clause-cost g c =
    let read : cert_cost c.args.library.now c.args.place c.in_ok-goal-in-Lemma.goal (option_copied c.cert_at-cert.result) ≡ lemma_cost c.args.library.now c.args.proofs.now c.args.place c.args.entry.now =
    rw c.in-Lemma.is (
    ap (λ q. cert_cost c.args.library.now c.args.place q (option_copied c.cert_at-cert.result)) c.in_ok-goal-in-Lemma.ensures
    ∙ ap (λ o. cert_cost c.args.library.now c.args.place (goal_of c.in-Lemma.lemma) o) (c.cert_at-cert.ensures ∙ proof_numbered c.args.proofs.now c.args.place)
    ) in
    c.in_ok-state-in-Lemma.ensures.cost ∙ ap (λ n. c.args.steps.now + n) read
