use Rattle.std.proofs.Common.{◌≡◌, true, IfOk, ◌∙◌, subst}
use Rattle.rw_faults.specs.Limits.{is_small}
use Rattle.rw_subst.specs.Replaced.{replaced_formula}
use Rattle.rw_procs.specs.Laws.{asked}
use Rattle.rw_procs.proofs.derived.asked.Goals as goal

pub returns-clause-small : goal.returns-clause-small
unfolding asked
returns-clause-small c = subst (λ cs. IfOk c.replaced.result (λ f. is_small (replaced_formula cs c.args.head.now.pre) ≡ true)) (c.as_slice.ensures ∙ c.in_ok-changes.ensures) c.replaced.ensures.small
