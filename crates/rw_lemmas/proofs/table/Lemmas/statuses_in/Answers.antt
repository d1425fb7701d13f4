use Rattle.std.proofs.Common.{arith}
use Rattle.rw_sequents.proofs.Runs.{on_err}
use Rattle.rw_lemmas.proofs.Unaffected.{none_more, stops_at}
use Rattle.rw_lemmas.proofs.table.Lemmas.statuses_in.Goals as goal

pub returns-in_err-changes-clause-memory : goal.returns-in_err-changes-clause-memory
returns-in_err-changes-clause-memory g c = on_err _ (none_more _ _ _)

pub returns-in_err-status-clause-memory : goal.returns-in_err-status-clause-memory
returns-in_err-status-clause-memory g c =
    on_err _ (stops_at c.args.self.now c.args.library.now c.args.proofs.now c.as_slice-entries.result.now c.args.library.now.entries c.loop-i.i c.index-entries-i.result _ c.args.steps.now c.loop-i.steps c.status_in.new.steps
    c.loop-i.invariant.cost (omega arith) c.index-entries-i.is c.proof_at.ensures c.in_err-status.ensures.memory)

pub returns-in_err-push-clause-memory : goal.returns-in_err-push-clause-memory
returns-in_err-push-clause-memory g c =
    on_err _ (stops_at c.args.self.now c.args.library.now c.args.proofs.now c.as_slice-entries.result.now c.args.library.now.entries c.loop-i.i c.index-entries-i.result _ c.args.steps.now c.loop-i.steps c.status_in.new.steps
    c.loop-i.invariant.cost (omega arith) c.index-entries-i.is c.proof_at.ensures (c.status_in.new.steps, c.in_ok-status.ensures.cost, omega arith))
