use Rattle.rw_sequents.proofs.Runs.{on_err}
use Rattle.rw_lemmas.proofs.Unaffected.{none_for, some_for}
use Rattle.rw_lemmas.proofs.table.Lemmas.lemma_status_in.Goals as goal

pub returns-in_err-status-clause-memory : goal.returns-in_err-status-clause-memory
returns-in_err-status-clause-memory g c = on_err _ (none_for c.args.self.now c.args.library.now c.args.place c.args.lemma.now c.args.cert.now c.args.steps.now)

pub returns-in-None-clause-memory : goal.returns-in-None-clause-memory
returns-in-None-clause-memory g c =
    on_err _ (some_for c.args.self.now c.args.library.now c.args.place c.args.lemma.now c.args.cert.now c.args.steps.now c.checked.new.steps (c.in_ok-status.ensures.affected c.in-None.is) c.checked.ensures.most)
