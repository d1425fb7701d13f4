use Rattle.std.proofs.Common.{[], Bool, sym, ap, subst, arith}
use Rattle.std.proofs.lemmas.List.{append-nil}
use Rattle.rw_project.specs.Lines.{lines_of}
use Rattle.rw_project.specs.Session.{session}
use Rattle.rw_top.specs.declared.batch.Batch.{Batch}
use Rattle.rw_top.specs.Batch.{Adds, AnswersAll}
use Rattle.rw_top.proofs.Ends.{first_of, part_of_last, sends, cuts}
use Rattle.rw_top.proofs.batch.Batch.finish.Goals as goal

pub returns-in_err-flush-clause-part : goal.returns-in_err-flush-clause-part
returns-in_err-flush-clause-part g c = λ start seen s is.
    let cut = c.in_err-flush.ensures.err in
    part_of_last start _ _ _ _ seen _ _ _ cut.0 _ s c.in-Err.ensures.pending cut.1

pub returns-in-Err-clause-memory : goal.returns-in-Err-clause-memory
returns-in-Err-clause-memory g c = λ start seen s is.
    first_of start _ _ _ _ seen _ _ _ _ [] _ (sym (append-nil seen)) (omega arith) s c.in-Err.ensures.pending c.in_ok-flush.ensures.ok

pub returns-in_err-flush-2-clause-part : goal.returns-in_err-flush-2-clause-part
returns-in_err-flush-2-clause-part g c = λ start seen s is.
    let cut = c.in_err-flush-2.ensures.err in
    let all = c.in_default.ensures.ok start _ seen s in
    let sent = cuts start _ _ _ (session (lines_of seen)) cut.0 (all.0, all.1, all.2.text) cut.1 in
    (sent.0, sent.1, record { rest = sent.2.0; fits = all.2.fits; text = sent.2.1 })

pub returns-clause-ok : goal.returns-clause-ok
returns-clause-ok g c = λ start seen s.
    let all = c.in_default.ensures.ok start _ seen s in
    let sent = sends start _ _ _ (AnswersAll c.finish_line.new.self.refused seen) all c.in_ok-flush-2.ensures.ok in
    let refused = ap (λ (b : Batch). b.refused) c.in_ok-flush-2.ensures.others in
    subst (λ (r : Bool). Adds start (g.O.Sink.held c.flush-2.new.output) (AnswersAll r seen)) (sym refused) sent
