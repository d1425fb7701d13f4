use Rattle.std.proofs.Common.{ℕ, List, subst}
use Rattle.std.specs.Io.KnownBytes.{Appends}
use Rattle.rw_top.proofs.Steps.{stands_sent}
use Rattle.rw_top.proofs.batch.Batch.flush.Goals as goal

pub returns-clause-stands : goal.returns-clause-stands
returns-clause-stands g c = λ start seen s.
    let adds = subst (λ (l : List ℕ). Appends (g.O.Sink.held c.args.output.now) (g.O.Sink.held c.write_all.new.output) l) c.deref.ensures.value c.in_ok-write_all.ensures.ok in
    stands_sent start _ _ _ _ seen _ _ _ _ s adds c.clear.ensures.items
