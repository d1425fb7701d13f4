use Rattle.std.proofs.Common.{◌∙◌, sym, subst, arith}
use Rattle.rw_sequents.specs.After.{IsCounted}
use Rattle.rw_sequents.proofs.Counts.{few}
use Rattle.rw_examples.proofs.lemmas.put.Goals as goal

pub set-requires-clause-counted : goal.set-requires-clause-counted
set-requires-clause-counted g c =
    subst IsCounted (sym c.in_ok-cert.ensures) (few c.args.cert.now 100 (omega arith) (sym c.has_at_most.ensures ∙ c.if-not-has_at_most.false))
