use Rattle.std.proofs.Common.{ap, ◌∙◌, arith}
use Rattle.rw_numbering.specs.declared.tally.Tally.{out-Tally}
use Rattle.rw_numbering.proofs.Tallied.{tally_loops}
use Rattle.rw_numbering.proofs.tables.number_body.Goals as goal

pub returns-in-Some-clause-next : goal.returns-in-Some-clause-next
returns-in-Some-clause-next c =
    let h = ap (λ t. (out-Tally t).loops) c.in_ok-tally.ensures ∙ tally_loops c.args.prog.now in
    let s = c.in-Some.ensures in
    omega (arith, h, s)
