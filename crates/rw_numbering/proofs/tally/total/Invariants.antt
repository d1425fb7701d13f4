use Rattle.std.proofs.Common.{◌≡◌, ◌+◌, drop}
use Rattle.rw_numbering.specs.Tallies.{total}
use Rattle.rw_numbering.proofs.tally.total.Given as goal

-- the sum so far and the parts that are left
abbrev pub invariant-loop-part : goal.invariant-loop-part
invariant-loop-part l = l.sum + total (drop l.part-index l.parts) ≡ l.own + total l.parts
