use Rattle.std.proofs.Common.{◌≡◌, drop}
use Rattle.rw_arith.specs.Polynomials.{place, further}
use Rattle.rw_arith.proofs.poly.place_of.Given as goal

abbrev pub invariant-loop-i : goal.invariant-loop-i
invariant-loop-i l = further l.i (place l.atoms (drop l.i l.summands)) ≡ place l.atoms l.summands
