use Rattle.std.proofs.Common.{◌≡◌, drop}
use Rattle.rw_finder.specs.Point.{with_terms}
use Rattle.rw_finder.proofs.point.with_terms.Given as goal

abbrev pub invariant-loop-i : goal.invariant-loop-i
invariant-loop-i l = with_terms l.summands (drop l.i l.atoms) (drop l.i l.values) l.sum ≡ with_terms l.summands l.atoms l.values l.fn.start
