use Rattle.std.proofs.Common.{◌≡◌, ◌++◌, drop}
use Rattle.rw_finder.specs.Finding.{point_of}
use Rattle.rw_finder.proofs.find.point_of.Given as goal

abbrev pub invariant-loop-i : goal.invariant-loop-i
invariant-loop-i l = l.point ++ point_of (drop l.i l.atoms) (drop l.i l.values) ≡ point_of l.atoms l.values
