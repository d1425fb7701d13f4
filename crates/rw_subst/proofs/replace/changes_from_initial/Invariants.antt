use Rattle.std.proofs.Common.{◌≡◌, map, take}
use Rattle.rw_subst.specs.Replaced.{from_initial}
use Rattle.rw_subst.proofs.replace.changes_from_initial.Given as goal

abbrev pub invariant-loop-name : goal.invariant-loop-name
invariant-loop-name l = l.changes ≡ map from_initial (take l.name-index l.frame)
