use Rattle.std.proofs.Common.{◌≡◌, map, take}
use Rattle.rw_subst.specs.Replaced.{to_initial}
use Rattle.rw_subst.proofs.replace.changes_to_initial.Given as goal

abbrev pub invariant-loop-name : goal.invariant-loop-name
invariant-loop-name l = l.changes ≡ map to_initial (take l.name-index l.frame)
