use Rattle.std.proofs.Common.{◌≡◌, ◌++◌, drop}
use Rattle.rw_derived.specs.Derived.{without}
use Rattle.rw_derived.proofs.derived.without.Given as goal

abbrev pub invariant-loop-name : goal.invariant-loop-name
invariant-loop-name l = l.kept ++ without l.names (drop l.name-index l.frame) ≡ without l.names l.fn.frame
