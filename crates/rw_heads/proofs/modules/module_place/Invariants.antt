use Rattle.std.proofs.Common.{◌≡◌, ◌+◌, drop}
use Rattle.rw_heads.specs.Heads.{module_place}
use Rattle.rw_heads.proofs.modules.module_place.Given as goal

abbrev pub invariant-loop-i : goal.invariant-loop-i
invariant-loop-i l = l.i + module_place l.name (drop l.i l.modules) ≡ module_place l.name l.modules
