use Rattle.std.proofs.Common.{◌≡◌, drop}
use Rattle.rw_heads.specs.Heads.{has_module}
use Rattle.rw_heads.proofs.modules.has_module.Given as goal

abbrev pub invariant-loop-module : goal.invariant-loop-module
invariant-loop-module l = has_module l.name (drop l.module-index l.modules) ≡ has_module l.name l.modules
