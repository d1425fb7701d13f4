use Rattle.std.proofs.Common.{◌≡◌, drop}
use Rattle.rw_heads.specs.Heads.{find_module}
use Rattle.rw_heads.proofs.modules.find_module.Given as goal

abbrev pub invariant-loop-module : goal.invariant-loop-module
invariant-loop-module l = find_module l.name (drop l.module-index l.modules) ≡ find_module l.name l.modules
