use Rattle.std.proofs.Common.{◌≡◌, drop}
use Rattle.rw_programs.specs.Tables.{find_module}
use Rattle.rw_frames.proofs.modules.find_module.Given as goal

abbrev pub invariant-loop-entry : goal.invariant-loop-entry
invariant-loop-entry l = find_module l.name (drop l.entry-index l.modules) ≡ find_module l.name l.modules
