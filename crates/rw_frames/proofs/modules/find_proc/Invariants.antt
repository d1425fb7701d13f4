use Rattle.std.proofs.Common.{◌≡◌, drop}
use Rattle.rw_programs.specs.Tables.{find_proc}
use Rattle.rw_frames.proofs.modules.find_proc.Given as goal

abbrev pub invariant-loop-entry : goal.invariant-loop-entry
invariant-loop-entry l = find_proc l.name (drop l.entry-index l.procs) ≡ find_proc l.name l.procs
