use Rattle.std.proofs.Common.{◌≡◌, drop}
use Rattle.rw_heads.specs.Heads.{find_proc}
use Rattle.rw_heads.proofs.procs.find_proc.Given as goal

abbrev pub invariant-loop-proc : goal.invariant-loop-proc
invariant-loop-proc l = find_proc l.name (drop l.proc-index l.procs) ≡ find_proc l.name l.procs
