use Rattle.std.proofs.Common.{◌≡◌, drop}
use Rattle.rw_heads.specs.Heads.{has_proc}
use Rattle.rw_heads.proofs.procs.has_proc.Given as goal

abbrev pub invariant-loop-proc : goal.invariant-loop-proc
invariant-loop-proc l = has_proc l.name (drop l.proc-index l.procs) ≡ has_proc l.name l.procs
