use Rattle.std.proofs.Common.{◌≡◌, take}
use Rattle.rw_heads.proofs.copying.copy_procs.Given as goal

abbrev pub invariant-loop-proc : goal.invariant-loop-proc
invariant-loop-proc l = l.copies ≡ take l.proc-index l.procs
