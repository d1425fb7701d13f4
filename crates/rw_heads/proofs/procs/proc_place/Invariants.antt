use Rattle.std.proofs.Common.{◌≡◌, ◌+◌, drop}
use Rattle.rw_heads.specs.Heads.{proc_place}
use Rattle.rw_heads.proofs.procs.proc_place.Given as goal

abbrev pub invariant-loop-i : goal.invariant-loop-i
invariant-loop-i l = l.i + proc_place l.name (drop l.i l.procs) ≡ proc_place l.name l.procs
