use Rattle.std.proofs.Common.{◌≡◌, take}
use Rattle.rw_programs.proofs.copying.copy_sequents.Given as goal

abbrev pub invariant-loop-sequent : goal.invariant-loop-sequent
invariant-loop-sequent l = l.copies ≡ take l.sequent-index l.sequents
