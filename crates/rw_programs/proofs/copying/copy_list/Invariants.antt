use Rattle.std.proofs.Common.{◌≡◌, take}
use Rattle.rw_programs.proofs.copying.copy_list.Given as goal

abbrev pub invariant-loop-name : goal.invariant-loop-name
invariant-loop-name l = l.copies ≡ take l.name-index l.names
