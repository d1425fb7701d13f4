use Rattle.std.proofs.Common.{◌≡◌, drop}
use Rattle.std.specs.List.{list_any}
use Rattle.rw_elimination.specs.declared.writing.Written.{Written}
use Rattle.rw_elimination.specs.Writing.{adds}
use Rattle.rw_elimination.proofs.writing.is_added.Given as goal

abbrev pub invariant-loop-row : goal.invariant-loop-row
invariant-loop-row l = list_any (λ (x : Written). adds l.number x.parts) (drop l.row-index l.needed) ≡ list_any (λ (x : Written). adds l.number x.parts) l.needed
