use Rattle.std.proofs.Common.{◌≡◌, ◌+◌, drop}
use Rattle.std.specs.Prelude.{option_map}
use Rattle.rw_numbering.specs.Tables.{place_of_body}
use Rattle.rw_numbering.proofs.numbered.place_of_body.Given as goal

abbrev pub invariant-loop-i : goal.invariant-loop-i
invariant-loop-i l = option_map (λ at. l.i + at) (place_of_body l.name (drop l.i l.procs)) ≡ place_of_body l.name l.procs
