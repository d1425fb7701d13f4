use Rattle.std.proofs.Common.{◌≡◌, drop}
use Rattle.rw_evaluation.specs.Stored.{further, place_of}
use Rattle.rw_evaluation.proofs.store.place_of.Given as goal

abbrev pub invariant-loop-i : goal.invariant-loop-i
invariant-loop-i l = further l.i (place_of l.name (drop l.i l.store)) ≡ place_of l.name l.store
