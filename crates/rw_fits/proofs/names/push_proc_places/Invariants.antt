use Rattle.std.proofs.Common.{◌≡◌, ◌++◌, map, take}
use Rattle.rw_fits.proofs.names.push_proc_places.Given as goal

abbrev pub invariant-loop-entry : goal.invariant-loop-entry
invariant-loop-entry l = l.places ≡ l.fn.places ++ map (λ e. e.place) (take l.entry-index l.procs)
