use Rattle.std.proofs.Common.{◌≡◌, ◌++◌, map, take}
use Rattle.rw_fits.proofs.names.push_module_places.Given as goal

abbrev pub invariant-loop-owner : goal.invariant-loop-owner
invariant-loop-owner l = l.places ≡ l.fn.places ++ map (λ e. e.place) (take l.owner-index l.modules)
