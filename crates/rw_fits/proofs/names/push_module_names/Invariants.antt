use Rattle.std.proofs.Common.{◌≡◌, ◌++◌, map, take}
use Rattle.rw_fits.proofs.names.push_module_names.Given as goal

abbrev pub invariant-loop-owner : goal.invariant-loop-owner
invariant-loop-owner l = l.names ≡ l.fn.names ++ map (λ e. e.name) (take l.owner-index l.modules)
