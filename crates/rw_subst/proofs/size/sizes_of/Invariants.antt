use Rattle.std.proofs.Common.{◌≡◌, map, take}
use Rattle.rw_subst.specs.Sizes.{term_size}
use Rattle.rw_subst.proofs.size.sizes_of.Given as goal

abbrev pub invariant-loop-change : goal.invariant-loop-change
invariant-loop-change l = l.sizes ≡ map (λ c. term_size c.term) (take l.change-index l.changes)
