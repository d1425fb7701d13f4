use Rattle.std.proofs.Common.{◌≡◌, drop}
use Rattle.rw_subst.specs.Conj.{sizes_joined}
use Rattle.rw_subst.specs.Definedness.{conditions_of}
use Rattle.rw_subst.proofs.counting.+count_term.Given as goal

abbrev pub invariant-count_terms-loop-term : goal.invariant-count_terms-loop-term
invariant-count_terms-loop-term l = sizes_joined l.all (conditions_of l.scope (drop l.term-index l.terms)) ≡ sizes_joined l.fn.so_far (conditions_of l.scope l.terms)
