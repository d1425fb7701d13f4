use Rattle.std.proofs.Common.{◌≡◌, map, take}
use Rattle.rw_subst.specs.Leaves.{rebuilt_term}
use Rattle.rw_subst.specs.Rules.{leaves_of}
use Rattle.rw_subst.proofs.build.+build_term.Given as goal

abbrev pub invariant-build_terms-loop-term : goal.invariant-build_terms-loop-term
invariant-build_terms-loop-term l = l.built ≡ map (rebuilt_term (leaves_of l.rule) l.under) (take l.term-index l.terms)
