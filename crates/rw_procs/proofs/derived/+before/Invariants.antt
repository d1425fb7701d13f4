use Rattle.std.proofs.Common.{◌≡◌, map, take}
use Rattle.rw_subst.specs.Replaced.{replaced_term, to_initial}
use Rattle.rw_procs.proofs.derived.+before.Given as goal

abbrev pub invariant-each_before-loop-term : goal.invariant-each_before-loop-term
invariant-each_before-loop-term l = l.built ≡ map (replaced_term (map to_initial l.frame)) (take l.term-index l.terms)
