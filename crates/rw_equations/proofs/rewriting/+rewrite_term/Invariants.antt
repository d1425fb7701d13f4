use Rattle.std.proofs.Common.{◌≡◌, map, take}
use Rattle.rw_equations.specs.Rewritten.{rewritten_term}
use Rattle.rw_equations.proofs.rewriting.+rewrite_term.Given as goal

abbrev pub invariant-rewrite_terms-loop-term : goal.invariant-rewrite_terms-loop-term
invariant-rewrite_terms-loop-term l = l.rewritten ≡ map (rewritten_term l.old l.new) (take l.term-index l.terms)
