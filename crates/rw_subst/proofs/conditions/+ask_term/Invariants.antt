use Rattle.std.proofs.Common.{◌≡◌, ◌++◌, drop}
use Rattle.rw_subst.specs.Definedness.{conditions_of}
use Rattle.rw_subst.proofs.conditions.+ask_term.Given as goal

abbrev pub invariant-ask_terms-loop-term : goal.invariant-ask_terms-loop-term
invariant-ask_terms-loop-term l = l.found ++ conditions_of l.scope (drop l.term-index l.terms) ≡ l.fn.found ++ conditions_of l.scope l.terms
