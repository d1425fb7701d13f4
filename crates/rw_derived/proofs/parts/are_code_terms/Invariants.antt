use Rattle.std.proofs.Common.{◌≡◌, drop}
use Rattle.rw_derived.specs.Causes.{are_code_terms}
use Rattle.rw_derived.proofs.parts.are_code_terms.Given as goal

abbrev pub invariant-loop-term : goal.invariant-loop-term
invariant-loop-term l = are_code_terms l.scope l.fn.terms ≡ are_code_terms l.scope (drop l.term-index l.terms)
