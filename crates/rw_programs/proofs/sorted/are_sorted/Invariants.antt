use Rattle.std.proofs.Common.{◌≡◌, drop}
use Rattle.rw_programs.specs.Scoped.{are_sorted}
use Rattle.rw_programs.proofs.sorted.are_sorted.Given as goal

abbrev pub invariant-loop-term : goal.invariant-loop-term
invariant-loop-term l = are_sorted l.scope l.binders l.fn.terms ≡ are_sorted l.scope l.binders (drop l.term-index l.terms)
