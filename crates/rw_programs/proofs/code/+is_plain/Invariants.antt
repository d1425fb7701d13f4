use Rattle.std.proofs.Common.{◌≡◌, drop}
use Rattle.rw_programs.specs.CodeTest.{are_plain}
use Rattle.rw_programs.proofs.code.+is_plain.Given as goal

abbrev pub invariant-are_plain-loop-term : goal.invariant-are_plain-loop-term
invariant-are_plain-loop-term l = are_plain l.fn.terms ≡ are_plain (drop l.term-index l.terms)
