use Rattle.std.proofs.Common.{◌≡◌, ◌++◌, drop}
use Rattle.rw_citations.specs.Cited.{changes_for}
use Rattle.rw_citations.proofs.instance.changes_for.Given as goal

abbrev pub invariant-loop-i : goal.invariant-loop-i
invariant-loop-i l = l.changes ++ changes_for (drop l.i l.params) (drop l.i l.terms) ≡ changes_for l.params l.terms
