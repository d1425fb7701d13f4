use Rattle.std.proofs.Common.{◌≡◌, drop}
use Rattle.std.specs.List.{list_any}
use Rattle.rw_lemmas.specs.Citing.{is_unfolding}
use Rattle.rw_lemmas.proofs.citing.has_unfolding.Given as goal

abbrev pub invariant-loop-line : goal.invariant-loop-line
invariant-loop-line l = list_any is_unfolding (drop l.line-index l.lines) ≡ list_any is_unfolding l.lines
