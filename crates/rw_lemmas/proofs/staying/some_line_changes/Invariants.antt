use Rattle.std.proofs.Common.{◌≡◌, drop}
use Rattle.std.specs.List.{list_any}
use Rattle.rw_lemmas.specs.Differing.{line_changes}
use Rattle.rw_lemmas.proofs.staying.some_line_changes.Given as goal

abbrev pub invariant-loop-line : goal.invariant-loop-line
invariant-loop-line l = list_any (line_changes l.changes l.before l.after) (drop l.line-index l.lines) ≡ list_any (line_changes l.changes l.before l.after) l.lines
