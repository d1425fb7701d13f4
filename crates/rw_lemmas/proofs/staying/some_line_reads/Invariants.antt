use Rattle.std.proofs.Common.{◌≡◌, drop}
use Rattle.std.specs.List.{list_any}
use Rattle.rw_lemmas.specs.Differing.{line_reads}
use Rattle.rw_lemmas.proofs.staying.some_line_reads.Given as goal

abbrev pub invariant-loop-line : goal.invariant-loop-line
invariant-loop-line l = list_any (line_reads l.names l.before) (drop l.line-index l.lines) ≡ list_any (line_reads l.names l.before) l.lines
