use Rattle.std.proofs.Common.{◌≡◌, drop}
use Rattle.std.specs.List.{list_any}
use Rattle.rw_library.specs.Naming.{line_cites}
use Rattle.rw_library.proofs.naming.cites.Given as goal

abbrev pub invariant-loop-line : goal.invariant-loop-line
invariant-loop-line l = list_any (line_cites l.name) (drop l.line-index l.line-items) ≡ list_any (line_cites l.name) l.cert.lines
