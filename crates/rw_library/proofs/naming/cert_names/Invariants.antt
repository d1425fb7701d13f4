use Rattle.std.proofs.Common.{◌≡◌, drop}
use Rattle.std.specs.List.{list_any}
use Rattle.rw_library.specs.Naming.{line_names}
use Rattle.rw_library.proofs.naming.cert_names.Given as goal

abbrev pub invariant-loop-line : goal.invariant-loop-line
invariant-loop-line l = list_any (line_names l.name) (drop l.line-index l.line-items) ≡ list_any (line_names l.name) l.cert.lines
