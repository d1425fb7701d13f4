use Rattle.std.proofs.Common.{◌≡◌, ◌+◌, ◌≤◌, drop}
use Rattle.rw_sequents.specs.Counting.{line_count}
use Rattle.rw_sequents.proofs.line.Cert.has_at_most.Given as goal

abbrev pub invariant-loop-line : goal.invariant-loop-line
invariant-loop-line l = record {
  left : l.left ≤ l.most;
  rest : line_count (drop l.line-index l.self.lines) + l.most ≡ line_count l.self.lines + l.left;
}
