use Rattle.std.proofs.Common.{◌≡◌, ◌≤◌, ◌+◌, ◌++◌, ℕ, List, Option, take}
use Rattle.rw_top.specs.Batch.{Stands, bytes_to_come}
use Rattle.rw_top.proofs.batch.Batch.feed.Given as goal

abbrev pub invariant-loop-byte : goal.invariant-loop-byte
invariant-loop-byte g l = record {
  stands :
      (start : Option (List ℕ)) (seen : List ℕ) → Stands start (g.O.Sink.held l.initial.output) l.initial.self.pending.items seen l.initial.self.project l.initial.self.line.items l.initial.self.lines l.initial.self.refused
      → Stands start (g.O.Sink.held l.output) l.self.pending.items (seen ++ take l.byte-index l.bytes) l.self.project l.self.line.items l.self.lines l.self.refused;
  room : bytes_to_come l.self.line.items l.self.lines + l.byte-index ≤ bytes_to_come l.initial.self.line.items l.initial.self.lines;
  kept : g.O.Sink.write_faults l.output ≡ g.O.Sink.write_faults l.initial.output;
}
