use Rattle.std.proofs.Common.{◌≡◌, ℕ, List}
use Rattle.std.specs.Io.KnownBytes.{Consumes}
use Rattle.rw_top.specs.Batch.{Stands, bytes_to_come}
use Rattle.rw_top.proofs.run.run.Given as goal

abbrev pub invariant-reads : goal.invariant-reads
invariant-reads g l = record {
  stands :
      (seen : List ℕ) × Consumes (g.I.Source.left l.initial.input) (g.I.Source.left l.input) seen
      × Stands (g.O.Sink.held l.initial.output) (g.O.Sink.held l.output) l.batch.pending.items seen l.batch.project l.batch.line.items l.batch.lines l.batch.refused;
  read_kept : g.I.Source.read_faults l.input ≡ g.I.Source.read_faults l.initial.input;
  write_kept : g.O.Sink.write_faults l.output ≡ g.O.Sink.write_faults l.initial.output;
}

abbrev pub decreases-reads : goal.decreases-reads
decreases-reads g l = bytes_to_come l.batch.line.items l.batch.lines
