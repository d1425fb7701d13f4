use Rattle.std.proofs.Common.{◌≡◌, ◌-◌, length}
use Rattle.rw_http.specs.Moves.{TakesMore}
use Rattle.rw_http.proofs.intake.Intake.fill_to.Given as goal

abbrev pub invariant-fills : goal.invariant-fills
invariant-fills g l = record {
  takes : TakesMore (g.P.Source.left l.initial.peer) (g.P.Source.left l.peer) (g.P.Source.taken l.initial.peer) (g.P.Source.taken l.peer) l.initial.self l.self;
  faults : g.P.Source.read_faults l.peer ≡ g.P.Source.read_faults l.initial.peer;
  held : g.P.Sink.held l.peer ≡ g.P.Sink.held l.initial.peer;
  write_faults : g.P.Sink.write_faults l.peer ≡ g.P.Sink.write_faults l.initial.peer;
}

abbrev pub decreases-fills : goal.decreases-fills
decreases-fills g l = l.total - length l.self
