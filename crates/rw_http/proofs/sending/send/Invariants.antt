use Rattle.std.proofs.Common.{◌≡◌, ◌≤◌, ◌-◌, length, take}
use Rattle.std.specs.Io.KnownBytes.{Appends}
use Rattle.rw_http.proofs.sending.send.Given as goal

abbrev pub invariant-loop-done : goal.invariant-loop-done
invariant-loop-done g l = record {
  written : Appends (g.P.Sink.held l.initial.peer) (g.P.Sink.held l.peer) (take l.done l.bytes);
  faults : g.P.Sink.write_faults l.peer ≡ g.P.Sink.write_faults l.initial.peer;
  within : l.done ≤ length l.bytes;
  left : g.P.Source.left l.peer ≡ g.P.Source.left l.initial.peer;
  taken : g.P.Source.taken l.peer ≡ g.P.Source.taken l.initial.peer;
  read_faults : g.P.Source.read_faults l.peer ≡ g.P.Source.read_faults l.initial.peer;
}

abbrev pub decreases-loop-done : goal.decreases-loop-done
decreases-loop-done g l = length l.bytes - l.done
