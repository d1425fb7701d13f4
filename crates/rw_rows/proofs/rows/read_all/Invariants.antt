use Rattle.std.proofs.Common.{◌-◌}
use Rattle.std.specs.Prelude.{vec_len}
use Rattle.std.specs.Io.KnownBytes.{Consumes}
use Rattle.rw_rows.proofs.rows.read_all.Given as goal

abbrev pub invariant-reads : goal.invariant-reads
invariant-reads g l = Consumes (g.I.Source.left l.initial.input) (g.I.Source.left l.input) l.bytes.items

abbrev pub decreases-reads : goal.decreases-reads
decreases-reads g l = 67108865 - vec_len l.bytes
