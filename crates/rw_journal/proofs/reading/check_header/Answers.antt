use Rattle.std.proofs.Common.{◌≡◌, ◌≤◌, length}
use Rattle.std.specs.Prelude.{slice_range}
use Rattle.rw_journal.specs.Image.{DiffersAt}
use Rattle.rw_journal.proofs.Offsets.{both_told, differs_in}
use Rattle.rw_journal.proofs.reading.check_header.Goals as goal

pub returns-in-Some-clause-refused : goal.returns-in-Some-clause-refused
returns-in-Some-clause-refused g c = record {
  later = c.read_at.ensures.cause.later;
  kept = tt;
  alone = c.in_ok-read_at.ensures.cause.kept;
  cause = both_told {P = λ file. 8 ≤ length file} {Q = λ file. c.read_at.new.into ≡ slice_range file 0 8} {R = DiffersAt c.in-Some.at} (g.D.Disk.seen c.args.disk.now)
      (λ file le is. differs_in file c.read_at.new.into c.in-Some.at le is c.in-Some.ensures.some) c.requires.within c.in_ok-read_at.ensures.value;
}
