use Rattle.std.proofs.Common.{length}
use Rattle.rw_io.specs.CrashLaws.{torn_same}
use Rattle.rw_disk.proofs.file_disk.FileDiskDisk.write_at.Goals as goal

pub returns-clause-crash : goal.returns-clause-crash
returns-clause-crash g c = λ image left. (image, tt, torn_same c.args.at (length c.args.bytes.now) image)
