use Rattle.rw_io.specs.CrashLaws.{cut_same}
use Rattle.rw_disk.proofs.file_disk.FileDiskDisk.cut.Goals as goal

pub returns-clause-crash : goal.returns-clause-crash
returns-clause-crash g c = λ image left. (image, tt, cut_same c.args.len image)
