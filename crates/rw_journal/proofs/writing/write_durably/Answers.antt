use Rattle.std.proofs.Common.{length}
use Rattle.rw_io.specs.Crash.{Torn}
use Rattle.rw_io.specs.CrashLaws.{torn_same}
use Rattle.rw_io.specs.Moments.{After, started, goes_on}
use Rattle.rw_journal.proofs.writing.write_durably.Goals as goal

pub returns-in_err-write_at-clause-any_moment : goal.returns-in_err-write_at-clause-any_moment
returns-in_err-write_at-clause-any_moment g c =
    let disk = g.D.Disk in
    let old = c.args.disk.now in
    let P = After (Torn c.args.at (length c.args.bytes.now)) (disk.may_leave old) in
    goes_on disk.moment disk.left_since old old c.write_at.new.self P (disk.may_leave c.write_at.new.self)
    (started disk.moment disk.left_since old P (λ image left. (image, g.met.D.Disk.only_now old image left, torn_same c.args.at (length c.args.bytes.now) image)))
    c.write_at.ensures.time c.write_at.ensures.crash

pub returns-in_err-sync-clause-any_moment : goal.returns-in_err-sync-clause-any_moment
returns-in_err-sync-clause-any_moment g c =
    let disk = g.D.Disk in
    let old = c.args.disk.now in
    let P = After (Torn c.args.at (length c.args.bytes.now)) (disk.may_leave old) in
    goes_on disk.moment disk.left_since old c.write_at.new.self c.sync.new.self P (disk.may_leave c.sync.new.self)
    (goes_on disk.moment disk.left_since old old c.write_at.new.self P (disk.may_leave c.write_at.new.self)
    (started disk.moment disk.left_since old P (λ image left. (image, g.met.D.Disk.only_now old image left, torn_same c.args.at (length c.args.bytes.now) image)))
    c.write_at.ensures.time c.write_at.ensures.crash)
    c.sync.ensures.time (λ image now. c.write_at.ensures.crash image (c.sync.ensures.crash image now))

pub returns-clause-any_moment : goal.returns-clause-any_moment
returns-clause-any_moment g c =
    let disk = g.D.Disk in
    let old = c.args.disk.now in
    let P = After (Torn c.args.at (length c.args.bytes.now)) (disk.may_leave old) in
    goes_on disk.moment disk.left_since old c.write_at.new.self c.sync.new.self P (disk.may_leave c.sync.new.self)
    (goes_on disk.moment disk.left_since old old c.write_at.new.self P (disk.may_leave c.write_at.new.self)
    (started disk.moment disk.left_since old P (λ image left. (image, g.met.D.Disk.only_now old image left, torn_same c.args.at (length c.args.bytes.now) image)))
    c.write_at.ensures.time c.write_at.ensures.crash)
    c.sync.ensures.time (λ image now. c.write_at.ensures.crash image (c.sync.ensures.crash image now))
