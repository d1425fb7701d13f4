use Rattle.std.proofs.Common.{◌↔◌, ◌-◌, ℕ, List, vec_len}
use Rattle.std.specs.Prelude.{IfSome, IsSome}
use Rattle.rw_io.specs.Crash.{Torn}
use Rattle.rw_io.specs.Moments.{After, LeavesOnly, joined, weaker}
use Rattle.rw_journal.specs.Image.{Image}
use Rattle.rw_journal.specs.Conditions.{IsOneOf}
use Rattle.rw_journal.proofs.Offsets.{map_told, both_told}
use Rattle.rw_journal.proofs.Stored.{Added, first_told, behind_told, second_told, added_told, seen_told, crash_told, stands_told, formed_told}
use Rattle.rw_journal.proofs.writing.store.Goals as goal

pub returns-in_err-write_record-clause-any_moment : goal.returns-in_err-write_record-clause-any_moment
returns-in_err-write_record-clause-any_moment g c =
    let disk = g.D.Disk in
    let old = c.args.disk.now in
    let p = c.args.payload.now in
    let n = vec_len c.write_record.new.buffer in
    map_told {P = λ file. (records : List (List ℕ)) → Image records file → (image : List ℕ) → After (Torn c.args.end n) (disk.may_leave old) image → IsOneOf records p image}
    {Q = λ file. (records : List (List ℕ)) → Image records file → LeavesOnly disk.moment disk.left_since old c.write_record.new.disk (IsOneOf records p)}
    (disk.seen old)
    (λ file h records is. weaker disk.moment disk.left_since old c.write_record.new.disk (After (Torn c.args.end n) (disk.may_leave old)) (IsOneOf records p) (h records is) c.write_record.ensures.any_moment)
    (first_told (disk.seen old) (disk.may_leave old) c.args.end n p c.requires.stands c.requires.formed)

pub returns-in_err-open_gate-clause-any_moment : goal.returns-in_err-open_gate-clause-any_moment
returns-in_err-open_gate-clause-any_moment g c =
    let disk = g.D.Disk in
    let old = c.args.disk.now in
    let mid = c.write_record.new.disk in
    let new = c.open_gate.new.disk in
    let p = c.args.payload.now in
    let n = vec_len c.write_record.new.buffer in
    let behind = behind_told (disk.seen old) (disk.seen mid) (disk.may_leave old) c.args.end p c.write_record.new.buffer.items c.write_record.ensures.bytes c.requires.stands c.requires.formed c.in_ok-write_record.ensures.written in
    both_told {P = λ file. (records : List (List ℕ)) → Image records file → (image : List ℕ) → After (Torn c.args.end n) (disk.may_leave old) image → IsOneOf records p image}
    {Q = λ file. (records : List (List ℕ)) → Image records file → (image : List ℕ) → After (Torn (c.args.end - 1) 1) (disk.may_leave mid) image → IsOneOf records p image}
    {R = λ file. (records : List (List ℕ)) → Image records file → LeavesOnly disk.moment disk.left_since old new (IsOneOf records p)}
    (disk.seen old)
    (λ file h k records is.
    joined disk.moment disk.left_since old mid new (IsOneOf records p)
    (weaker disk.moment disk.left_since old mid (After (Torn c.args.end n) (disk.may_leave old)) (IsOneOf records p) (h records is) c.write_record.ensures.any_moment)
    (weaker disk.moment disk.left_since mid new (After (Torn (c.args.end - 1) 1) (disk.may_leave mid)) (IsOneOf records p) (k records is) c.open_gate.ensures.any_moment))
    (first_told (disk.seen old) (disk.may_leave old) c.args.end n p c.requires.stands c.requires.formed)
    (second_told (disk.seen old) (disk.seen mid) (disk.may_leave old) (disk.may_leave mid) c.args.end p c.requires.record behind c.write_record.ensures.told c.in_ok-write_record.ensures.durable)

pub returns-clause-any_moment : goal.returns-clause-any_moment
returns-clause-any_moment g c =
    let disk = g.D.Disk in
    let old = c.args.disk.now in
    let mid = c.write_record.new.disk in
    let new = c.open_gate.new.disk in
    let p = c.args.payload.now in
    let n = vec_len c.write_record.new.buffer in
    let behind = behind_told (disk.seen old) (disk.seen mid) (disk.may_leave old) c.args.end p c.write_record.new.buffer.items c.write_record.ensures.bytes c.requires.stands c.requires.formed c.in_ok-write_record.ensures.written in
    both_told {P = λ file. (records : List (List ℕ)) → Image records file → (image : List ℕ) → After (Torn c.args.end n) (disk.may_leave old) image → IsOneOf records p image}
    {Q = λ file. (records : List (List ℕ)) → Image records file → (image : List ℕ) → After (Torn (c.args.end - 1) 1) (disk.may_leave mid) image → IsOneOf records p image}
    {R = λ file. (records : List (List ℕ)) → Image records file → LeavesOnly disk.moment disk.left_since old new (IsOneOf records p)}
    (disk.seen old)
    (λ file h k records is.
    joined disk.moment disk.left_since old mid new (IsOneOf records p)
    (weaker disk.moment disk.left_since old mid (After (Torn c.args.end n) (disk.may_leave old)) (IsOneOf records p) (h records is) c.write_record.ensures.any_moment)
    (weaker disk.moment disk.left_since mid new (After (Torn (c.args.end - 1) 1) (disk.may_leave mid)) (IsOneOf records p) (k records is) c.open_gate.ensures.any_moment))
    (first_told (disk.seen old) (disk.may_leave old) c.args.end n p c.requires.stands c.requires.formed)
    (second_told (disk.seen old) (disk.seen mid) (disk.may_leave old) (disk.may_leave mid) c.args.end p c.requires.record behind c.write_record.ensures.told c.in_ok-write_record.ensures.durable)

-- the file after both writes, where the disk tells it
added : (g : _) (c : goal.In_ok-open_gate g) → IfSome (g.D.Disk.seen c.args.disk.now) (λ file. IfSome (g.D.Disk.seen c.open_gate.new.disk) (Added (g.D.Disk.may_leave c.args.disk.now) c.args.end c.args.payload.now (g.D.Disk.may_leave c.open_gate.new.disk) file))
added g c =
    let disk = g.D.Disk in
    let old = c.args.disk.now in
    let mid = c.write_record.new.disk in
    let new = c.open_gate.new.disk in
    let p = c.args.payload.now in
    let behind = behind_told (disk.seen old) (disk.seen mid) (disk.may_leave old) c.args.end p c.write_record.new.buffer.items c.write_record.ensures.bytes c.requires.stands c.requires.formed c.in_ok-write_record.ensures.written in
    added_told (disk.seen old) (disk.seen mid) (disk.seen new) (disk.may_leave old) (disk.may_leave new) c.args.end p c.requires.record behind c.write_record.ensures.told c.open_gate.ensures.told c.in_ok-open_gate.ensures.written c.in_ok-open_gate.ensures.durable

told : (g : _) (c : goal.In_ok-open_gate g) → IsSome (g.D.Disk.seen c.args.disk.now) ↔ IsSome (g.D.Disk.seen c.open_gate.new.disk)
told g c = (λ s. c.open_gate.ensures.told.0 (c.write_record.ensures.told.0 s), λ s. c.write_record.ensures.told.1 (c.open_gate.ensures.told.1 s))

pub returns-clause-acknowledged : goal.returns-clause-acknowledged
returns-clause-acknowledged g c = let disk = g.D.Disk in crash_told (disk.may_leave c.args.disk.now) (disk.may_leave c.open_gate.new.disk) c.args.end c.args.payload.now (disk.seen c.args.disk.now) (disk.seen c.open_gate.new.disk) (told g c) (added g c)

pub returns-clause-seen : goal.returns-clause-seen
returns-clause-seen g c = let disk = g.D.Disk in seen_told (disk.may_leave c.args.disk.now) (disk.may_leave c.open_gate.new.disk) c.args.end c.args.payload.now (disk.seen c.args.disk.now) (disk.seen c.open_gate.new.disk) (added g c)

pub returns-clause-stands : goal.returns-clause-stands
returns-clause-stands g c = let disk = g.D.Disk in stands_told (disk.may_leave c.args.disk.now) (disk.may_leave c.open_gate.new.disk) c.args.end c.args.payload.now (disk.seen c.args.disk.now) (disk.seen c.open_gate.new.disk) (told g c) (added g c)

pub returns-clause-formed : goal.returns-clause-formed
returns-clause-formed g c = let disk = g.D.Disk in formed_told (disk.may_leave c.args.disk.now) (disk.may_leave c.open_gate.new.disk) c.args.end c.args.payload.now (disk.seen c.args.disk.now) (disk.seen c.open_gate.new.disk) (told g c) (added g c)

pub returns-in_err-write_record-clause-left : goal.returns-in_err-write_record-clause-left
returns-in_err-write_record-clause-left g c =
    let disk = g.D.Disk in
    let old = c.args.disk.now in
    let new = c.write_record.new.disk in
    let p = c.args.payload.now in
    map_told {P = λ file. (records : List (List ℕ)) → Image records file → LeavesOnly disk.moment disk.left_since old new (IsOneOf records p)}
    {Q = λ file. (records : List (List ℕ)) → Image records file → (image : List ℕ) → disk.may_leave new image → IsOneOf records p image}
    (disk.seen old)
    (λ file h records is image now. (h records is).each image (g.met.D.Disk.counts_now new (disk.moment old) image (h records is).later now))
    (returns-in_err-write_record-clause-any_moment g c)

pub returns-in_err-open_gate-clause-left : goal.returns-in_err-open_gate-clause-left
returns-in_err-open_gate-clause-left g c =
    let disk = g.D.Disk in
    let old = c.args.disk.now in
    let new = c.open_gate.new.disk in
    let p = c.args.payload.now in
    map_told {P = λ file. (records : List (List ℕ)) → Image records file → LeavesOnly disk.moment disk.left_since old new (IsOneOf records p)}
    {Q = λ file. (records : List (List ℕ)) → Image records file → (image : List ℕ) → disk.may_leave new image → IsOneOf records p image}
    (disk.seen old)
    (λ file h records is image now. (h records is).each image (g.met.D.Disk.counts_now new (disk.moment old) image (h records is).later now))
    (returns-in_err-open_gate-clause-any_moment g c)

pub returns-clause-left : goal.returns-clause-left
returns-clause-left g c =
    let disk = g.D.Disk in
    let old = c.args.disk.now in
    let new = c.open_gate.new.disk in
    let p = c.args.payload.now in
    map_told {P = λ file. (records : List (List ℕ)) → Image records file → LeavesOnly disk.moment disk.left_since old new (IsOneOf records p)}
    {Q = λ file. (records : List (List ℕ)) → Image records file → (image : List ℕ) → disk.may_leave new image → IsOneOf records p image}
    (disk.seen old)
    (λ file h records is image now. (h records is).each image (g.met.D.Disk.counts_now new (disk.moment old) image (h records is).later now))
    (returns-clause-any_moment g c)
