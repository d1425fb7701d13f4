use Rattle.std.proofs.Common.{◌≡◌, ◌+◌, ◌++◌, ◌∷◌, [], List, ℕ, length, drop, ap, sym, ◌∙◌, subst, arith, rules, length-append, ◌<◌, vec_len}
use Rattle.std.specs.List.{AllByRecursion}
use Rattle.std.specs.Prelude.{IfSome, Option}
use Rattle.rw_io.specs.Moments.{reads_joined}
use Rattle.rw_journal.specs.Image.{header, IsRecord, block, blocks}
use Rattle.rw_journal.specs.Found.{payloads}
use Rattle.rw_journal.proofs.Offsets.{both_told, payloads_push, blocks_push, length_block, all_push, form_push}
use Rattle.rw_journal.proofs.reading.read_records.Goals as goal

pub each-preserved : goal.each-preserved
each-preserved g c =
    let disk = g.D.Disk in
    let inv = c.each.invariant in
    let p = c.in-Some.payload in
    let ps = payloads c.each.records in
    let more : payloads c.push.new.self ≡ ps ++ p.items ∷ [] = payloads_push c.each.records c.push.new.self (record { payload = c.from_vec.result }) p.items c.in_ok-push-in-Some.ensures.ok c.from_vec.ensures in
    let one = c.in_ok-read_record.ensures in
    let is_record : IsRecord p.items = rw c.in-Some.is at one.record in
    let some : IfSome (disk.seen c.each.disk) (λ file. drop c.each.gate file ≡ block p.items ++ drop (c.each.gate + 5 + vec_len p) file) = rw c.in-Some.is at one.some in
    let short : c.each.gate + 5 + vec_len p < c.args.len = rw c.in-Some.is at one.whole in
    let long : vec_len p ≡ length p.items = search rules in
    let told : IfSome (disk.seen c.args.disk.now) (λ file. drop c.each.gate file ≡ block p.items ++ drop (c.each.gate + 5 + vec_len p) file) =
    subst (λ (t : Option (List ℕ)). IfSome t (λ file. drop c.each.gate file ≡ block p.items ++ drop (c.each.gate + 5 + vec_len p) file)) inv.reads.same some in
    let next : c.each.gate + (5 + c.len.result) ≡ c.each.gate + 5 + vec_len p = omega (arith, c.len.ensures) in
    record {
      attached = one.attached;
      within = omega (arith, short, c.len.ensures);
      gate = omega (arith, inv.gate, ap (λ (l : List (List ℕ)). length (blocks l)) more, ap length (blocks_push ps p.items), length-append (blocks ps) (block p.items), length_block p.items, long, c.len.ensures);
      whole = subst (AllByRecursion IsRecord) (sym more) (all_push ps p.items inv.whole is_record);
      form = both_told {P = λ file. file ≡ header ++ blocks ps ++ drop c.each.gate file} {Q = λ file. drop c.each.gate file ≡ block p.items ++ drop (c.each.gate + 5 + vec_len p) file} {R = λ file. file ≡ header ++ blocks (payloads c.push.new.self) ++ drop (c.each.gate + (5 + c.len.result)) file} (disk.seen c.args.disk.now)
          (λ file form is. form_push file ps p.items (drop c.each.gate file) (drop (c.each.gate + 5 + vec_len p) file) form is
          ∙ ap (λ (l : List (List ℕ)). header ++ blocks l ++ drop (c.each.gate + 5 + vec_len p) file) (sym more)
          ∙ ap (λ (k : ℕ). header ++ blocks (payloads c.push.new.self) ++ drop k file) (sym next)) inv.form told;
      reads = reads_joined disk.seen disk.may_leave disk.moment disk.left_since c.args.disk.now c.each.disk c.read_record.new.disk inv.reads one.reads;
      faults = one.refused.kept ∙ inv.faults;
    }
