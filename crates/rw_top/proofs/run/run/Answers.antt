use Rattle.std.proofs.Common.{◌≡◌, [], refl, sym, ap, ◌∙◌, arith, rules, inl, inr, Err}
use Rattle.std.proofs.KnownBytes.{Consumes-nil, Consumes-trans, Consumes-kept}
use Rattle.std.proofs.lemmas.List.{append-nil}
use Rattle.std.proofs.lemmas.Result.{err_from_is_err_and}
use Rattle.rw_top.specs.declared.stop.Stop.TheVariants.{Memory, LineLimit, WriteFault}
use Rattle.rw_top.proofs.Ends.{stands_none, part_at, whole_of, consumes_none}
use Rattle.rw_top.proofs.run.run.Goals as goal

pub reads-init : goal.reads-init
reads-init g c =
    let fresh = c.new-batch.ensures in record {
      stands = ([], Consumes-nil _, stands_none _ _ _ _ _ _ fresh.pending fresh.project fresh.line fresh.lines fresh.refused);
      read_kept = refl;
      write_kept = refl;
    }

pub returns-in_err-flush-clause-write : goal.returns-in_err-flush-clause-write
returns-in_err-flush-clause-write g c = λ is.
    let inv = c.reads.invariant.stands in
    let cut = c.in_err-flush.ensures.err in
    inl (inv.0, inv.1, part_at _ _ _ _ _ inv.0 _ _ _ cut.0 _ [] _ (sym (append-nil inv.0)) (omega arith) inv.2 refl cut.1)

pub returns-in-Err-clause-read : goal.returns-in-Err-clause-read
returns-in-Err-clause-read g c = λ is.
    let inv = c.reads.invariant.stands in
    let stands = c.in_ok-flush.ensures.stands _ inv.0 inv.2 in
    (inv.0, Consumes-kept _ _ _ inv.0 inv.1 c.in-Err.ensures.bytes, whole_of _ _ _ inv.0 _ _ _ _ c.in_ok-flush.ensures.sent stands)

pub reads-preserved : goal.reads-preserved
reads-preserved g c =
    let inv = c.reads.invariant.stands in
    let stands = c.in_ok-flush.ensures.stands _ inv.0 inv.2 in record {
      stands = (_, Consumes-trans _ _ _ _ _ inv.1 c.in-Ok.ensures.bytes.0, c.in_ok-feed.ensures.ok _ inv.0 stands);
      read_kept = c.in-Ok.ensures.cause.kept ∙ c.reads.invariant.read_kept;
      write_kept = c.in_ok-feed.ensures.kept ∙ c.in_ok-flush.ensures.cause.kept ∙ c.reads.invariant.write_kept;
    }

pub returns-in_err-feed-clause-write : goal.returns-in_err-feed-clause-write
returns-in_err-feed-clause-write g c = λ is.
    let p = err_from_is_err_and c.from_residual-in_err-feed.result c.from_residual-in_err-feed.ensures.1 in
    let e : c.in_err-feed.field-0.0 ≡ WriteFault = cc (p.1, p.2, is) in
    let inv = c.reads.invariant.stands in
    let stands = c.in_ok-flush.ensures.stands _ inv.0 inv.2 in
    inl (_, Consumes-trans _ _ _ _ _ inv.1 c.in-Ok.ensures.bytes.0, c.in_err-feed.ensures.part _ inv.0 stands (ap Err e))

pub returns-in_err-feed-clause-memory : goal.returns-in_err-feed-clause-memory
returns-in_err-feed-clause-memory g c = λ is.
    let p = err_from_is_err_and c.from_residual-in_err-feed.result c.from_residual-in_err-feed.ensures.1 in
    let e : c.in_err-feed.field-0.0 ≡ Memory = cc (p.1, p.2, is) in
    let inv = c.reads.invariant.stands in
    let stands = c.in_ok-flush.ensures.stands _ inv.0 inv.2 in
    (_, Consumes-trans _ _ _ _ _ inv.1 c.in-Ok.ensures.bytes.0, c.in_err-feed.ensures.memory _ inv.0 stands (ap Err e))

pub returns-in_err-feed-clause-limit : goal.returns-in_err-feed-clause-limit
returns-in_err-feed-clause-limit g c = λ is.
    let p = err_from_is_err_and c.from_residual-in_err-feed.result c.from_residual-in_err-feed.ensures.1 in
    let e : c.in_err-feed.field-0.0 ≡ LineLimit = cc (p.1, p.2, is) in
    let inv = c.reads.invariant.stands in
    let stands = c.in_ok-flush.ensures.stands _ inv.0 inv.2 in
    (_, Consumes-trans _ _ _ _ _ inv.1 c.in-Ok.ensures.bytes.0, c.in_err-feed.ensures.limit _ inv.0 stands (ap Err e))

pub returns-in_err-finish-clause-write : goal.returns-in_err-finish-clause-write
returns-in_err-finish-clause-write g c = λ is.
    let p = err_from_is_err_and c.from_residual-in_err-finish.result c.from_residual-in_err-finish.ensures.1 in
    let e : c.in_err-finish.field-0.0 ≡ WriteFault = cc (p.1, p.2, is) in
    let inv = c.reads.invariant.stands in
    let stands = c.in_ok-flush.ensures.stands _ inv.0 inv.2 in
    inr (
      c.in-Ok.ensures.bytes.1 c.if-count-eq0.true (search rules),
      (inv.0, consumes_none _ _ _ inv.0 _ _ inv.1 c.in-Ok.ensures.bytes.0 c.if-count-eq0.true, c.in_err-finish.ensures.part _ inv.0 stands (ap Err e)),
    )

pub returns-in_err-finish-clause-memory : goal.returns-in_err-finish-clause-memory
returns-in_err-finish-clause-memory g c = λ is.
    let p = err_from_is_err_and c.from_residual-in_err-finish.result c.from_residual-in_err-finish.ensures.1 in
    let e : c.in_err-finish.field-0.0 ≡ Memory = cc (p.1, p.2, is) in
    let inv = c.reads.invariant.stands in
    let stands = c.in_ok-flush.ensures.stands _ inv.0 inv.2 in
    (inv.0, consumes_none _ _ _ inv.0 _ _ inv.1 c.in-Ok.ensures.bytes.0 c.if-count-eq0.true, c.in_err-finish.ensures.memory _ inv.0 stands (ap Err e))

pub returns-clause-ended : goal.returns-clause-ended
returns-clause-ended g c =
    let inv = c.reads.invariant.stands in
    let stands = c.in_ok-flush.ensures.stands _ inv.0 inv.2 in
    (inv.0, consumes_none _ _ _ inv.0 _ _ inv.1 c.in-Ok.ensures.bytes.0 c.if-count-eq0.true, c.in_ok-finish.ensures.ok _ inv.0 stands)
