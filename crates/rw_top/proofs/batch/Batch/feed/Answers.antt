use Rattle.std.proofs.Common.{◌≡◌, ◌+◌, ◌<◌, ◌≤◌, ◌∙◌, ◌++◌, [], ◌∷◌, ℕ, List, length, take, drop, get_or, refl, subst, arith, length-drop}
use Rattle.std.proofs.lemmas.List.{take_all}
use Rattle.rw_top.specs.Batch.{StandsAt}
use Rattle.rw_top.proofs.Ends.{first_of, short_of, part_at, at_place, past_place, one_more}
use Rattle.rw_top.proofs.batch.Batch.feed.Goals as goal

pub returns-in_err-flush-clause-part : goal.returns-in_err-flush-clause-part
returns-in_err-flush-clause-part g c = λ start seen s is.
    let bytes = c.args.bytes.now in
    let i = c.loop-byte.byte-index in
    let cut = c.in_err-flush.ensures.err in
    let soon : length (get_or bytes i 0 ∷ drop (i + 1) bytes) ≤ 65536 = omega (arith, length-drop (i + 1) bytes) in
    part_at start _ _ _ _ (seen ++ take i bytes) _ _ _ cut.0 _ (get_or bytes i 0 ∷ drop (i + 1) bytes) _ (at_place seen bytes i (omega arith)) soon (c.loop-byte.invariant.stands start seen s) c.in-Err.ensures.pending cut.1

pub returns-in-Err-clause-memory : goal.returns-in-Err-clause-memory
returns-in-Err-clause-memory g c = λ start seen s is.
    let bytes = c.args.bytes.now in
    let i = c.loop-byte.byte-index in
    let soon : length (get_or bytes i 0 ∷ drop (i + 1) bytes) ≤ 65536 = omega (arith, length-drop (i + 1) bytes) in
    first_of start _ _ _ _ (seen ++ take i bytes) _ _ _ _ (get_or bytes i 0 ∷ drop (i + 1) bytes) _ (at_place seen bytes i (omega arith)) soon (c.loop-byte.invariant.stands start seen s) c.in-Err.ensures.pending c.in_ok-flush.ensures.ok

pub returns-in-Err-clause-limit : goal.returns-in-Err-clause-limit
returns-in-Err-clause-limit g c = λ start seen s is.
    let bytes = c.args.bytes.now in
    let i = c.loop-byte.byte-index in
    let stands = c.loop-byte.invariant.stands start seen s in
    let soon : length (drop (i + 1) bytes) < 65536 = omega (arith, length-drop (i + 1) bytes) in
    short_of start _ _ _ _ (seen ++ take i bytes) _ _ _ _ (get_or bytes i 0) (drop (i + 1) bytes) _ (at_place seen bytes i (omega arith)) soon
    (c.in-Err.ensures.overruns start _ _ stands is)
    stands
    c.in-Err.ensures.pending
    c.in_ok-flush.ensures.ok

pub returns-in_err-flush_if_full-clause-part : goal.returns-in_err-flush_if_full-clause-part
returns-in_err-flush_if_full-clause-part g c = λ start seen s is.
    let bytes = c.args.bytes.now in
    let i = c.loop-byte.byte-index in
    let cut = c.in_err-flush_if_full.ensures.err in
    let stands = c.in_default.ensures.ok start _ (seen ++ take i bytes) (c.loop-byte.invariant.stands start seen s) in
    part_at start _ _ _ _ ((seen ++ take i bytes) ++ get_or bytes i 0 ∷ []) _ _ _ cut.0 _ (drop (i + 1) bytes) _ (past_place seen bytes i (omega arith)) (omega (arith, length-drop (i + 1) bytes)) stands refl cut.1

pub loop-byte-preserved : goal.loop-byte-preserved
loop-byte-preserved g c =
    let bytes = c.args.bytes.now in
    let i = c.loop-byte.byte-index in
    let inv = c.loop-byte.invariant in
    let flushed = c.in_ok-flush_if_full.ensures in record {
      stands = λ start seen s.
          subst (λ (l : List ℕ). StandsAt start (g.O.Sink.held c.flush_if_full.new.output) l c.flush_if_full.new.self) (one_more seen bytes i (omega arith))
          (flushed.stands start _ (c.in_default.ensures.ok start _ (seen ++ take i bytes) (inv.stands start seen s)));
      room = omega (arith, flushed.room, c.in_default.ensures.room, inv.room);
      kept = flushed.cause.kept ∙ inv.kept;
    }

pub returns-clause-ok : goal.returns-clause-ok
returns-clause-ok g c = λ start seen s.
    let bytes = c.args.bytes.now in
    let all : take c.loop-byte.byte-index bytes ≡ bytes = take_all _ _ (omega arith) in
    subst (λ (l : List ℕ). StandsAt start (g.O.Sink.held c.loop-byte.output) (seen ++ l) c.loop-byte.self) all (c.loop-byte.invariant.stands start seen s)
