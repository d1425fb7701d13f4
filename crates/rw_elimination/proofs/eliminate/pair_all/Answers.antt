use Rattle.std.proofs.Common.{sym, ◌∙◌, arith}
use Rattle.rw_elimination.proofs.Stops.{longer, go_rows, go_ended, stop_rows, stop_ended}
use Rattle.rw_elimination.proofs.Pairing.{from_step}
use Rattle.rw_elimination.proofs.eliminate.pair_all.Goals as goal

pub returns-then-branch-clause-rows : goal.returns-then-branch-clause-rows
returns-then-branch-clause-rows c =
    let step = from_step c.args.atoms.now c.args.at c.args.rows.now c.args.rows.now c.loop-first.first c.index-rows-first.result c.loop-first-test.true (sym c.index-rows-first.is) in
    stop_rows _ _ _ _ _ _ c.in_ok-pair_with.ensures.rows step _ (sym c.in_ok-pair_with.ensures.ended ∙ c.if-branch.true) c.loop-first.invariant.rows

pub returns-then-branch-clause-ended : goal.returns-then-branch-clause-ended
returns-then-branch-clause-ended c =
    let step = from_step c.args.atoms.now c.args.at c.args.rows.now c.args.rows.now c.loop-first.first c.index-rows-first.result c.loop-first-test.true (sym c.index-rows-first.is) in
    stop_ended _ _ _ _ _ _ c.in_ok-pair_with.ensures.rows step _ (sym c.in_ok-pair_with.ensures.ended ∙ c.if-branch.true) c.loop-first.invariant.ended

pub loop-first-preserved : goal.loop-first-preserved
loop-first-preserved c =
    let step = from_step c.args.atoms.now c.args.at c.args.rows.now c.args.rows.now c.loop-first.first c.index-rows-first.result c.loop-first-test.true (sym c.index-rows-first.is) in
    let k = sym c.in_ok-pair_with.ensures.ended ∙ c.if-branch.false in
    let l = longer _ _ _ _ _ _ c.in_ok-pair_with.ensures.rows step k in
    record {
      rows = go_rows _ _ _ _ _ _ c.in_ok-pair_with.ensures.rows step _ _ (omega arith) k c.loop-first.invariant.rows;
      ended = go_ended _ _ _ _ _ _ c.in_ok-pair_with.ensures.rows step _ _ (omega arith) k c.loop-first.invariant.ended;
    }
