use Rattle.std.proofs.Common.{sym, ◌∙◌, arith}
use Rattle.std.specs.Option.{option_to_list}
use Rattle.rw_elimination.proofs.Stops.{longer, go_rows, go_ended}
use Rattle.rw_elimination.proofs.Pairing.{with_step}
use Rattle.rw_elimination.proofs.eliminate.pair_with.Goals as goal

pub loop-second-preserved : goal.loop-second-preserved
loop-second-preserved c =
    let step = with_step c.args.atoms.now c.args.at c.args.number c.args.first.now c.args.rows.now c.loop-second.second c.index-rows-second.result c.in_ok-row.row c.loop-second-test.true (sym c.index-rows-second.is) c.in_ok-row.ensures in
    let k = sym c.in_ok-push_made.ensures.ended ∙ c.if-branch.false in
    let l = longer _ _ _ (option_to_list c.in_ok-row.row) _ _ c.in_ok-push_made.ensures.rows step k in
    record {
      rows = go_rows _ _ _ (option_to_list c.in_ok-row.row) _ _ c.in_ok-push_made.ensures.rows step _ _ (omega arith) k c.loop-second.invariant.rows;
      ended = go_ended _ _ _ (option_to_list c.in_ok-row.row) _ _ c.in_ok-push_made.ensures.rows step _ _ (omega arith) k c.loop-second.invariant.ended;
    }
