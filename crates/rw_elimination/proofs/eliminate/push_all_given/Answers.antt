use Rattle.std.proofs.Common.{◌+◌, length, drop, sym, ◌∙◌}
use Rattle.rw_elimination.specs.Rows.{given_rows, all_given}
use Rattle.rw_elimination.proofs.Stops.{longer, go_rows, go_ended}
use Rattle.rw_elimination.proofs.Pairing.{given_step}
use Rattle.rw_elimination.proofs.eliminate.push_all_given.Goals as goal

pub loop-hypothesis-preserved : goal.loop-hypothesis-preserved
loop-hypothesis-preserved c =
    let i = c.loop-hypothesis.hypothesis-index in
    let before = c.loop-hypothesis.rows in
    let next = c.push_given.new.rows in
    let xs = given_rows c.args.atoms.now c.hypothesis-item.result in
    let ys = all_given c.args.atoms.now (drop (i + 1) c.args.used.now) in
    let rest = all_given c.args.atoms.now (drop i c.args.used.now) in
    let step = given_step c.args.atoms.now c.args.used.now i c.hypothesis-item.result c.loop-hypothesis-test.true (sym c.hypothesis-item.is) in
    let k = sym c.in_ok-push_given.ensures.ended ∙ c.if-branch.false in
    let l = longer (length before) before next xs ys rest c.in_ok-push_given.ensures.rows step k in
    record {
      rows = go_rows (length before) before next xs ys rest c.in_ok-push_given.ensures.rows step _ (length next) l k c.loop-hypothesis.invariant.rows;
      ended = go_ended (length before) before next xs ys rest c.in_ok-push_given.ensures.rows step _ (length next) l k c.loop-hypothesis.invariant.ended;
    }
