use Rattle.std.proofs.Common.{length, ap, arith}
use Rattle.rw_elimination.proofs.Stops.{few_rows}
use Rattle.rw_elimination.proofs.eliminate.push_pairs.Goals as goal

pub pair_all-requires-clause-few : goal.pair_all-requires-clause-few
pair_all-requires-clause-few c =
    let few = few_rows c.args.rows.now 0 (omega arith) c.requires in
    let same = ap length c.as_slice.ensures in
    omega arith
