use Rattle.std.proofs.Common.{◌&&◌, ◌+ℤ◌, ◌*ℤ◌, FitsSigned, rules, ap, ◌∙◌, true}
use Rattle.std.specs.Int.{w128}
use Rattle.std.proofs.lemmas.Int.{to_z-of_z}
use Rattle.rw_arith.specs.Polynomials.{is_narrow}
use Rattle.rw_elimination.specs.Rows.{like}
use Rattle.rw_elimination.proofs.Narrow.{sum_known}
use Rattle.rw_elimination.proofs.summing.sum_fits.Goals as goal

pub returns-in-Some : goal.returns-in-Some
returns-in-Some c =
    let f : FitsSigned w128 c.like.result = search rules in
    let one : FitsSigned w128 c.args.summand.now.times = search rules in
    let before : FitsSigned w128 c.in-Some.before = search rules in
    let times = c.ranges.up in
    let told = simp to_z-of_z at c.is_sum_narrow.ensures in
    let up = c.args.summand.now.times *ℤ c.args.up in
    sum_known c.checked_mul.result c.like.result c.args.times c.in-Some.before c.is_sum_narrow.result true (λ z. is_narrow up && is_narrow (z +ℤ up)) c.in-Some.is f c.ranges.times c.checked_mul.ensures told
    ∙ ap (λ z. is_narrow (z *ℤ c.args.times) && (is_narrow up && is_narrow ((z *ℤ c.args.times) +ℤ up))) (c.like.ensures ∙ ap (λ ts. like ts c.args.ones.now) c.as_slice.ensures)
