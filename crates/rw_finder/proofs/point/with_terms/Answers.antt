use Rattle.std.proofs.Common.{drop, ap, sym, ◌∙◌, arith}
use Rattle.std.proofs.lemmas.List.{drop_all}
use Rattle.rw_finder.specs.Point.{with_terms}
use Rattle.rw_finder.proofs.Ends.{terms_end}
use Rattle.rw_finder.proofs.point.with_terms.Goals as goal

pub returns-then-i-values : goal.returns-then-i-values
returns-then-i-values c =
    let none = drop_all c.loop-i.i c.args.values.now (omega arith) in
    sym (ap (λ vs. with_terms c.args.summands.now (drop c.loop-i.i c.args.atoms.now) vs c.loop-i.sum) none ∙ terms_end c.args.summands.now (drop c.loop-i.i c.args.atoms.now) c.loop-i.sum)
    ∙ c.loop-i.invariant
