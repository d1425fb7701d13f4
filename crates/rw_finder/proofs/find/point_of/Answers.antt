use Rattle.std.proofs.Common.{◌++◌, drop, ap, sym, ◌∙◌, arith}
use Rattle.std.proofs.lemmas.List.{drop_all, append-nil}
use Rattle.rw_finder.specs.Finding.{point_of}
use Rattle.rw_finder.proofs.Ends.{point_end}
use Rattle.rw_finder.proofs.find.point_of.Goals as goal

pub returns-then-i-values : goal.returns-then-i-values
returns-then-i-values c =
    let none = drop_all c.loop-i.i c.args.values.now (omega arith) in
    sym (append-nil c.loop-i.point)
    ∙ ap (λ ps. c.loop-i.point ++ ps) (sym (ap (point_of (drop c.loop-i.i c.args.atoms.now)) none ∙ point_end (drop c.loop-i.i c.args.atoms.now)))
    ∙ c.loop-i.invariant
