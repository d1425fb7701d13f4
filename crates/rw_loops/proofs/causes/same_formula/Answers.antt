use Rattle.std.proofs.lemmas.Bool.Decides.{same_from_decides}
use Rattle.rw_terms.proofs.Decides.{formula_told, formula_self}
use Rattle.rw_loops.proofs.causes.same_formula.Goals as goal

pub returns : goal.returns
returns c = same_from_decides _ _ c.same.ensures (formula_told c.args.one.now c.args.other.now, formula_self c.args.one.now c.args.other.now)
