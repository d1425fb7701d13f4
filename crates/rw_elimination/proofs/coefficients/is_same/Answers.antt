use Rattle.std.proofs.lemmas.Bool.Decides.{same_from_decides}
use Rattle.rw_terms.proofs.Decides.{term_told, term_self}
use Rattle.rw_elimination.proofs.coefficients.is_same.Goals as goal

pub returns : goal.returns
returns c = same_from_decides _ _ c.same_term.ensures (term_told c.args.one.now c.args.other.now, term_self c.args.one.now c.args.other.now)
