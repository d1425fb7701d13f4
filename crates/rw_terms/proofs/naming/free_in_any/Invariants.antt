use Rattle.std.proofs.Common.{◌≡◌, drop}
use Rattle.rw_terms.specs.Mentions.{formulas_mention}
use Rattle.rw_terms.proofs.naming.free_in_any.Given as goal

abbrev pub invariant-loop-formula : goal.invariant-loop-formula
invariant-loop-formula l = formulas_mention l.name (drop l.formula-index l.formulas) ≡ formulas_mention l.name l.formulas
