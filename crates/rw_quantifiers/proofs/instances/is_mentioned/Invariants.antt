use Rattle.std.proofs.Common.{◌≡◌, drop}
use Rattle.rw_terms.specs.Mentions.{formulas_mention}
use Rattle.rw_quantifiers.proofs.instances.is_mentioned.Given as goal

abbrev pub invariant-loop-formula : goal.invariant-loop-formula
invariant-loop-formula l = formulas_mention l.name (drop l.formula-index l.formulas) ≡ formulas_mention l.name l.formulas
