use Rattle.std.proofs.Common.{◌≡◌, drop}
use Rattle.std.specs.List.{list_any}
use Rattle.rw_terms.specs.Same.{same_formula}
use Rattle.rw_goals.proofs.closing.is_among.Given as goal

abbrev pub invariant-loop-g : goal.invariant-loop-g
invariant-loop-g l = list_any (same_formula l.formula) (drop l.g-index l.formulas) ≡ list_any (same_formula l.formula) l.formulas
