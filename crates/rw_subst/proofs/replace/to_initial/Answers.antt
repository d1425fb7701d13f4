use Rattle.std.proofs.Common.{◌≡◌, IfErr, map, subst, rules}
use Rattle.rw_subst.specs.Limits.{IsFormulaRefusal}
use Rattle.rw_subst.specs.Replaced.{replaced_formula, to_initial}
use Rattle.rw_subst.proofs.replace.to_initial.Goals as goal

pub returns-clause-large : goal.returns-clause-large
returns-clause-large c =
    let is : c.as_slice.result.now ≡ map to_initial c.args.frame.now = search rules in
    subst (λ changes. IfErr c.replace.result (IsFormulaRefusal (replaced_formula changes c.args.formula.now))) is c.replace.ensures.large
