use Rattle.std.proofs.Common.{◌≡◌, IfErr, map, subst, rules}
use Rattle.rw_subst.specs.Limits.{IsTermRefusal}
use Rattle.rw_subst.specs.Replaced.{replaced_term, to_initial}
use Rattle.rw_subst.proofs.replace.term_to_initial.Goals as goal

pub returns-clause-large : goal.returns-clause-large
returns-clause-large c =
    let is : c.as_slice.result.now ≡ map to_initial c.args.frame.now = search rules in
    subst (λ changes. IfErr c.replace_term.result (IsTermRefusal (replaced_term changes c.args.term.now))) is c.replace_term.ensures.large
