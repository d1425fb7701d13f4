use Rattle.std.proofs.Common.{ap, ◌∙◌}
use Rattle.rw_subst.specs.Conj.{size_or_one}
use Rattle.rw_subst.specs.Definedness.{conditions_of}
use Rattle.rw_subst.proofs.Joining.{sizes_are_of_conj}
use Rattle.rw_subst.proofs.defined.size_of_all_definedness.Goals as goal

pub returns : goal.returns
returns c =
    let is = c.size_or_one.ensures ∙ ap size_or_one c.count_terms.ensures ∙ sizes_are_of_conj (conditions_of c.args.scope.now c.args.terms.now) in
    record { weight = ap (λ s. s.weight) is; depth = ap (λ s. s.depth) is }
