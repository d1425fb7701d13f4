use Rattle.std.proofs.Common.{FitsSigned, rules, ap, ◌∙◌}
use Rattle.std.specs.Int.{w128}
use Rattle.std.proofs.lemmas.Int.{to_z-of_z}
use Rattle.rw_terms.specs.Value.{mod_floor}
use Rattle.rw_finder.specs.Fractions.{common}
use Rattle.rw_finder.proofs.Euclid.{common_step}
use Rattle.rw_finder.proofs.Passed.{plain, nonzero_is}
use Rattle.rw_finder.proofs.numbers.+common.Goals as goal

pub returns : goal.returns
returns t c =
    let f : FitsSigned w128 c.common.result = search rules in
    let r : FitsSigned w128 c.rest.result = search rules in
    to_z-of_z w128 c.common.result f ∙ c.common.ensures ∙ plain common c.args.other c.rest.result c.ranges.other r
    ∙ ap (common c.args.other) (c.rest.ensures ∙ plain mod_floor c.args.one c.args.other c.ranges.one c.ranges.other) ∙ common_step c.args.one c.args.other (nonzero_is c.args.other c.if-other-eq0.false)
