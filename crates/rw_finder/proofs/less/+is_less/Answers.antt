use Rattle.std.proofs.Common.{◌*ℤ◌, int_lt, FitsSigned, rules, sym, ◌∙◌}
use Rattle.std.specs.Int.{w128, int_div_euclid, int_rem_euclid}
use Rattle.std.proofs.lemmas.Int.{to_z-of_z}
use Rattle.rw_finder.proofs.Order.{rest_less, none_other, none_one, told_less, told_more, told_same}
use Rattle.rw_finder.proofs.Passed.{plain, zero_of, of_zero}
use Rattle.rw_finder.proofs.less.+is_less.Goals as goal

pub returns-then-whole-other_whole : goal.returns-then-whole-other_whole
returns-then-whole-other_whole t c =
    let w = c.div_euclid-whole.ensures ∙ plain int_div_euclid c.args.above c.args.below c.ranges.above c.ranges.below in
    let v = c.div_euclid-other_whole.ensures ∙ plain int_div_euclid c.args.other_above c.args.other_below c.ranges.other_above c.ranges.other_below in
    let fw : FitsSigned w128 c.div_euclid-whole.result = search rules in
    let fv : FitsSigned w128 c.div_euclid-other_whole.result = search rules in
    told_less c.args.above c.args.below c.args.other_above c.args.other_below c.requires.below c.requires.other c.div_euclid-whole.result c.div_euclid-other_whole.result w v (sym (plain int_lt c.div_euclid-whole.result c.div_euclid-other_whole.result fw fv) ∙ c.if-whole-other_whole.true)

pub returns-then-other_whole-whole : goal.returns-then-other_whole-whole
returns-then-other_whole-whole t c =
    let w = c.div_euclid-whole.ensures ∙ plain int_div_euclid c.args.above c.args.below c.ranges.above c.ranges.below in
    let v = c.div_euclid-other_whole.ensures ∙ plain int_div_euclid c.args.other_above c.args.other_below c.ranges.other_above c.ranges.other_below in
    let fw : FitsSigned w128 c.div_euclid-whole.result = search rules in
    let fv : FitsSigned w128 c.div_euclid-other_whole.result = search rules in
    told_more c.args.above c.args.below c.args.other_above c.args.other_below c.requires.below c.requires.other c.div_euclid-whole.result c.div_euclid-other_whole.result w v (sym (plain int_lt c.div_euclid-other_whole.result c.div_euclid-whole.result fv fw) ∙ c.if-other_whole-whole.true)

pub returns-then-other_rest-eq0 : goal.returns-then-other_rest-eq0
returns-then-other_rest-eq0 t c =
    let w = c.div_euclid-whole.ensures ∙ plain int_div_euclid c.args.above c.args.below c.ranges.above c.ranges.below in
    let v = c.div_euclid-other_whole.ensures ∙ plain int_div_euclid c.args.other_above c.args.other_below c.ranges.other_above c.ranges.other_below in
    let fw : FitsSigned w128 c.div_euclid-whole.result = search rules in
    let fv : FitsSigned w128 c.div_euclid-other_whole.result = search rules in
    let same = told_same c.args.above c.args.below c.args.other_above c.args.other_below c.requires.below c.requires.other c.div_euclid-whole.result c.div_euclid-other_whole.result w v (sym (plain int_lt c.div_euclid-whole.result c.div_euclid-other_whole.result fw fv) ∙ c.if-whole-other_whole.false)
    (sym (plain int_lt c.div_euclid-other_whole.result c.div_euclid-whole.result fv fw) ∙ c.if-other_whole-whole.false) in
    let r = c.rem_euclid-rest.ensures.value ∙ plain int_rem_euclid c.args.above c.args.below c.ranges.above c.ranges.below in
    let u = c.rem_euclid-other_rest.ensures.value ∙ plain int_rem_euclid c.args.other_above c.args.other_below c.ranges.other_above c.ranges.other_below in
    let fr : FitsSigned w128 c.rem_euclid-rest.result = search rules in
    let fu : FitsSigned w128 c.rem_euclid-other_rest.result = search rules in
    none_other c.args.above c.args.below c.args.other_above c.args.other_below c.requires.below c.requires.other same (sym u ∙ zero_of c.rem_euclid-other_rest.result fu c.if-other_rest-eq0.true)

pub returns-then-rest-eq0 : goal.returns-then-rest-eq0
returns-then-rest-eq0 t c =
    let w = c.div_euclid-whole.ensures ∙ plain int_div_euclid c.args.above c.args.below c.ranges.above c.ranges.below in
    let v = c.div_euclid-other_whole.ensures ∙ plain int_div_euclid c.args.other_above c.args.other_below c.ranges.other_above c.ranges.other_below in
    let fw : FitsSigned w128 c.div_euclid-whole.result = search rules in
    let fv : FitsSigned w128 c.div_euclid-other_whole.result = search rules in
    let same = told_same c.args.above c.args.below c.args.other_above c.args.other_below c.requires.below c.requires.other c.div_euclid-whole.result c.div_euclid-other_whole.result w v (sym (plain int_lt c.div_euclid-whole.result c.div_euclid-other_whole.result fw fv) ∙ c.if-whole-other_whole.false)
    (sym (plain int_lt c.div_euclid-other_whole.result c.div_euclid-whole.result fv fw) ∙ c.if-other_whole-whole.false) in
    let r = c.rem_euclid-rest.ensures.value ∙ plain int_rem_euclid c.args.above c.args.below c.ranges.above c.ranges.below in
    let u = c.rem_euclid-other_rest.ensures.value ∙ plain int_rem_euclid c.args.other_above c.args.other_below c.ranges.other_above c.ranges.other_below in
    let fr : FitsSigned w128 c.rem_euclid-rest.result = search rules in
    let fu : FitsSigned w128 c.rem_euclid-other_rest.result = search rules in
    none_one c.args.above c.args.below c.args.other_above c.args.other_below c.requires.below c.requires.other same (sym r ∙ zero_of c.rem_euclid-rest.result fr c.if-rest-eq0.true) (λ z. c.if-other_rest-eq0.false (of_zero c.rem_euclid-other_rest.result (u ∙ z)))

pub returns : goal.returns
returns t c =
    let w = c.div_euclid-whole.ensures ∙ plain int_div_euclid c.args.above c.args.below c.ranges.above c.ranges.below in
    let v = c.div_euclid-other_whole.ensures ∙ plain int_div_euclid c.args.other_above c.args.other_below c.ranges.other_above c.ranges.other_below in
    let fw : FitsSigned w128 c.div_euclid-whole.result = search rules in
    let fv : FitsSigned w128 c.div_euclid-other_whole.result = search rules in
    let same = told_same c.args.above c.args.below c.args.other_above c.args.other_below c.requires.below c.requires.other c.div_euclid-whole.result c.div_euclid-other_whole.result w v (sym (plain int_lt c.div_euclid-whole.result c.div_euclid-other_whole.result fw fv) ∙ c.if-whole-other_whole.false)
    (sym (plain int_lt c.div_euclid-other_whole.result c.div_euclid-whole.result fv fw) ∙ c.if-other_whole-whole.false) in
    let r = c.rem_euclid-rest.ensures.value ∙ plain int_rem_euclid c.args.above c.args.below c.ranges.above c.ranges.below in
    let u = c.rem_euclid-other_rest.ensures.value ∙ plain int_rem_euclid c.args.other_above c.args.other_below c.ranges.other_above c.ranges.other_below in
    let fr : FitsSigned w128 c.rem_euclid-rest.result = search rules in
    let fu : FitsSigned w128 c.rem_euclid-other_rest.result = search rules in
    c.is_less.ensures
    ∙ (λ i. int_lt (to_z-of_z w128 c.args.other_below c.ranges.other_below i *ℤ to_z-of_z w128 c.rem_euclid-rest.result fr i) (to_z-of_z w128 c.args.below c.ranges.below i *ℤ to_z-of_z w128 c.rem_euclid-other_rest.result fu i))
    ∙ (λ i. int_lt (c.args.other_below *ℤ r i) (c.args.below *ℤ u i)) ∙ rest_less c.args.above c.args.below c.args.other_above c.args.other_below c.requires.below c.requires.other same
