use Rattle.std.proofs.Common.{◌∙◌, ap}
use Rattle.rw_library.specs.Entries.{heads_of}
use Rattle.rw_edit_tests.specs.Entering.{repeated}
use Rattle.rw_head_tests.specs.Modules.{oper_unknown, oper_again, oper_part, oper_limit, own_refusal}
use Rattle.rw_edit_tests.proofs.InOrder.{name_told, twice_told, part_told, told}
use Rattle.rw_head_tests.proofs.operations.own_refusal.Goals as goal

pub returns-in-Some : goal.returns-in-Some
unfolding own_refusal
returns-in-Some c = name_told (c.oper_unknown.ensures ∙ ap (λ hs. oper_unknown hs c.args.module.now c.args.oper.now) (c.as_slice.ensures ∙ c.in_ok-heads.ensures)) (repeated (oper_again c.args.module.now c.args.oper.now)) (oper_part (heads_of c.args.entries.now) c.args.module.now c.args.oper.now) (oper_limit c.args.module.now c.args.oper.now) c.in-Some.is

pub returns-in-Some-repeated : goal.returns-in-Some-repeated
unfolding own_refusal
returns-in-Some-repeated c =
    twice_told (c.oper_unknown.ensures ∙ ap (λ hs. oper_unknown hs c.args.module.now c.args.oper.now) (c.as_slice.ensures ∙ c.in_ok-heads.ensures)) c.in_default.is (c.repeated.ensures ∙ ap repeated c.oper_again.ensures) (oper_part (heads_of c.args.entries.now) c.args.module.now c.args.oper.now) (oper_limit c.args.module.now c.args.oper.now) c.in-Some-repeated.is

pub returns-in-Some-2 : goal.returns-in-Some-2
unfolding own_refusal
returns-in-Some-2 c =
    part_told (c.oper_unknown.ensures ∙ ap (λ hs. oper_unknown hs c.args.module.now c.args.oper.now) (c.as_slice.ensures ∙ c.in_ok-heads.ensures)) c.in_default.is (c.repeated.ensures ∙ ap repeated c.oper_again.ensures) c.in_default-repeated.is
    (c.in_ok-part.ensures ∙ ap (λ hs. oper_part hs c.args.module.now c.args.oper.now) (c.as_slice-2.ensures ∙ c.in_ok-heads.ensures)) (oper_limit c.args.module.now c.args.oper.now) c.in-Some-2.is

pub returns : goal.returns
unfolding own_refusal
returns c =
    told (c.oper_unknown.ensures ∙ ap (λ hs. oper_unknown hs c.args.module.now c.args.oper.now) (c.as_slice.ensures ∙ c.in_ok-heads.ensures)) c.in_default.is (c.repeated.ensures ∙ ap repeated c.oper_again.ensures) c.in_default-repeated.is
    (c.in_ok-part.ensures ∙ ap (λ hs. oper_part hs c.args.module.now c.args.oper.now) (c.as_slice-2.ensures ∙ c.in_ok-heads.ensures)) c.in_default-2.is c.oper_limit.ensures
