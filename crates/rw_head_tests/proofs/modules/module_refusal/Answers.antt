use Rattle.std.proofs.Common.{◌∙◌, ap}
use Rattle.rw_library.specs.Entries.{heads_of}
use Rattle.rw_head_tests.specs.Modules.{module_unknown, module_duplicate, module_part, module_limit, module_refusal}
use Rattle.rw_edit_tests.proofs.InOrder.{name_told, twice_told, part_told, told}
use Rattle.rw_head_tests.proofs.modules.module_refusal.Goals as goal

pub returns-in-Some : goal.returns-in-Some
unfolding module_refusal
returns-in-Some c = name_told (c.module_unknown.ensures ∙ ap (λ hs. module_unknown hs c.args.module.now) (c.as_slice.ensures ∙ c.in_ok-heads.ensures)) (module_duplicate c.args.entries.now c.args.procs.now c.args.module.now) (module_part (heads_of c.args.entries.now) c.args.module.now) (module_limit c.args.order.now c.args.module.now) c.in-Some.is

pub returns-in-Some-module_duplicate : goal.returns-in-Some-module_duplicate
unfolding module_refusal
returns-in-Some-module_duplicate c =
    twice_told (c.module_unknown.ensures ∙ ap (λ hs. module_unknown hs c.args.module.now) (c.as_slice.ensures ∙ c.in_ok-heads.ensures)) c.in_default.is c.module_duplicate.ensures (module_part (heads_of c.args.entries.now) c.args.module.now) (module_limit c.args.order.now c.args.module.now) c.in-Some-module_duplicate.is

pub returns-in-Some-2 : goal.returns-in-Some-2
unfolding module_refusal
returns-in-Some-2 c =
    part_told (c.module_unknown.ensures ∙ ap (λ hs. module_unknown hs c.args.module.now) (c.as_slice.ensures ∙ c.in_ok-heads.ensures)) c.in_default.is c.module_duplicate.ensures c.in_default-module_duplicate.is
    (c.in_ok-part.ensures ∙ ap (λ hs. module_part hs c.args.module.now) (c.as_slice-2.ensures ∙ c.in_ok-heads.ensures)) (module_limit c.args.order.now c.args.module.now) c.in-Some-2.is

pub returns : goal.returns
unfolding module_refusal
returns c =
    told (c.module_unknown.ensures ∙ ap (λ hs. module_unknown hs c.args.module.now) (c.as_slice.ensures ∙ c.in_ok-heads.ensures)) c.in_default.is
    c.module_duplicate.ensures c.in_default-module_duplicate.is
    (c.in_ok-part.ensures ∙ ap (λ hs. module_part hs c.args.module.now) (c.as_slice-2.ensures ∙ c.in_ok-heads.ensures)) c.in_default-2.is c.module_limit.ensures
