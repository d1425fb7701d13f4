use Rattle.std.proofs.Common.{◌∙◌, ap}
use Rattle.rw_library.specs.Entries.{heads_of}
use Rattle.rw_head_tests.specs.Procs.{proc_unknown, proc_duplicate, proc_part, proc_limit, proc_refusal}
use Rattle.rw_edit_tests.proofs.InOrder.{name_told, twice_told, part_told, told}
use Rattle.rw_head_tests.proofs.procs.proc_refusal.Goals as goal

pub returns-in-Some : goal.returns-in-Some
unfolding proc_refusal
returns-in-Some c = name_told (c.proc_unknown.ensures ∙ ap (λ hs. proc_unknown hs c.args.head.now) (c.as_slice-3.ensures ∙ c.in_ok-heads.ensures)) (proc_duplicate c.args.entries.now c.args.modules.now c.args.head.now) (proc_part (heads_of c.args.entries.now) c.args.head.now) (proc_limit c.args.order.now c.args.head.now) c.in-Some.is

pub returns-in-Some-proc_duplicate : goal.returns-in-Some-proc_duplicate
unfolding proc_refusal
returns-in-Some-proc_duplicate c =
    twice_told (c.proc_unknown.ensures ∙ ap (λ hs. proc_unknown hs c.args.head.now) (c.as_slice-3.ensures ∙ c.in_ok-heads.ensures)) c.in_default.is c.proc_duplicate.ensures (proc_part (heads_of c.args.entries.now) c.args.head.now) (proc_limit c.args.order.now c.args.head.now) c.in-Some-proc_duplicate.is

pub returns-in-Some-2 : goal.returns-in-Some-2
unfolding proc_refusal
returns-in-Some-2 c =
    part_told (c.proc_unknown.ensures ∙ ap (λ hs. proc_unknown hs c.args.head.now) (c.as_slice-3.ensures ∙ c.in_ok-heads.ensures)) c.in_default.is c.proc_duplicate.ensures c.in_default-proc_duplicate.is
    (c.in_ok-part.ensures ∙ ap (λ hs. proc_part hs c.args.head.now) (c.as_slice-4.ensures ∙ c.in_ok-heads.ensures)) (proc_limit c.args.order.now c.args.head.now) c.in-Some-2.is

pub returns : goal.returns
unfolding proc_refusal
returns c =
    told (c.proc_unknown.ensures ∙ ap (λ hs. proc_unknown hs c.args.head.now) (c.as_slice-3.ensures ∙ c.in_ok-heads.ensures)) c.in_default.is
    c.proc_duplicate.ensures c.in_default-proc_duplicate.is
    (c.in_ok-part.ensures ∙ ap (λ hs. proc_part hs c.args.head.now) (c.as_slice-4.ensures ∙ c.in_ok-heads.ensures)) c.in_default-2.is c.proc_limit.ensures
