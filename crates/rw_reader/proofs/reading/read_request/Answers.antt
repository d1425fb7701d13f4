use Rattle.std.proofs.Common.{◌∙◌, ap}
use Rattle.std.specs.Prelude.{Err}
use Rattle.std.proofs.lemmas.Result.{err_from_is_err_and}
use Rattle.rw_reader.specs.Requests.{request_form, var_form, root_form, step_form, prove_form, status_form, define_form, lemma_form, drop_form, goal_form, find_form}
use Rattle.rw_reader.specs.Reading.{told}
use Rattle.rw_reader.proofs.Lines.{begun, answers_ok, answers_err}
use Rattle.rw_reader.proofs.reading.read_request.Goals as goal

pub returns-then-accept : goal.returns-then-accept
unfolding request_form
returns-then-accept c =
    let h = begun c.args.line.now c.skip-at.result c.skip-at.ensures.place ∙ ap (told c.args.line.now) (c.if-accept.ensures.chose.1 _ _) in
    record { ok = answers_ok var_form c.args.line.now _ c.read_var.result h c.read_var.ensures; err = answers_err var_form c.args.line.now _ c.read_var.result h c.read_var.ensures }

pub returns-then-accept-2 : goal.returns-then-accept-2
unfolding request_form
returns-then-accept-2 c =
    let h = begun c.args.line.now c.skip-at.result c.skip-at.ensures.place ∙ ap (told c.args.line.now) (c.if-accept.ensures.chose.1 _ _ ∙ c.if-accept-2.ensures.chose.1 _ _) in
    record { ok = answers_ok root_form c.args.line.now _ c.read_root.result h c.read_root.ensures; err = answers_err root_form c.args.line.now _ c.read_root.result h c.read_root.ensures }

pub returns-then-accept-3 : goal.returns-then-accept-3
unfolding request_form
returns-then-accept-3 c =
    let h = begun c.args.line.now c.skip-at.result c.skip-at.ensures.place ∙ ap (told c.args.line.now) (c.if-accept.ensures.chose.1 _ _ ∙ c.if-accept-2.ensures.chose.1 _ _ ∙ c.if-accept-3.ensures.chose.1 _ _) in
    record { ok = answers_ok step_form c.args.line.now _ c.read_step.result h c.read_step.ensures; err = answers_err step_form c.args.line.now _ c.read_step.result h c.read_step.ensures }

pub returns-then-accept-4 : goal.returns-then-accept-4
unfolding request_form
returns-then-accept-4 c =
    let h = begun c.args.line.now c.skip-at.result c.skip-at.ensures.place ∙ ap (told c.args.line.now) (c.if-accept.ensures.chose.1 _ _ ∙ c.if-accept-2.ensures.chose.1 _ _ ∙ c.if-accept-3.ensures.chose.1 _ _ ∙ c.if-accept-4.ensures.chose.1 _ _) in
    record { ok = answers_ok prove_form c.args.line.now _ c.read_prove.result h c.read_prove.ensures; err = answers_err prove_form c.args.line.now _ c.read_prove.result h c.read_prove.ensures }

pub returns-then-accept-5 : goal.returns-then-accept-5
unfolding request_form
returns-then-accept-5 c =
    let h = begun c.args.line.now c.skip-at.result c.skip-at.ensures.place ∙ ap (told c.args.line.now) (c.if-accept.ensures.chose.1 _ _ ∙ c.if-accept-2.ensures.chose.1 _ _ ∙ c.if-accept-3.ensures.chose.1 _ _ ∙ c.if-accept-4.ensures.chose.1 _ _ ∙ c.if-accept-5.ensures.chose.1 _ _) in
    record { ok = answers_ok status_form c.args.line.now _ c.read_status.result h c.read_status.ensures; err = answers_err status_form c.args.line.now _ c.read_status.result h c.read_status.ensures }

pub returns-then-accept-6 : goal.returns-then-accept-6
unfolding request_form
returns-then-accept-6 c =
    let h = begun c.args.line.now c.skip-at.result c.skip-at.ensures.place ∙ ap (told c.args.line.now) (c.if-accept.ensures.chose.1 _ _ ∙ c.if-accept-2.ensures.chose.1 _ _ ∙ c.if-accept-3.ensures.chose.1 _ _ ∙ c.if-accept-4.ensures.chose.1 _ _ ∙ c.if-accept-5.ensures.chose.1 _ _ ∙ c.if-accept-6.ensures.chose.1 _ _) in
    record { ok = answers_ok define_form c.args.line.now _ c.read_define.result h c.read_define.ensures; err = answers_err define_form c.args.line.now _ c.read_define.result h c.read_define.ensures }

pub returns-then-accept-7 : goal.returns-then-accept-7
unfolding request_form
returns-then-accept-7 c =
    let h = begun c.args.line.now c.skip-at.result c.skip-at.ensures.place ∙ ap (told c.args.line.now) (c.if-accept.ensures.chose.1 _ _ ∙ c.if-accept-2.ensures.chose.1 _ _ ∙ c.if-accept-3.ensures.chose.1 _ _ ∙ c.if-accept-4.ensures.chose.1 _ _ ∙ c.if-accept-5.ensures.chose.1 _ _ ∙ c.if-accept-6.ensures.chose.1 _ _ ∙ c.if-accept-7.ensures.chose.1 _ _) in
    record { ok = answers_ok lemma_form c.args.line.now _ c.read_lemma.result h c.read_lemma.ensures; err = answers_err lemma_form c.args.line.now _ c.read_lemma.result h c.read_lemma.ensures }

pub returns-then-accept-8 : goal.returns-then-accept-8
unfolding request_form
returns-then-accept-8 c =
    let h = begun c.args.line.now c.skip-at.result c.skip-at.ensures.place ∙ ap (told c.args.line.now) (c.if-accept.ensures.chose.1 _ _ ∙ c.if-accept-2.ensures.chose.1 _ _ ∙ c.if-accept-3.ensures.chose.1 _ _ ∙ c.if-accept-4.ensures.chose.1 _ _ ∙ c.if-accept-5.ensures.chose.1 _ _ ∙ c.if-accept-6.ensures.chose.1 _ _ ∙ c.if-accept-7.ensures.chose.1 _ _ ∙ c.if-accept-8.ensures.chose.1 _ _) in
    record { ok = answers_ok drop_form c.args.line.now _ c.read_drop.result h c.read_drop.ensures; err = answers_err drop_form c.args.line.now _ c.read_drop.result h c.read_drop.ensures }

pub returns-then-accept-9 : goal.returns-then-accept-9
unfolding request_form
returns-then-accept-9 c =
    let h = begun c.args.line.now c.skip-at.result c.skip-at.ensures.place ∙ ap (told c.args.line.now) (c.if-accept.ensures.chose.1 _ _ ∙ c.if-accept-2.ensures.chose.1 _ _ ∙ c.if-accept-3.ensures.chose.1 _ _ ∙ c.if-accept-4.ensures.chose.1 _ _ ∙ c.if-accept-5.ensures.chose.1 _ _ ∙ c.if-accept-6.ensures.chose.1 _ _ ∙ c.if-accept-7.ensures.chose.1 _ _ ∙ c.if-accept-8.ensures.chose.1 _ _ ∙ c.if-accept-9.ensures.chose.1 _ _) in
    record { ok = answers_ok find_form c.args.line.now _ c.read_find.result h c.read_find.ensures; err = answers_err find_form c.args.line.now _ c.read_find.result h c.read_find.ensures }

pub returns-in_err-expect : goal.returns-in_err-expect
unfolding request_form
returns-in_err-expect c =
    let h = begun c.args.line.now c.skip-at.result c.skip-at.ensures.place ∙ ap (told c.args.line.now) (c.if-accept.ensures.chose.1 _ _ ∙ c.if-accept-2.ensures.chose.1 _ _ ∙ c.if-accept-3.ensures.chose.1 _ _ ∙ c.if-accept-4.ensures.chose.1 _ _ ∙ c.if-accept-5.ensures.chose.1 _ _ ∙ c.if-accept-6.ensures.chose.1 _ _ ∙ c.if-accept-7.ensures.chose.1 _ _ ∙ c.if-accept-8.ensures.chose.1 _ _ ∙ c.if-accept-9.ensures.chose.1 _ _) in
    let p = err_from_is_err_and c.from_residual.result c.from_residual.ensures.1 in
    rw (p.1, p.2) (record { ok = tt; err = answers_err _ c.args.line.now _ (Err _) h (c.in_err-expect.ensures.took _) })

pub returns : goal.returns
unfolding request_form
returns c =
    let h = begun c.args.line.now c.skip-at.result c.skip-at.ensures.place ∙ ap (told c.args.line.now) (c.if-accept.ensures.chose.1 _ _ ∙ c.if-accept-2.ensures.chose.1 _ _ ∙ c.if-accept-3.ensures.chose.1 _ _ ∙ c.if-accept-4.ensures.chose.1 _ _ ∙ c.if-accept-5.ensures.chose.1 _ _ ∙ c.if-accept-6.ensures.chose.1 _ _ ∙ c.if-accept-7.ensures.chose.1 _ _ ∙ c.if-accept-8.ensures.chose.1 _ _ ∙ c.if-accept-9.ensures.chose.1 _ _ ∙ c.in_ok-expect.ensures.took.1 _) in
    record { ok = answers_ok goal_form c.args.line.now _ c.read_goal.result h c.read_goal.ensures; err = answers_err goal_form c.args.line.now _ c.read_goal.result h c.read_goal.ensures }
