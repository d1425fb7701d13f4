use Rattle.std.proofs.Common.{◌∙◌, ap, sym, inl, inr}
use Rattle.std.specs.Prelude.{Ok, Err}
use Rattle.std.proofs.lemmas.Result.{err_from_is_err_and}
use Rattle.rw_forms.specs.Forms.{a_program}
use Rattle.rw_forms.specs.Reading.{whole}
use Rattle.rw_program_reader.specs.Programs.{program_form}
use Rattle.rw_forms.proofs.Parts.{carried}
use Rattle.rw_program_reader.proofs.Texts.{answered, one_program_text, program_ok, program_err}
use Rattle.rw_program_reader.proofs.reading.read_program.Goals as goal

pub returns-in_err-program : goal.returns-in_err-program
unfolding program_form
returns-in_err-program c =
    let p = err_from_is_err_and c.from_residual.result c.from_residual.ensures.1 in
    let x = program_err c.args.text.now c.skip-at.result _ c.skip-at.ensures.place (c.in_err-program.ensures _) in
    rw (p.1, p.2) (record { ok = tt; err = x; spelled = λ q h. inr (ap Err (answered program_form c.args.text.now (a_program q) _ x h)) })

pub returns-in_err-end : goal.returns-in_err-end
unfolding program_form
returns-in_err-end c =
    let p = err_from_is_err_and c.from_residual-in_err-end.result c.from_residual-in_err-end.ensures.1 in
    let x = program_err c.args.text.now c.skip-at.result _ c.skip-at.ensures.place (carried c.args.text.now _ (c.in_ok-program.ensures.1 _) (c.in_err-end.ensures _)) in
    rw (p.1, p.2) (record { ok = tt; err = x; spelled = λ q h. inr (ap Err (answered program_form c.args.text.now (a_program q) _ x h)) })

pub returns : goal.returns
unfolding program_form
returns c =
    let x = program_ok c.args.text.now c.skip-at.result _ c.skip-at.ensures.place (c.in_ok-program.ensures.1 _ ∙ c.in_ok-end.ensures _ ∙ ap (λ p. whole (a_program p)) (sym c.into_inner.ensures)) in
    record { ok = x; err = tt; spelled = λ q h. inl (ap Ok (one_program_text c.args.text.now _ q x h)) }
