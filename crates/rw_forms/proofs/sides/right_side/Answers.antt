use Rattle.std.proofs.Common.{[], drop, sym, ap, ◌∙◌}
use Rattle.std.specs.Prelude.{codes}
use Rattle.rw_forms.specs.Forms.{gives}
use Rattle.rw_forms.specs.Phrases.{formulas, right_side}
use Rattle.rw_forms.specs.Reading.{read_form}
use Rattle.rw_forms.proofs.Parts.{last_end, last_part, last_on}
use Rattle.rw_forms.proofs.sides.right_side.Goals as goal

pub returns-then-at-line : goal.returns-then-at-line
unfolding right_side
returns-then-at-line c = (c.requires, λ k. last_end _ (k []) c.args.line.now c.args.at.now c.if-at-line.true ∙ ap (λ l. read_form (gives (k l)) (drop c.args.at.now c.args.line.now)) (sym c.new.ensures))

pub returns : goal.returns
unfolding right_side
returns c = last_on right_side (formulas 512 (codes ",")) c.args.line.now _ _ _ c.formulas.result (λ k. last_part _ (k []) c.args.line.now c.args.at.now c.if-at-line.false) c.formulas.ensures
