use Rattle.std.proofs.Common.{◌∙◌, sym, ap}
use Rattle.std.proofs.lemmas.Result.{err_from_is_err_and}
use Rattle.rw_forms.proofs.Parts.{carried, passed_on, told_as}
use Rattle.rw_program_reader.specs.Programs.{plain, specification}
use Rattle.std.proofs.Common.{drop}
use Rattle.rw_forms.specs.Reading.{read_form}
use Rattle.rw_program_reader.proofs.plain.plain.Goals as goal

pub returns-then-accept : goal.returns-then-accept
unfolding plain
returns-then-accept c = (c.if-accept.ensures.chose.0, λ k. told_as _ _ _ k _ _ (sym c.in_ok-new.ensures) (c.if-accept.ensures.chose.1 _ _))

pub returns-then-accept-2 : goal.returns-then-accept-2
unfolding plain
returns-then-accept-2 c = passed_on _ _ c.args.line.now _ _ _ c.call.result (λ k. c.if-accept.ensures.chose.1 _ _ ∙ c.if-accept-2.ensures.chose.1 _ _) c.call.ensures

pub returns-then-accept-3 : goal.returns-then-accept-3
unfolding plain
returns-then-accept-3 c = passed_on _ _ c.args.line.now _ _ _ c.operation_call.result (λ k. c.if-accept.ensures.chose.1 _ _ ∙ c.if-accept-2.ensures.chose.1 _ _ ∙ c.if-accept-3.ensures.chose.1 _ _) c.operation_call.ensures

pub returns-then-accept-4 : goal.returns-then-accept-4
unfolding plain
returns-then-accept-4 c = passed_on _ _ c.args.line.now _ _ _ c.specification.result (λ k. c.if-accept.ensures.chose.1 _ _ ∙ c.if-accept-2.ensures.chose.1 _ _ ∙ c.if-accept-3.ensures.chose.1 _ _ ∙ c.if-accept-4.ensures.chose.1 _ _ ∙ ap (λ l. read_form (specification c.args.most l k) (drop c.accept-4.new.at c.args.line.now)) (sym c.new-then-accept-4.ensures)) c.specification.ensures

pub returns-in_err-names : goal.returns-in_err-names
unfolding plain
returns-in_err-names c = let p = err_from_is_err_and c.from_residual-in_err-names.result c.from_residual-in_err-names.ensures.1 in rw (p.1, p.2) (λ k. carried c.args.line.now _ (c.if-accept.ensures.chose.1 _ _ ∙ c.if-accept-2.ensures.chose.1 _ _ ∙ c.if-accept-3.ensures.chose.1 _ _ ∙ c.if-accept-4.ensures.chose.1 _ _) (c.in_err-names.ensures _))

pub returns : goal.returns
unfolding plain
returns c = passed_on _ _ c.args.line.now _ _ _ c.named.result (λ k. c.if-accept.ensures.chose.1 _ _ ∙ c.if-accept-2.ensures.chose.1 _ _ ∙ c.if-accept-3.ensures.chose.1 _ _ ∙ c.if-accept-4.ensures.chose.1 _ _ ∙ c.in_ok-names.ensures.1 _) c.named.ensures
