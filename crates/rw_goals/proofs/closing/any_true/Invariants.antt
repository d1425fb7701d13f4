use Rattle.std.proofs.Common.{◌≡◌, drop}
use Rattle.std.specs.List.{list_any}
use Rattle.rw_terms.specs.declared.term.Formula.TheViews.{out-Formula}
use Rattle.rw_goals.specs.Closing.{is_true}
use Rattle.rw_goals.proofs.closing.any_true.Given as goal

abbrev pub invariant-loop-f : goal.invariant-loop-f
invariant-loop-f l = list_any (λ f. is_true (out-Formula f)) (drop l.f-index l.formulas) ≡ list_any (λ f. is_true (out-Formula f)) l.formulas
