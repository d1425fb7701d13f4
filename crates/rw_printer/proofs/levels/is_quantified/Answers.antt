use Rattle.std.proofs.Common.{sym, ap, ◌∙◌}
use Rattle.rw_printer.specs.Trees.{formula_tree, is_quantified}
use Rattle.rw_printer.proofs.LevelLemmas.{application_formula_open}
use Rattle.rw_printer.proofs.levels.is_quantified.Goals as goal

pub returns-in-App : goal.returns-in-App
returns-in-App c d = sym (ap (λ f. is_quantified (formula_tree f d)) c.in-App.is ∙ application_formula_open c.in-App.field-0 c.in-App.field-1 d)
