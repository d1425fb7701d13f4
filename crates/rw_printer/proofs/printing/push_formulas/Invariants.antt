use Rattle.std.proofs.Common.{◌≡◌, ◌++◌, [], map, drop, IsTrue}
use Rattle.std.specs.Prelude.{codes}
use denote.Text.{Utf8}
use denote.Shadow.{shadow}
use Rattle.rw_terms.specs.Texts.{is_ascii}
use Rattle.rw_printer.specs.Layout.{printed_formula, listed}
use Rattle.rw_printer.proofs.printing.push_formulas.Given as goal

-- the text with the formulas that are left
abbrev pub invariant-loop-formula : goal.invariant-loop-formula
invariant-loop-formula l = record {
  utf8 : shadow (Utf8 l.before);
  ascii : IsTrue (is_ascii l.before);
  text : l.text ++ listed (codes ", ") l.before (map printed_formula (drop l.formula-index l.formulas)) ≡ l.initial.text ++ listed (codes ", ") [] (map printed_formula l.formulas);
}
