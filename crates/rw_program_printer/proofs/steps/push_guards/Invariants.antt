use Rattle.std.proofs.Common.{◌≡◌, ◌++◌, [], map, drop, IsTrue}
use Rattle.std.specs.Prelude.{codes}
use denote.Text.{Utf8}
use denote.Shadow.{shadow}
use Rattle.rw_terms.specs.Texts.{is_ascii}
use Rattle.rw_printer.specs.Layout.{printed_formula, listed}
use Rattle.rw_program_printer.proofs.steps.push_guards.Given as goal
use Rattle.rw_program_printer.specs.StepsReadBack.{named_formulas}

-- the text with the guards that are left
abbrev pub invariant-loop-guard : goal.invariant-loop-guard
invariant-loop-guard l = record {
  utf8 : shadow (Utf8 l.before);
  ascii : IsTrue (is_ascii l.before);
  text : l.text ++ listed (codes " | ") l.before (map printed_formula (drop l.guard-index l.guards)) ≡ l.initial.text ++ listed (codes " | ") [] (map printed_formula l.guards);
  names : named_formulas (drop l.guard-index l.guards) ≡ named_formulas l.guards;
}
