use Rattle.std.proofs.Common.{◌≡◌, ◌++◌, [], map, drop, IsTrue}
use Rattle.std.specs.Prelude.{codes}
use denote.Text.{Utf8}
use denote.Shadow.{shadow}
use Rattle.rw_terms.specs.Texts.{is_ascii}
use Rattle.rw_printer.specs.Layout.{listed}
use Rattle.rw_program_printer.specs.Layout.{arm_text}
use Rattle.rw_program_printer.specs.ReadsBack.{AreSpelt}
use Rattle.rw_program_printer.proofs.programs.+push_program.Given as goal

-- the text with the arms that are left
abbrev pub invariant-push_arms-loop-arm : goal.invariant-push_arms-loop-arm
invariant-push_arms-loop-arm l = record {
  utf8 : shadow (Utf8 l.before);
  ascii : IsTrue (is_ascii l.before);
  text : l.text ++ listed (codes " [] ") l.before (map arm_text (drop l.arm-index l.arms)) ≡ l.initial.text ++ listed (codes " [] ") [] (map arm_text l.arms);
  spelt : AreSpelt (drop l.arm-index l.arms) → AreSpelt l.arms;
}
