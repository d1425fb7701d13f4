use Rattle.std.proofs.Common.{◌≡◌, ◌++◌, [], map, drop, IsTrue}
use Rattle.std.specs.Prelude.{codes}
use denote.Text.{Utf8}
use denote.Shadow.{shadow}
use Rattle.rw_terms.specs.Texts.{is_ascii}
use Rattle.rw_printer.specs.Layout.{listed}
use Rattle.rw_printer.specs.Lines.{part_text}
use Rattle.rw_printer.proofs.certificates.push_parts.Given as goal

-- the text with the parts that are left
abbrev pub invariant-loop-part : goal.invariant-loop-part
invariant-loop-part l = record {
  utf8 : shadow (Utf8 l.before);
  ascii : IsTrue (is_ascii l.before);
  text : l.text ++ listed (codes " + ") l.before (map part_text (drop l.part-index l.parts)) ≡ l.initial.text ++ listed (codes " + ") [] (map part_text l.parts);
}
