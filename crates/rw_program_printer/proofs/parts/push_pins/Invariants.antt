use Rattle.std.proofs.Common.{◌≡◌, ◌++◌, [], map, drop, IsTrue}
use Rattle.std.specs.Prelude.{codes}
use denote.Text.{Utf8}
use denote.Shadow.{shadow}
use Rattle.rw_terms.specs.Texts.{is_ascii}
use Rattle.rw_printer.specs.Layout.{listed}
use Rattle.rw_program_printer.specs.Layout.{pin_text}
use Rattle.rw_program_printer.specs.Readable.{named_pins}
use Rattle.rw_program_printer.proofs.parts.push_pins.Given as goal

-- the text with the pins that are left
abbrev pub invariant-loop-pin : goal.invariant-loop-pin
invariant-loop-pin l = record {
  utf8 : shadow (Utf8 l.before);
  ascii : IsTrue (is_ascii l.before);
  text : l.text ++ listed (codes ", ") l.before (map pin_text (drop l.pin-index l.pins)) ≡ l.initial.text ++ listed (codes ", ") [] (map pin_text l.pins);
  names : named_pins (drop l.pin-index l.pins) ≡ named_pins l.pins;
}
