use Rattle.std.proofs.Common.{◌≡◌, ◌++◌, [], map, drop, IsTrue}
use Rattle.std.specs.Prelude.{codes}
use denote.Text.{Utf8}
use denote.Shadow.{shadow}
use Rattle.rw_terms.specs.Texts.{is_ascii}
use Rattle.rw_terms.specs.AllOf.{all_of}
use Rattle.rw_printer.specs.Layout.{listed}
use Rattle.rw_printer.specs.Lines.{line_text}
use Rattle.rw_printer.specs.Readable.{named_line}
use Rattle.rw_printer.proofs.certificates.push_cert.Given as goal

-- the text with the lines that are left
abbrev pub invariant-loop-line : goal.invariant-loop-line
invariant-loop-line l = record {
  utf8 : shadow (Utf8 l.before);
  ascii : IsTrue (is_ascii l.before);
  text : l.text ++ listed (codes " ; ") l.before (map line_text (drop l.line-index l.cert.lines)) ≡ l.initial.text ++ listed (codes " ; ") [] (map line_text l.cert.lines);
  names : all_of (map named_line (drop l.line-index l.cert.lines)) ≡ all_of (map named_line l.cert.lines);
}
