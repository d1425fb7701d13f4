use Rattle.std.proofs.Common.{◌≡◌, ◌++◌, map, drop}
use Rattle.std.specs.Prelude.{codes}
use Rattle.rw_printer.specs.Layout.{listed}
use Rattle.rw_printer.specs.Lines.{closed_text}
use Rattle.rw_printer.proofs.certificates.push_lines.Given as goal

-- the text with the lines that are left
abbrev pub invariant-loop-line : goal.invariant-loop-line
invariant-loop-line l = record {
  text : l.text ++ listed (codes " [") (codes " [") (map closed_text (drop l.line-index l.lines)) ≡ l.initial.text ++ listed (codes " [") (codes " [") (map closed_text l.lines);
}
