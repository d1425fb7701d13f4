-- How many lines a certificate has.
use Rattle.std.specs.Prelude.{ℕ, ◌+◌, List, [], ◌∷◌, length}
use Rattle.rw_sequents.specs.declared.line.CertLine.{CertLine}
use Rattle.rw_sequents.specs.declared.line.CertLine.TheVariants as line

-- how many arithmetic lines a line has
abbrev pub arithmetic_lines : CertLine → ℕ
arithmetic_lines (line.Lin lines) = length lines
arithmetic_lines _ = 0

-- how many lines there are, rule lines and arithmetic lines
abbrev pub line_count : List CertLine → ℕ
line_count [] = 0
line_count (l ∷ ls) = 1 + arithmetic_lines l + line_count ls
