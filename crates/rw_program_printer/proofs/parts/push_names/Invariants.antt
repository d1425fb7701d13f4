use Rattle.std.proofs.Common.{◌≡◌, ◌++◌, [], drop, IsTrue}
use Rattle.std.specs.Prelude.{codes}
use denote.Text.{Utf8}
use denote.Shadow.{shadow}
use Rattle.rw_terms.specs.Texts.{is_ascii}
use Rattle.rw_printer.specs.Layout.{listed}
use Rattle.rw_program_printer.specs.Readable.{named_names}
use Rattle.rw_program_printer.proofs.parts.push_names.Given as goal

-- the text with the names that are left
abbrev pub invariant-loop-name : goal.invariant-loop-name
invariant-loop-name l = record {
  utf8 : shadow (Utf8 l.before);
  ascii : IsTrue (is_ascii l.before);
  text : l.text ++ listed (codes ",") l.before (drop l.name-index l.names) ≡ l.initial.text ++ listed (codes ",") [] l.names;
  names : named_names (drop l.name-index l.names) ≡ named_names l.names;
}
