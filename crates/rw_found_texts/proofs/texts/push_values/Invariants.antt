use Rattle.std.proofs.Common.{◌≡◌, ◌++◌, map, drop, IsTrue}
use Rattle.std.specs.Prelude.{codes}
use denote.Text.{Utf8}
use denote.Shadow.{shadow}
use Rattle.rw_terms.specs.Texts.{is_ascii}
use Rattle.rw_printer.specs.Layout.{listed}
use Rattle.rw_found_texts.specs.Texts.{value_text}
use Rattle.rw_found_texts.proofs.texts.push_values.Given as goal

-- the text with the values that are left
abbrev pub invariant-loop-value : goal.invariant-loop-value
invariant-loop-value l = record {
  utf8 : shadow (Utf8 l.before);
  ascii : IsTrue (is_ascii l.before);
  text : l.text ++ listed (codes ", ") l.before (map value_text (drop l.value-index l.values)) ≡ l.initial.text ++ listed (codes ", ") (codes " ") (map value_text l.values);
}
