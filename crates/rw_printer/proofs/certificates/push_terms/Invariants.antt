use Rattle.std.proofs.Common.{◌≡◌, ◌++◌, [], map, drop, IsTrue}
use Rattle.std.specs.Prelude.{codes}
use denote.Text.{Utf8}
use denote.Shadow.{shadow}
use Rattle.rw_terms.specs.Texts.{is_ascii}
use Rattle.rw_printer.specs.Layout.{printed_term, listed}
use Rattle.rw_printer.specs.Readable.{named_terms}
use Rattle.rw_printer.proofs.certificates.push_terms.Given as goal

-- the text with the terms that are left
abbrev pub invariant-loop-term : goal.invariant-loop-term
invariant-loop-term l = record {
  utf8 : shadow (Utf8 l.before);
  ascii : IsTrue (is_ascii l.before);
  text : l.text ++ listed (codes ", ") l.before (map printed_term (drop l.term-index l.terms)) ≡ l.initial.text ++ listed (codes ", ") [] (map printed_term l.terms);
  names : named_terms (drop l.term-index l.terms) ≡ named_terms l.terms;
}
