use Rattle.std.proofs.Common.{◌≡◌, ◌++◌, [], map, drop, IsTrue}
use Rattle.std.specs.Prelude.{codes}
use denote.Text.{Utf8}
use denote.Shadow.{shadow}
use Rattle.rw_terms.specs.Texts.{is_ascii}
use Rattle.rw_printer.specs.Trees.{argument_trees}
use Rattle.rw_printer.specs.Layout.{laid, listed}
use Rattle.rw_printer.specs.Readable.{named_terms}
use Rattle.rw_printer.proofs.terms.+push_term.Given as goal

-- the text with the terms that are left
abbrev pub invariant-push_terms-loop-term : goal.invariant-push_terms-loop-term
invariant-push_terms-loop-term l = record {
  utf8 : shadow (Utf8 l.before);
  ascii : IsTrue (is_ascii l.before);
  text : l.text ++ listed (codes ", ") l.before (map laid (argument_trees (drop l.term-index l.terms) l.depth)) ≡ l.initial.text ++ listed (codes ", ") [] (map laid (argument_trees l.terms l.depth));
  names : named_terms (drop l.term-index l.terms) ≡ named_terms l.terms;
}
