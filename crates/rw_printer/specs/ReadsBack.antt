-- What it is that a text reads back as a term, a formula or a certificate: where some text spells the value, and the
-- nest of what is printed stays within 512, the tokens of the text spell it.
use Rattle.std.specs.Prelude.{ℕ, List, [], ◌∷◌, IsTrue}
use Rattle.rw_terms.specs.declared.term.Term.{Term}
use Rattle.rw_terms.specs.declared.term.Formula.{Formula}
use Rattle.rw_syntax.specs.declared.frame.Part.TheVariants as parts
use Rattle.rw_syntax.specs.Grammar.{nests}
use Rattle.rw_syntax.specs.Spelling.{AreWithin}
use Rattle.rw_sequents.specs.declared.line.CertLine.{CertLine}
use Rattle.rw_sequents.specs.declared.line.CertLine.TheVariants as lines
use Rattle.rw_sequents.specs.declared.line.Cert.{Cert}
use Rattle.rw_tokens.specs.Expressions.{TextSpells}
use Rattle.rw_forms.specs.Certificates.{CertSpells}
use Rattle.rw_printer.specs.Trees.{term_tree, formula_tree}
use Rattle.rw_printer.specs.Readable.{readable_term, readable_formula, readable_cert}

-- each nest is at most 512
abbrev pub StaysWithin : List ℕ → Type 0
StaysWithin ns = AreWithin 512 ns

-- as a term
abbrev pub TermReadsBack : List ℕ → Term → Type 0
TermReadsBack text t = IsTrue (readable_term t 0) → StaysWithin (nests 0 (term_tree t 0)) → TextSpells 6 text (parts.Term t)

-- as a formula
abbrev pub FormulaReadsBack : List ℕ → Formula → Type 0
FormulaReadsBack text f = IsTrue (readable_formula f 0) → StaysWithin (nests 0 (formula_tree f 0)) → TextSpells 1 text (parts.Formula f)

-- the nest of each of these terms, less the brackets that are open round them
abbrev pub TermsStayWithin : ℕ → List Term → Type 0
TermsStayWithin most [] = Unit {0}
TermsStayWithin most (t ∷ ts) = AreWithin most (nests 0 (term_tree t 0)) × TermsStayWithin most ts

-- the nest of a line of a certificate; a lemma's bracket is open round its terms
abbrev pub LineStaysWithin : CertLine → Type 0
LineStaysWithin (lines.Cut f) = StaysWithin (nests 0 (formula_tree f 0))
LineStaysWithin (lines.AllL n t) = TermsStayWithin 512 (t ∷ [])
LineStaysWithin (lines.ExR n t) = TermsStayWithin 512 (t ∷ [])
LineStaysWithin (lines.PutSame a i e) = TermsStayWithin 512 (a ∷ i ∷ e ∷ [])
LineStaysWithin (lines.PutOther a i e j) = TermsStayWithin 512 (a ∷ i ∷ e ∷ j ∷ [])
LineStaysWithin (lines.ArrExt a b) = TermsStayWithin 512 (a ∷ b ∷ [])
LineStaysWithin (lines.DivMod t u) = TermsStayWithin 512 (t ∷ u ∷ [])
LineStaysWithin (lines.Lemma n ts) = TermsStayWithin 511 ts
LineStaysWithin _ = Unit {0}

abbrev pub LinesStayWithin : List CertLine → Type 0
LinesStayWithin [] = Unit {0}
LinesStayWithin (l ∷ ls) = LineStaysWithin l × LinesStayWithin ls

-- as a certificate
abbrev pub CertReadsBack : List ℕ → Cert → Type 0
CertReadsBack text c = IsTrue (readable_cert c) → LinesStayWithin c.lines → CertSpells text c
