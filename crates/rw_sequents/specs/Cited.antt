-- What a certificate's lines ask of the lemmas that they cite.
use Rattle.std.specs.Prelude.{ℕ, List}
use Rattle.rw_terms.specs.Validity.{Each}
use Rattle.rw_goals.specs.declared.library.Library.{Library}
use Rattle.rw_citations.specs.WellMade.{NamedValid}
use Rattle.rw_sequents.specs.declared.line.CertLine.{CertLine}
use Rattle.rw_sequents.specs.declared.line.CertLine.TheVariants as line
use Rattle.rw_sequents.specs.declared.line.Cert.{Cert}

-- P holds of the name of the lemma that a line cites, if it cites one
abbrev pub OfCited : (List ℕ → Type 0) → CertLine → Type 0
OfCited P (line.Lemma n ts) = P n
OfCited P _ = Unit {0}

-- P holds of the names of the lemmas that a certificate cites
abbrev pub AllCited : (List ℕ → Type 0) → Cert → Type 0
AllCited P cert = Each (OfCited P) cert.lines

-- the lemmas that a certificate cites are valid, those that stand before the table place
abbrev pub CitedValid : Library → ℕ → Cert → Type 0
CitedValid library before cert = AllCited (NamedValid library before) cert
