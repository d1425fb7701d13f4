-- Where the name of an entry stands in formulas, entries and certificates.
use Rattle.std.specs.Prelude.{ℕ, Bool, false, ◌||◌, List, bytes_eq}
use Rattle.std.specs.List.{list_any}
use Rattle.rw_terms.specs.declared.term.Formula.{Formula}
use Rattle.rw_terms.specs.declared.term.Formula.TheOpen.{Formula-F}
use Rattle.rw_terms.specs.declared.term.Formula.TheFolds.{fold-Formula}
use Rattle.rw_goals.specs.declared.library.Item.{Item}
use Rattle.rw_goals.specs.declared.library.Item.TheVariants.{Definition, Lemma}
use Rattle.rw_sequents.specs.declared.line.CertLine.{CertLine}
use Rattle.rw_sequents.specs.declared.line.CertLine.TheVariants as line
use Rattle.rw_sequents.specs.declared.line.Cert.{Cert}

module _ (x : List ℕ) where
  abbrev pub applies_step : Formula-F Bool → Bool
  applies_step Formula-F.True = false
  applies_step Formula-F.False = false
  applies_step (Formula-F.Eq s t) = false
  applies_step (Formula-F.Less s t) = false
  applies_step (Formula-F.AtMost s t) = false
  applies_step (Formula-F.Not f) = f
  applies_step (Formula-F.And f g) = f || g
  applies_step (Formula-F.Or f g) = f || g
  applies_step (Formula-F.Imp f g) = f || g
  applies_step (Formula-F.All _ f) = f
  applies_step (Formula-F.Any _ f) = f
  applies_step (Formula-F.App p args) = bytes_eq p x

  -- whether the predicate of this name stands in a formula
  abbrev pub applies : Formula → Bool
  applies = fold-Formula Bool applies_step

  -- whether the name stands in a definition's body, or in a lemma's statement
  abbrev pub item_names : Item → Bool
  item_names (Definition d) = applies d.body
  item_names (Lemma l) = list_any applies l.sequent.left || list_any applies l.sequent.right

  -- whether a line cites the lemma of this name
  abbrev pub line_cites : CertLine → Bool
  line_cites (line.Lemma n ts) = bytes_eq n x
  line_cites _ = false

  -- whether a certificate cites the lemma of this name
  abbrev pub cites : Cert → Bool
  cites c = list_any line_cites c.lines

  -- whether a line cites the lemma of this name or has the predicate of this name
  abbrev pub line_names : CertLine → Bool
  line_names (line.Cut f) = applies f
  line_names (line.Lemma n ts) = bytes_eq n x
  line_names _ = false

  -- whether a certificate has the name as that of an entry
  abbrev pub cert_names : Cert → Bool
  cert_names c = list_any line_names c.lines
