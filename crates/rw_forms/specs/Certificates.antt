-- The grammar of certificates.
use Rattle.std.specs.Prelude.{ℕ, Bool, true, false, cond, leb, ℤ, pos, neg_ℤ, List, [], ◌∷◌, map, codes}
use Rattle.rw_terms.specs.declared.term.Term.{Term}
use Rattle.rw_arith.specs.declared.line.Ref.TheVariants as refs
use Rattle.rw_arith.specs.declared.line.Part.{Part as SumPart}
use Rattle.rw_arith.specs.declared.line.LinLine.{LinLine}
use Rattle.rw_arith.specs.declared.line.LinLine.TheVariants as sums
use Rattle.rw_sequents.specs.declared.line.Cert.{Cert}
use Rattle.rw_sequents.specs.declared.line.CertLine.{CertLine}
use Rattle.rw_sequents.specs.declared.line.CertLine.TheVariants as lines
use Rattle.rw_forms.specs.declared.rule.FormulaRule.{FormulaRule}
use Rattle.rw_forms.specs.declared.rule.FormulaRule.TheVariants as rules
use Rattle.rw_forms.specs.Forms.{a_variable, any_name, a_number, a_reference, Given, a_cert, a_line, a_part, a_sum, Form, gives, takes, either, more_of, many}
use Rattle.rw_forms.specs.Phrases.{mark, formula, term, closed_terms}
use Rattle.rw_forms.specs.Reading.{TextSpellsAs, IsFaultAs}

-- the number of a formula
abbrev pub formula_number : (ℕ → Form) → Form
formula_number k = takes (a_number 0 4294967295) k

-- the line of a rule that names a formula by its number
abbrev pub with_number : FormulaRule → ℕ → CertLine
with_number rules.DropL n = lines.DropL n
with_number rules.DropR n = lines.DropR n
with_number rules.NotL n = lines.NotL n
with_number rules.NotR n = lines.NotR n
with_number rules.AndL n = lines.AndL n
with_number rules.AndR n = lines.AndR n
with_number rules.OrL n = lines.OrL n
with_number rules.OrR n = lines.OrR n
with_number rules.ImpL n = lines.ImpL n
with_number rules.ImpR n = lines.ImpR n
with_number rules.EqR n = lines.EqR n
with_number rules.Flip n = lines.Flip n
with_number rules.UnfoldL n = lines.UnfoldL n
with_number rules.UnfoldR n = lines.UnfoldR n

-- the last of the rules that name a formula
unfoldable pub later_rules : (FormulaRule → Form) → Form
later_rules k =
    either (codes "orL") (k rules.OrL) (either (codes "orR") (k rules.OrR) (either (codes "impL") (k rules.ImpL) (either (codes "impR") (k rules.ImpR)
    (either (codes "eqR") (k rules.EqR) (either (codes "flip") (k rules.Flip) (either (codes "unfoldL") (k rules.UnfoldL) (mark (codes "unfoldR") (k rules.UnfoldR))))))))

-- the rules that name a formula
unfoldable pub numbered_rules : (FormulaRule → Form) → Form
numbered_rules k =
    either (codes "dropL") (k rules.DropL) (either (codes "dropR") (k rules.DropR) (either (codes "notL") (k rules.NotL) (either (codes "notR") (k rules.NotR)
    (either (codes "andL") (k rules.AndL) (either (codes "andR") (k rules.AndR) (later_rules k))))))

-- such a rule and the number
unfoldable pub numbered : (CertLine → Form) → Form
numbered k = numbered_rules (λ r. formula_number (λ n. k (with_number r n)))

-- a formula's number and a term
unfoldable pub number_and_term : (ℕ × Term → Form) → Form
number_and_term k = formula_number (λ n. term 512 (λ t. k (n, t)))

-- a formula's number and a variable
unfoldable pub number_and_name : (ℕ × List ℕ → Form) → Form
number_and_name k = formula_number (λ n. takes a_variable (λ y. k (n, y)))

-- two formulas' numbers
unfoldable pub two_numbers : (ℕ × ℕ → Form) → Form
two_numbers k = formula_number (λ i. formula_number (λ m. k (i, m)))

-- TERM , TERM
unfoldable pub two_terms : (Term × Term → Form) → Form
two_terms k = term 512 (λ a. mark (codes ",") (term 512 (λ b. k (a, b))))

-- TERM , TERM , TERM
unfoldable pub put_same : (CertLine → Form) → Form
put_same k = two_terms (λ p. mark (codes ",") (term 512 (λ e. k (lines.PutSame p.0 p.1 e))))

-- TERM , TERM , TERM , TERM
unfoldable pub put_other : (CertLine → Form) → Form
put_other k = two_terms (λ p. mark (codes ",") (two_terms (λ q. k (lines.PutOther p.0 p.1 q.0 q.1))))

-- the rules of arrays and division, and those that name a formula alone
unfoldable pub axioms : (CertLine → Form) → Form
axioms k =
    either (codes "putSame") (put_same k) (either (codes "putOther") (put_other k) (either (codes "arrExt") (two_terms (λ p. k (lines.ArrExt p.0 p.1)))
    (either (codes "divMod") (two_terms (λ p. k (lines.DivMod p.0 p.1))) (numbered k))))

-- the rules of quantifiers and of rewriting, and those of `axioms`
unfoldable pub instances : (CertLine → Form) → Form
instances k =
    either (codes "allL") (number_and_term (λ p. k (lines.AllL p.0 p.1))) (either (codes "exR") (number_and_term (λ p. k (lines.ExR p.0 p.1)))
    (either (codes "allR") (number_and_name (λ p. k (lines.AllR p.0 p.1))) (either (codes "exL") (number_and_name (λ p. k (lines.ExL p.0 p.1)))
    (either (codes "rwL") (two_numbers (λ p. k (lines.RwL p.0 p.1))) (either (codes "rwR") (two_numbers (λ p. k (lines.RwR p.0 p.1))) (axioms k))))))

-- a number of any size
abbrev pub any_number : (ℕ → Form) → Form
any_number k = takes (a_number 0 170141183460469231731687303715884105727) k

-- a multiplier, behind a sign or not
abbrev pub signed : Bool → ℕ → ℤ
signed true n = neg_ℤ (pos n)
signed false n = pos n

-- * REF behind a multiplier
unfoldable pub times : Bool → ℕ → (SumPart → Form) → Form
times minus n k = mark (codes "*") (takes a_reference (λ r. k (record { times = signed minus n; of = r })))

-- [ - ] NUMBER * REF
unfoldable pub sum_part : (SumPart → Form) → Form
sum_part k = either (codes "-") (any_number (λ n. times true n k)) (any_number (λ n. times false n k))

-- a part of a sum as an item
unfoldable pub part_form : Form
part_form = sum_part (λ p. gives (a_part p))

abbrev pub part_in : Given → SumPart
part_in (a_part p) = p
part_in _ = record { times = pos 0; of = refs.Line 0 }

-- a sum, behind its first multiplier
unfoldable pub sum_of : Bool → ℕ → (LinLine → Form) → Form
sum_of minus n k = times minus n (λ p. more_of part_form (codes "+") (a_part p ∷ []) (λ gs. k (sums.Sum (map part_in gs))))

-- a line and what it is divided by, or a sum
unfoldable pub sum_or_quotient : ℕ → (LinLine → Form) → Form
sum_or_quotient n k = cond (leb n 4294967295) (either (codes "/") (any_number (λ d. k (sums.Divide n (pos d)))) (sum_of false n k)) (sum_of false n k)

-- an arithmetic line
unfoldable pub lin_line : (LinLine → Form) → Form
lin_line k = either (codes "-") (any_number (λ n. sum_of true n k)) (any_number (λ n. sum_or_quotient n k))

-- an arithmetic line and its closing bracket
unfoldable pub closed_line : (LinLine → Form) → Form
closed_line k = lin_line (λ l. mark (codes "]") (k l))

-- such a line as an item
unfoldable pub lin_form : Form
lin_form = closed_line (λ l. gives (a_sum l))

abbrev pub lin_in : Given → LinLine
lin_in (a_sum l) = l
lin_in _ = sums.Sum []

-- arithmetic lines behind the first bracket
unfoldable pub closed_lines : (List LinLine → Form) → Form
closed_lines k = many lin_form (codes "[") (λ gs. k (map lin_in gs))

-- arithmetic lines, each in brackets
unfoldable pub lin : (List LinLine → Form) → Form
lin k = mark (codes "[") (closed_lines k)

-- NAME ( [ TERMS ] )
unfoldable pub lemma : (CertLine → Form) → Form
lemma k = takes any_name (λ n. mark (codes "(") (closed_terms (λ ts. k (lines.Lemma n ts))))

-- a rule and its arguments
unfoldable pub rule : (CertLine → Form) → Form
rule k =
    either (codes "ax") (k lines.Ax) (either (codes "falseL") (k lines.FalseL) (either (codes "trueR") (k lines.TrueR) (either (codes "refl") (k lines.Refl)
    (either (codes "cut") (formula 512 (λ f. k (lines.Cut f))) (either (codes "lin") (lin (λ ls. k (lines.Lin ls))) (either (codes "lemma") (lemma k) (instances k)))))))

-- a line of a certificate as an item
unfoldable pub line_form : Form
line_form = rule (λ l. gives (a_line l))

abbrev pub line_in : Given → CertLine
line_in (a_line l) = l
line_in _ = lines.Ax

-- LINE { ; LINE }
unfoldable pub cert : (List CertLine → Form) → Form
cert k = many line_form (codes ";") (λ gs. k (map line_in gs))

-- a certificate and nothing behind it
unfoldable pub cert_form : Form
cert_form = cert (λ ls. gives (a_cert (record { lines = ls })))

-- a text's tokens spell a certificate
abbrev pub CertSpells : List ℕ → Cert → Type 0
CertSpells text c = TextSpellsAs cert_form text (a_cert c)

-- the fault of a text that is no certificate
abbrev pub IsCertFault : List ℕ → ℕ → Type 0
IsCertFault = IsFaultAs cert_form
