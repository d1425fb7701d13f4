-- How a certificate is laid out: lines with ` ; ` between them, each a rule's name and its arguments.
use Rattle.std.specs.Prelude.{ℕ, ℤ, List, [], ◌++◌, map, codes, decimal}
use Rattle.std.specs.Fmt.{signed_decimal}
use Rattle.rw_terms.specs.declared.term.Term.{Term}
use Rattle.rw_arith.specs.declared.line.Ref.{Ref}
use Rattle.rw_arith.specs.declared.line.Ref.TheVariants as refs
use Rattle.rw_arith.specs.declared.line.Part.{Part as SumPart}
use Rattle.rw_arith.specs.declared.line.LinLine.{LinLine}
use Rattle.rw_arith.specs.declared.line.LinLine.TheVariants as sums
use Rattle.rw_sequents.specs.declared.line.CertLine.{CertLine}
use Rattle.rw_sequents.specs.declared.line.CertLine.TheVariants as lines
use Rattle.rw_sequents.specs.declared.line.Cert.{Cert}
use Rattle.rw_printer.specs.Layout.{printed_term, printed_formula, listed}

-- `L1`, `R1`, or the number of a line
abbrev pub reference_text : Ref → List ℕ
reference_text (refs.Left n) = codes "L" ++ decimal n
reference_text (refs.Right n) = codes "R" ++ decimal n
reference_text (refs.Line n) = decimal n

-- `-2*R1`
unfoldable pub part_text : SumPart → List ℕ
part_text p = signed_decimal p.times ++ codes "*" ++ reference_text p.of

-- `1*L1 + -2*R1`
abbrev pub parts_text : List SumPart → List ℕ
parts_text ps = listed (codes " + ") [] (map part_text ps)

-- `3/2`
abbrev pub quotient_text : ℕ → ℤ → List ℕ
quotient_text n d = decimal n ++ codes "/" ++ signed_decimal d

-- `1*L1 + -2*R1]`, or `3/2]`
abbrev pub closed_text : LinLine → List ℕ
closed_text (sums.Sum ps) = parts_text ps ++ codes "]"
closed_text (sums.Divide n d) = quotient_text n d ++ codes "]"

-- `lin [1*L1 + -2*R1] [3/2]`
abbrev pub lin_text : List LinLine → List ℕ
lin_text ls = codes "lin" ++ listed (codes " [") (codes " [") (map closed_text ls)

-- terms joined by `,` and a space
abbrev pub terms_text : List Term → List ℕ
terms_text ts = listed (codes ", ") [] (map printed_term ts)

-- a rule's name with a space behind it, and a number
abbrev pub numbered_text : List ℕ → ℕ → List ℕ
numbered_text word n = word ++ decimal n

-- and one more argument
abbrev pub instance_text : List ℕ → ℕ → List ℕ → List ℕ
instance_text word n more = word ++ decimal n ++ codes " " ++ more

-- a rule's name with a space behind it, and two terms
abbrev pub pair_text : List ℕ → Term → Term → List ℕ
pair_text word a b = word ++ printed_term a ++ codes ", " ++ printed_term b

-- a rule and its arguments
abbrev pub line_text : CertLine → List ℕ
line_text lines.Ax = codes "ax"
line_text lines.FalseL = codes "falseL"
line_text lines.TrueR = codes "trueR"
line_text lines.Refl = codes "refl"
line_text (lines.Cut f) = codes "cut " ++ printed_formula f
line_text (lines.DropL n) = numbered_text (codes "dropL ") n
line_text (lines.DropR n) = numbered_text (codes "dropR ") n
line_text (lines.NotL n) = numbered_text (codes "notL ") n
line_text (lines.NotR n) = numbered_text (codes "notR ") n
line_text (lines.AndL n) = numbered_text (codes "andL ") n
line_text (lines.AndR n) = numbered_text (codes "andR ") n
line_text (lines.OrL n) = numbered_text (codes "orL ") n
line_text (lines.OrR n) = numbered_text (codes "orR ") n
line_text (lines.ImpL n) = numbered_text (codes "impL ") n
line_text (lines.ImpR n) = numbered_text (codes "impR ") n
line_text (lines.EqR n) = numbered_text (codes "eqR ") n
line_text (lines.Flip n) = numbered_text (codes "flip ") n
line_text (lines.UnfoldL n) = numbered_text (codes "unfoldL ") n
line_text (lines.UnfoldR n) = numbered_text (codes "unfoldR ") n
line_text (lines.AllL n t) = instance_text (codes "allL ") n (printed_term t)
line_text (lines.ExR n t) = instance_text (codes "exR ") n (printed_term t)
line_text (lines.AllR n y) = instance_text (codes "allR ") n y
line_text (lines.ExL n y) = instance_text (codes "exL ") n y
line_text (lines.RwL i m) = instance_text (codes "rwL ") i (decimal m)
line_text (lines.RwR i j) = instance_text (codes "rwR ") i (decimal j)
line_text (lines.PutSame a i e) = pair_text (codes "putSame ") a i ++ codes ", " ++ printed_term e
line_text (lines.PutOther a i e j) = pair_text (codes "putOther ") a i ++ pair_text (codes ", ") e j
line_text (lines.ArrExt a b) = pair_text (codes "arrExt ") a b
line_text (lines.DivMod t u) = pair_text (codes "divMod ") t u
line_text (lines.Lemma n ts) = codes "lemma " ++ n ++ codes "(" ++ terms_text ts ++ codes ")"
line_text (lines.Lin ls) = lin_text ls

-- `allL 1 x ; ax`
abbrev pub cert_text : Cert → List ℕ
cert_text c = listed (codes " ; ") [] (map line_text c.lines)
