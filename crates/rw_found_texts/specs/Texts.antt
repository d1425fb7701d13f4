-- The texts of what is found for a goal.
use Rattle.std.specs.Prelude.{ℕ, List, [], ◌∷◌, ◌++◌, map, codes, decimal}
use Rattle.std.specs.Fmt.{signed_decimal}
use Rattle.rw_arith.specs.declared.line.LinLine.{LinLine}
use Rattle.rw_sequents.specs.declared.line.CertLine.TheVariants as rules
use Rattle.rw_sequents.specs.declared.line.Cert.{Cert}
use Rattle.rw_printer.specs.Layout.{printed_term, listed}
use Rattle.rw_printer.specs.Lines.{lin_text}
use Rattle.rw_finder.specs.declared.find.PointValue.{PointValue}
use Rattle.rw_finder.specs.declared.find.Found.{Found}
use Rattle.rw_finder.specs.declared.find.Found.TheVariants.{Lines, Point, Wide, Many}

-- an atom and its value, `x = -1/2`
abbrev pub value_text : PointValue → List ℕ
value_text v = printed_term v.atom ++ codes " = " ++ signed_decimal v.above ++ codes "/" ++ signed_decimal v.below

-- the lines, as the line of a certificate
abbrev pub found_lines : Found → List (List ℕ)
found_lines (Lines lines) = lin_text lines ∷ []
found_lines (Point values) = []
found_lines (Wide k) = []
found_lines Many = []

-- what the reply ends in
abbrev pub found_text : Found → List ℕ
found_text (Lines lines) = codes "ok found"
found_text (Point values) = codes "ok point" ++ listed (codes ", ") (codes " ") (map value_text values)
found_text (Wide k) = codes "ok wide " ++ decimal k
found_text Many = codes "ok many"

-- the certificate that is these lines
abbrev pub lin_cert : List LinLine → Cert
lin_cert lines = record { lines = rules.Lin lines ∷ [] }
