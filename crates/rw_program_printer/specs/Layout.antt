-- How a program is laid out: one space round `;`, `:=`, `->`, `[]` and the dot of a block, none inside the brackets of
-- calls and variants, and one inside `|[` and `]|`.
use Rattle.std.specs.Prelude.{ℕ, Bool, true, false, cond, List, [], ◌∷◌, ◌++◌, map, codes, decimal}
use Rattle.rw_terms.specs.declared.term.Term.{Term}
use Rattle.rw_terms.specs.declared.term.Sort.{Sort}
use Rattle.rw_programs.specs.declared.prog.Arm.{Arm}
use Rattle.rw_programs.specs.declared.prog.Pin.{Pin}
use Rattle.rw_programs.specs.declared.prog.Prog.TheVariants as prog
use Rattle.rw_programs.specs.declared.prog.Prog.{Prog, Kid, Skip, Assign, If', Do', Call, OpCall, Row_of-Arm, end_of-Arm, more_of-Arm}
use Rattle.rw_programs.specs.Made.{Seq, Block, Con, ModBlock}
use Rattle.rw_printer.specs.Layout.{printed_term, printed_formula, sort_text, listed, names_text, spec_text}
use Rattle.rw_printer.specs.Lines.{terms_text}

-- `x,y := 1, 2`
abbrev pub assignment_text : List (List ℕ) → List Term → List ℕ
assignment_text xs ts = names_text xs ++ codes " := " ++ terms_text ts

-- names behind `;` and a space, which is left away where there are none
abbrev pub results_text : List (List ℕ) → List ℕ
results_text [] = codes ";"
results_text (x ∷ xs) = codes "; " ++ names_text (x ∷ xs)

-- `(1; x,y)`
abbrev pub passed_text : List Term → List (List ℕ) → List ℕ
passed_text ts xs = codes "(" ++ terms_text ts ++ results_text xs ++ codes ")"

-- `X = 1`
abbrev pub pin_text : Pin → List ℕ
pin_text p = p.name ++ codes " = " ++ printed_term p.term

-- `X = 1, Y = 2`
abbrev pub pins_text : List Pin → List ℕ
pins_text ps = listed (codes ", ") [] (map pin_text ps)

-- `|[ var x : int . skip ]|`
abbrev pub block_text : List ℕ → List ℕ → List ℕ
block_text opening body = codes "|[ " ++ opening ++ codes " . " ++ body ++ codes " ]|"

-- a name and its sort
abbrev pub local_text : List ℕ → Sort → List ℕ
local_text x s = x ++ codes " : " ++ sort_text s

-- whether a program is a sequence
abbrev pub is_sequence : Prog → Bool
is_sequence (Seq c d) = true
is_sequence _ = false

-- the first part of a sequence, in parentheses where it is one itself
abbrev pub first_text : Bool → List ℕ → List ℕ
first_text b written = cond b (codes "(" ++ written ++ codes ")") written

abbrev mutual
  -- the text of a program; that of a kid is no program's
  pub prog_text : Prog → List ℕ
  prog_text (prog.Spec w) = spec_text w
  prog_text (Kid n) = codes "kid " ++ decimal n
  prog_text Skip = codes "skip"
  prog_text (Assign xs ts) = assignment_text xs ts
  prog_text (Seq c d) = first_text (is_sequence c) (prog_text c) ++ codes " ; " ++ prog_text d
  prog_text (If' shape arms) = codes "if " ++ row_text [] arms ++ codes " fi"
  prog_text (Do' v shape arms) = codes "do {" ++ printed_term v ++ codes "} " ++ row_text [] arms ++ codes " od"
  prog_text (Block x s c) = block_text (codes "var " ++ local_text x s) (prog_text c)
  prog_text (Con ps c) = block_text (codes "con " ++ pins_text ps) (prog_text c)
  prog_text (Call f ts xs) = codes "call " ++ f ++ passed_text ts xs
  prog_text (OpCall m f ts xs) = codes "op " ++ m ++ codes "." ++ f ++ passed_text ts xs
  prog_text (ModBlock m c) = block_text (codes "module " ++ m) (prog_text c)

  -- of guards and the programs behind them, the first with one text before it and each other with ` [] `
  pub row_text : {m : _} → List ℕ → Row_of-Arm m → List ℕ
  row_text before end_of-Arm = []
  row_text before (more_of-Arm g c rest) = before ++ printed_formula g ++ codes " -> " ++ prog_text c ++ row_text (codes " [] ") rest

-- `x = 0 -> skip`
abbrev pub arm_text : Arm → List ℕ
arm_text a = printed_formula a.guard ++ codes " -> " ++ prog_text a.body

-- arms with ` [] ` between them
abbrev pub arms_text : List Arm → List ℕ
arms_text arms = listed (codes " [] ") [] (map arm_text arms)
