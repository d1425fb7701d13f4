-- What it is that a text reads back as a program: where some text spells the program, and the nest of what is printed
-- stays within 512, the tokens of the text spell it.
use Rattle.std.specs.Prelude.{◌≡◌, ℕ, zero, suc, ◌≤◌, Bool, true, false, List, [], ◌∷◌, ◌++◌, IsTrue}
use Rattle.rw_programs.specs.declared.prog.Arm.{Arm}
use Rattle.rw_programs.specs.declared.prog.Pin.{Pin}
use Rattle.rw_programs.specs.declared.prog.Prog.TheVariants as prog
use Rattle.rw_programs.specs.declared.prog.Prog.{Prog, Kid, Skip, Assign, If', Do', Call, OpCall, Row_of-Arm, end_of-Arm, more_of-Arm}
use Rattle.rw_programs.specs.Made.{Seq, Block, Con, ModBlock}
use Rattle.rw_syntax.specs.Grammar.{nests}
use Rattle.rw_syntax.specs.Spelling.{AreWithin}
use Rattle.rw_tokens.specs.Tokens.{skip}
use Rattle.rw_printer.specs.Trees.{term_tree, formula_tree}
use Rattle.rw_printer.specs.ReadsBack.{TermsStayWithin}
use Rattle.rw_printer.proofs.Fronts.{ends}
use Rattle.rw_printer.proofs.Lexed.{Starts}
use Rattle.rw_printer.proofs.Spelling.{Spelt}
use Rattle.rw_program_reader.specs.Programs.{Programs, plain, arm, one, program}
use Rattle.rw_program_reader.specs.Reading.{ProgramSpells}
use Rattle.rw_program_printer.specs.Layout.{is_sequence, prog_text, arm_text}
use Rattle.rw_program_printer.specs.Readable.{readable_prog, readable_arm}

-- what is said of the inside of a bracket, where so many may be opened with it
abbrev pub Inside : ℕ → (ℕ → Type 0) → Type 0
Inside zero P = ⊥
Inside (suc most) P = P most

-- the first part of a sequence is in parentheses where it is one itself
abbrev pub First : Bool → ℕ → (ℕ → Type 0) → Type 0
First true most P = Inside most P
First false most P = P most

abbrev pub PinsStayWithin : ℕ → List Pin → Type 0
PinsStayWithin most [] = Unit {0}
PinsStayWithin most (p ∷ ps) = AreWithin most (nests 0 (term_tree p.term 0)) × PinsStayWithin most ps

abbrev mutual
  -- the nest of a program's text, less what is open round it
  pub ProgramStaysWithin : ℕ → Prog → Type 0
  ProgramStaysWithin most (prog.Spec w) = Inside most (λ m. AreWithin m (nests 0 (formula_tree w.pre 0)) × AreWithin m (nests 0 (formula_tree w.post 0)))
  ProgramStaysWithin most (Kid n) = Unit {0}
  ProgramStaysWithin most Skip = Unit {0}
  ProgramStaysWithin most (Assign xs ts) = TermsStayWithin most ts
  ProgramStaysWithin most (Seq c d) = First (is_sequence c) most (λ m. ProgramStaysWithin m c) × Inside most (λ m. ProgramStaysWithin m d)
  ProgramStaysWithin most (If' shape arms) = Inside most (λ m. RowStaysWithin m arms)
  ProgramStaysWithin most (Do' v shape arms) = Inside most (λ m. Inside m (λ l. AreWithin l (nests 0 (term_tree v 0))) × RowStaysWithin m arms)
  ProgramStaysWithin most (Block x s c) = Inside most (λ m. ProgramStaysWithin m c)
  ProgramStaysWithin most (Con ps c) = Inside most (λ m. PinsStayWithin m ps × ProgramStaysWithin m c)
  ProgramStaysWithin most (Call f ts xs) = Inside most (λ m. TermsStayWithin m ts)
  ProgramStaysWithin most (OpCall m f ts xs) = Inside most (λ l. TermsStayWithin l ts)
  ProgramStaysWithin most (ModBlock m c) = Inside most (λ l. ProgramStaysWithin l c)

  -- of guards and the programs behind them
  pub RowStaysWithin : {n : _} → ℕ → Row_of-Arm n → Type 0
  RowStaysWithin most end_of-Arm = Unit {0}
  RowStaysWithin most (more_of-Arm g c rest) = (AreWithin most (nests 0 (formula_tree g 0)) × ProgramStaysWithin most c) × RowStaysWithin most rest

-- of an arm
abbrev pub ArmStaysWithin : ℕ → Arm → Type 0
ArmStaysWithin most a = AreWithin most (nests 0 (formula_tree a.guard 0)) × ProgramStaysWithin most a.body

-- as a program
abbrev pub ProgramReadsBack : List ℕ → Prog → Type 0
ProgramReadsBack text p = IsTrue (readable_prog p) → ProgramStaysWithin 512 p → ProgramSpells text p

-- a part of a program, or a whole one
abbrev pub part_form : ℕ → Programs
part_form zero = plain 0
part_form (suc most) = one most (program most)

abbrev pub form_of : Bool → ℕ → Programs
form_of true = program
form_of false = part_form

-- the text of a program spells it, whatever ends it
abbrev pub IsSpelt : Prog → Type 0
IsSpelt p = IsTrue (readable_prog p) → (most : ℕ) → most ≤ 512 → ProgramStaysWithin most p → (r : List ℕ) → ends r ≡ true →
    (skip (prog_text p ++ r) ≡ prog_text p ++ r) × Spelt (form_of (is_sequence p) most) p (prog_text p ++ r) (skip r)

-- so does that of an arm
abbrev pub IsArmSpelt : Arm → Type 0
IsArmSpelt a = IsTrue (readable_arm a) → (most : ℕ) → most ≤ 512 → ArmStaysWithin most a →
    Starts (arm_text a) × ((r : List ℕ) → ends r ≡ true → Spelt (arm most (program most)) a (arm_text a ++ r) (skip r))

abbrev pub AreSpelt : List Arm → Type 0
AreSpelt [] = Unit {0}
AreSpelt (a ∷ arms) = IsArmSpelt a × AreSpelt arms
