-- Which programs some text spells.
use Rattle.std.specs.Prelude.{ℕ, Bool, true, false, not, ◌&&◌, List, [], ◌∷◌, map}
use Rattle.rw_terms.specs.Names.{is_name}
use Rattle.rw_terms.specs.AllOf.{all_of}
use Rattle.rw_syntax.specs.Grammar.{is_sort, is_upper}
use Rattle.rw_programs.specs.declared.prog.Arm.{Arm}
use Rattle.rw_programs.specs.declared.prog.Pin.{Pin}
use Rattle.rw_programs.specs.declared.prog.Spec.{Spec}
use Rattle.rw_programs.specs.declared.prog.Prog.TheVariants as prog
use Rattle.rw_programs.specs.declared.prog.Prog.{Prog, Kid, Skip, Assign, If', Do', Call, OpCall, Row_of-Arm, end_of-Arm, more_of-Arm}
use Rattle.rw_programs.specs.Made.{Seq, Block, Con, ModBlock}
use Rattle.rw_printer.specs.Readable.{readable_term, readable_terms, readable_formula, named_term, named_formula}

-- names of variables
abbrev pub readable_names : List (List ℕ) → Bool
readable_names xs = all_of (map (λ x. not (is_upper x)) xs)

-- a constant and its term
abbrev pub readable_pin : Pin → Bool
readable_pin p = is_upper p.name && readable_term p.term 0

-- one of a list at least
abbrev pub some_of : {A : Type 0} → List A → Bool
some_of [] = false
some_of (x ∷ xs) = true

-- whether there is an arm
abbrev pub some_arms : {m : _} → Row_of-Arm m → Bool
some_arms end_of-Arm = false
some_arms (more_of-Arm g c rest) = true

abbrev mutual
  -- Whether some text spells a program: no kid is in it, no list is empty that may not be, and first letters, sorts,
  -- terms and formulas are as a text can have them.
  pub readable_prog : Prog → Bool
  readable_prog (prog.Spec w) = readable_names w.frame && (readable_formula w.pre 0 && readable_formula w.post 0)
  readable_prog (Kid n) = false
  readable_prog Skip = true
  readable_prog (Assign xs ts) = (some_of xs && readable_names xs) && (some_of ts && readable_terms ts)
  readable_prog (Seq c d) = readable_prog c && readable_prog d
  readable_prog (If' shape arms) = some_arms arms && readable_row arms
  readable_prog (Do' v shape arms) = readable_term v 0 && (some_arms arms && readable_row arms)
  readable_prog (Block x s c) = not (is_upper x) && (is_sort s && readable_prog c)
  readable_prog (Con ps c) = (some_of ps && all_of (map readable_pin ps)) && readable_prog c
  readable_prog (Call f ts xs) = readable_terms ts && readable_names xs
  readable_prog (OpCall m f ts xs) = readable_terms ts && readable_names xs
  readable_prog (ModBlock m c) = readable_prog c

  -- of guards and the programs behind them
  pub readable_row : {m : _} → Row_of-Arm m → Bool
  readable_row end_of-Arm = true
  readable_row (more_of-Arm g c rest) = (readable_formula g 0 && readable_prog c) && readable_row rest

-- of an arm
abbrev pub readable_arm : Arm → Bool
readable_arm a = readable_formula a.guard 0 && readable_prog a.body

-- A name that code holds is always one.
abbrev pub named_names : List (List ℕ) → Bool
named_names xs = all_of (map is_name xs)

abbrev pub named_pin : Pin → Bool
named_pin p = is_name p.name && named_term p.term

abbrev pub named_pins : List Pin → Bool
named_pins ps = all_of (map named_pin ps)

abbrev pub named_spec : Spec → Bool
named_spec w = named_names w.frame && (named_formula w.pre && named_formula w.post)
