-- What a text's tokens spell as a program, and where its fault is.
use Rattle.std.specs.Prelude.{ℕ, List}
use Rattle.rw_programs.specs.declared.prog.Prog.{Prog}
use Rattle.rw_tokens.specs.Tokens.{Token}
use Rattle.rw_forms.specs.Forms.{a_program}
use Rattle.rw_forms.specs.Reading.{SpellsAs, TextSpellsAs, IsFaultAs}
use Rattle.rw_program_reader.specs.Programs.{program_form}

-- tokens spell a program, with a nest within 512
abbrev pub Spells : List Token → Prog → Type 0
Spells ts p = SpellsAs program_form ts (a_program p)

-- a text's tokens spell a program
abbrev pub ProgramSpells : List ℕ → Prog → Type 0
ProgramSpells text p = TextSpellsAs program_form text (a_program p)

-- the fault of a text that is no program
abbrev pub IsProgramFault : List ℕ → ℕ → Type 0
IsProgramFault = IsFaultAs program_form
