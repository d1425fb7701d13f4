-- A text is read as a program exactly where its tokens spell it, and has the fault that is told exactly where it has it.
use Rattle.std.proofs.Common.{◌≡◌, ℕ, ◌-◌, List, length, refl, sym, ap, ◌∙◌, subst, arith, length-drop, drop, ◌⊎◌, inl, inr}
use Rattle.rw_programs.specs.declared.prog.Prog.{Prog}
use Rattle.rw_forms.specs.declared.request.ReadError.{ReadError}
use Rattle.rw_forms.specs.declared.request.ReadError.TheVariants.{Syntax, Memory}
use Rattle.rw_tokens.specs.Tokens.{Token, skip}
use Rattle.rw_forms.specs.Forms.{Given, Form, a_program}
use Rattle.rw_forms.specs.Progress.{StopsAt}
use Rattle.rw_forms.specs.Reading.{TextSpellsAs, IsFaultAs, whole, read_form}
use Rattle.rw_forms.proofs.Grammar.{Keeps}
use Rattle.rw_forms.proofs.Endings.{one}
use Rattle.rw_forms.proofs.Texts.{nothing, one_text, spelled, faulty, exclusive}
use Rattle.rw_program_reader.specs.Programs.{program_form}
use Rattle.rw_program_reader.specs.Reading.{Spells, ProgramSpells, IsProgramFault}
use Rattle.rw_program_reader.proofs.Keeping.{IsProgram, program_form_keeps}

given_program : {p q : Prog} → a_program p ≡ a_program q → p ≡ q
given_program e = cc

pub one_program : (ts : List Token) (p q : Prog) → Spells ts p → Spells ts q → p ≡ q
one_program ts p q a b = given_program (one IsProgram nothing ts program_form (a_program p) (a_program q) program_form_keeps a b)

pub one_program_text : (text : List ℕ) (p q : Prog) → ProgramSpells text p → ProgramSpells text q → p ≡ q
one_program_text text p q a b = given_program (one_text IsProgram program_form program_form_keeps text (a_program p) (a_program q) a b)

-- what a form gives of a whole text, and where it stops
pub read_ok : (P : Given → Type 0) (f : Form) → Keeps P nothing f → (text : List ℕ) (at : ℕ) (v : Given) → drop at text ≡ skip text → read_form f (drop at text) ≡ whole v → TextSpellsAs f text v
read_ok P f keeps text at v s e = (spelled P f keeps text v (ap (read_form f) (sym s) ∙ e)).1

pub read_err : (P : Given → Type 0) (f : Form) → Keeps P nothing f → (text : List ℕ) (at : ℕ) (e : ReadError) → drop at text ≡ skip text → StopsAt text e (read_form f (drop at text)) → (e ≡ Memory) ⊎ ((o : ℕ) × (e ≡ Syntax o) × IsFaultAs f text o)
read_err P f keeps text at Memory s h = inl refl
read_err P f keeps text at (Syntax o) s h =
    let there : length text - length (drop o text) ≡ o = (let l = length-drop o text in let w = h.0 in omega (arith, l, w)) in
    inr (o, refl, subst (IsFaultAs f text) there (faulty P f keeps text (drop o text) (ap (read_form f) (sym s) ∙ h.1)))

-- A text that is spelled is read, or memory is wanting.
pub answered : (f : Form) (text : List ℕ) (v : Given) (e : ReadError) → (e ≡ Memory) ⊎ ((o : ℕ) × (e ≡ Syntax o) × IsFaultAs f text o) → TextSpellsAs f text v → e ≡ Memory
answered f text v e (inl m) s = m
answered f text v e (inr o) s = absurd (exclusive f text v o.0 s o.2)

pub program_ok : (text : List ℕ) (at : ℕ) (p : Prog) → drop at text ≡ skip text → read_form program_form (drop at text) ≡ whole (a_program p) → ProgramSpells text p
program_ok text at p = read_ok IsProgram program_form program_form_keeps text at (a_program p)

pub program_err : (text : List ℕ) (at : ℕ) (e : ReadError) → drop at text ≡ skip text → StopsAt text e (read_form program_form (drop at text)) → (e ≡ Memory) ⊎ ((o : ℕ) × (e ≡ Syntax o) × IsProgramFault text o)
program_err = read_err IsProgram program_form program_form_keeps
