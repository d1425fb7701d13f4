-- Brackets with what stands in them, and programs, by the nest that may still be opened.
use Rattle.std.proofs.Common.{◌≡◌, ℕ, zero, suc, ◌+◌, ◌-◌, ◌≤◌, drop, length, List, refl, sym, ap, subst, arith}
use Rattle.std.specs.Prelude.{codes}
use Rattle.rw_programs.specs.declared.prog.Prog.{Prog}
use Rattle.rw_programs.specs.declared.prog.Prog.TheVariants as prog
use Rattle.rw_forms.specs.declared.request.ReadError.{ReadError}
use Rattle.rw_forms.specs.declared.request.ReadError.TheVariants.{Syntax}
use Rattle.rw_forms.specs.Forms.{Form, either, too_deep}
use Rattle.rw_forms.specs.Reading.{stops, read_form}
use Rattle.rw_forms.specs.Progress.{StopsAt}
use Rattle.rw_forms.proofs.Endings.{stuck_form}
use Rattle.rw_program_reader.specs.Programs.{inside, plain, one, program}

one_less : (n : ℕ) → n ≡ suc n - 1
one_less n = omega arith

pub one_more : (n : ℕ) → suc n ≡ n + 1
one_more n = omega arith

-- no token is read where no more may be opened
deep : (f : Form) (here : List ℕ) → read_form (too_deep f) here ≡ stops here
deep f here = stuck_form (too_deep f) here (λ z. refl) (λ t there z. refl)

shut : (most : ℕ) (f : ℕ → Form) (here : List ℕ) → most ≡ 0 → read_form (inside most f) here ≡ stops here
shut zero f here e = deep (f 0) here
shut (suc most) f here e = absurd (omega arith)

pub stops_shut : (line : List ℕ) (at most : ℕ) (f : ℕ → Form) (e : ReadError) → most ≡ 0 → e ≡ Syntax at → at ≤ length line → StopsAt line e (read_form (inside most f) (drop at line))
stops_shut line at most f e z is within = subst (λ x. StopsAt line x (read_form (inside most f) (drop at line))) (sym is) (within, shut most f (drop at line) z)

-- else one less may be
pub opens : (most : ℕ) (f : ℕ → Form) (here : List ℕ) → (most ≡ 0 → ⊥) → read_form (inside most f) here ≡ read_form (f (most - 1)) here
opens zero f here e = absurd (e refl)
opens (suc most) f here e = ap (λ m. read_form (f m) here) (one_less most)

-- a program in which nothing may be opened
pub flat : (most : ℕ) (k : Prog → Form) (here : List ℕ) → most ≡ 0 → read_form (program most k) here ≡ read_form (plain 0 k) here
unfolding program
flat zero k here e = refl
flat (suc most) k here e = absurd (omega arith)

-- what follows the first part of a program
abbrev pub goes_on : ℕ → (Prog → Form) → Prog → Form
goes_on most k p = either (codes ";") (program most (λ q. k (prog.Seq p q))) (k p)

pub parted : (most : ℕ) (k : Prog → Form) (here : List ℕ) → (most ≡ 0 → ⊥) → read_form (program most k) here ≡ read_form (one (most - 1) (program (most - 1)) (goes_on (most - 1) k)) here
unfolding program
parted zero k here e = absurd (e refl)
parted (suc most) k here e = ap (λ m. read_form (one m (program m) (goes_on m k)) here) (one_less most)
