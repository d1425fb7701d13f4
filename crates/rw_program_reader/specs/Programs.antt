-- The grammar of programs. Each form is given the nest that may still be opened: 512, less what is open round it.
use Rattle.std.specs.Prelude.{ℕ, zero, suc, List, [], map, codes, pos}
use Rattle.rw_terms.specs.declared.term.Term.{Term}
use Rattle.rw_terms.specs.declared.term.Term.TheOpen.{Term-F}
use Rattle.rw_terms.specs.declared.term.Term.TheViews.{roll-Term}
use Rattle.rw_terms.specs.declared.term.Formula.TheOpen.{Formula-F}
use Rattle.rw_terms.specs.declared.term.Formula.TheViews.{roll-Formula}
use Rattle.rw_programs.specs.declared.prog.Arm.{Arm}
use Rattle.rw_programs.specs.declared.prog.Pin.{Pin}
use Rattle.rw_programs.specs.declared.prog.Prog.{Prog}
use Rattle.rw_programs.specs.declared.prog.Prog.TheVariants as prog
use Rattle.rw_forms.specs.Forms.{a_variable, a_constant, any_name, a_program, an_arm, a_pin, Given, Form, gives, takes, either, too_deep, many}
use Rattle.rw_forms.specs.Phrases.{mark, sort, formula, term, names, terms}
use Rattle.rw_program_reader.specs.declared.opening.Binding.{Binding}
use Rattle.rw_program_reader.specs.declared.opening.Binding.TheVariants as bindings

-- a bracket with what stands in it, where one less may be opened; too deep, where no more may be
abbrev pub inside : ℕ → (ℕ → Form) → Form
inside zero f = too_deep (f 0)
inside (suc most) f = f most

-- [ FORM , FORM ] behind a frame and a colon
abbrev pub conditions : List (List ℕ) → (Prog → Form) → ℕ → Form
conditions xs k most = mark (codes "[") (formula most (λ f. mark (codes ",") (formula most (λ g. mark (codes "]") (k (prog.Spec (record { frame = xs; pre = f; post = g })))))))

unfoldable pub specification : ℕ → List (List ℕ) → (Prog → Form) → Form
specification most xs k = inside most (conditions xs k)

-- := TERMS, or a colon and the conditions, behind names
unfoldable pub named : ℕ → List (List ℕ) → (Prog → Form) → Form
named most xs k = either (codes ":=") (terms most (λ ts. k (prog.Assign xs ts))) (mark (codes ":") (specification most xs k))

-- [ TERMS ] ;
unfoldable pub arguments : ℕ → (List Term → Form) → Form
arguments most k = either (codes ";") (k []) (terms most (λ ts. mark (codes ";") (k ts)))

-- [ NAMES ] and a closing bracket
unfoldable pub results : (List (List ℕ) → Form) → Form
results k = either (codes ")") (k []) (names (λ xs. mark (codes ")") (k xs)))

-- ( [ TERMS ] ; [ NAMES ] ), the terms and the names
abbrev pub bracketed : (List Term × List (List ℕ) → Form) → ℕ → Form
bracketed k most = mark (codes "(") (arguments most (λ ts. results (λ xs. k (ts, xs))))

unfoldable pub passed : ℕ → (List Term × List (List ℕ) → Form) → Form
passed most k = inside most (bracketed k)

-- NAME and what is passed, behind `call`
unfoldable pub call : ℕ → (Prog → Form) → Form
call most k = takes any_name (λ p. passed most (λ a. k (prog.Call p a.0 a.1)))

-- NAME . NAME and what is passed, behind `op`
unfoldable pub operation_call : ℕ → (Prog → Form) → Form
operation_call most k = takes any_name (λ m. mark (codes ".") (takes any_name (λ o. passed most (λ a. k (prog.OpCall m o a.0 a.1)))))

-- the programs with no program in them
unfoldable pub plain : ℕ → (Prog → Form) → Form
plain most k =
    either (codes "skip") (k prog.Skip) (either (codes "call") (call most k) (either (codes "op") (operation_call most k)
    (either (codes ":") (specification most [] k) (names (λ xs. named most xs k)))))

-- NAME = TERM, of a constant
unfoldable pub pin : ℕ → (Pin → Form) → Form
pin most k = takes a_constant (λ x. mark (codes "=") (term most (λ t. k (record { name = x; term = t }))))

-- a pin as an item
unfoldable pub pin_form : ℕ → Form
pin_form most = pin most (λ p. gives (a_pin p))

abbrev pub pin_in : Given → Pin
pin_in (a_pin p) = p
pin_in _ = record { name = []; term = roll-Term (Term-F.Lit (pos 0)) }

-- NAME = TERM { , NAME = TERM }
unfoldable pub pins : ℕ → (List Pin → Form) → Form
pins most k = many (pin_form most) (codes ",") (λ gs. k (map pin_in gs))

-- what a block brings into scope: `var` NAME : SORT, `con` PINS or `module` NAME
unfoldable pub opening : ℕ → (Binding → Form) → Form
opening most k =
    either (codes "var") (takes a_variable (λ x. mark (codes ":") (sort (λ s. k (bindings.Local x s)))))
    (either (codes "con") (pins most (λ ps. k (bindings.Constants ps))) (mark (codes "module") (takes any_name (λ m. k (bindings.Module m)))))

-- the block of what it brings into scope and a program
abbrev pub block_of : Binding → Prog → Prog
block_of (bindings.Local x s) p = prog.Block x s p
block_of (bindings.Constants ps) p = prog.Con ps p
block_of (bindings.Module m) p = prog.ModBlock m p

-- a part of a form that is a program
abbrev pub Programs : Type 0
Programs = (Prog → Form) → Form

-- OPENING . PROG ]|, behind `|[`
unfoldable pub block : ℕ → Programs → Programs
block most inner k = opening most (λ o. mark (codes ".") (inner (λ p. mark (codes "]|") (k (block_of o p)))))

-- ( PROG behind the bracket
unfoldable pub group : Programs → Programs
group inner k = inner (λ p. mark (codes ")") (k p))

-- FORM -> PROG
unfoldable pub arm : ℕ → Programs → (Arm → Form) → Form
arm most inner k = formula most (λ g. mark (codes "->") (inner (λ p. k (record { guard = g; body = p }))))

-- an arm as an item
unfoldable pub arm_form : ℕ → Programs → Form
arm_form most inner = arm most inner (λ a. gives (an_arm a))

abbrev pub arm_in : Given → Arm
arm_in (an_arm a) = a
arm_in _ = record { guard = roll-Formula Formula-F.True; body = prog.Skip }

-- FORM -> PROG { [] FORM -> PROG }
unfoldable pub arms : ℕ → Programs → (List Arm → Form) → Form
arms most inner k = many (arm_form most inner) (codes "[]") (λ gs. k (map arm_in gs))

-- ARMS fi, behind `if`
unfoldable pub alternation : ℕ → Programs → Programs
alternation most inner k = arms most inner (λ l. mark (codes "fi") (k (prog.If l)))

-- { TERM }
abbrev pub braced : (Term → Form) → ℕ → Form
braced k most = mark (codes "{") (term most (λ v. mark (codes "}") (k v)))

unfoldable pub variant : ℕ → (Term → Form) → Form
variant most k = inside most (braced k)

-- { TERM } ARMS od, behind `do`
unfoldable pub iteration : ℕ → Programs → Programs
iteration most inner k = variant most (λ v. arms most inner (λ l. mark (codes "od") (k (prog.Do v l))))

-- ONE, where one more may be opened than inside it
unfoldable pub one : ℕ → Programs → Programs
one most inner k =
    either (codes "if") (alternation most inner k) (either (codes "do") (iteration most inner k) (either (codes "|[") (block most inner k)
    (either (codes "(") (group inner k) (plain (suc most) k))))

-- ONE [ ; PROG ]: each `;` opens one more up to the program's end.
unfoldable pub program : ℕ → Programs
program zero k = plain 0 k
program (suc most) k = one most (program most) (λ p. either (codes ";") (program most (λ q. k (prog.Seq p q))) (k p))

-- a whole program
unfoldable pub program_form : Form
program_form = program 512 (λ p. gives (a_program p))
