-- What tokens spell as a program is readable.
use Rattle.std.proofs.Common.{◌≡◌, ℕ, zero, suc, Bool, true, List, [], ◌∷◌, length, map, refl, ◌∙◌}
use Rattle.std.specs.Prelude.{not, ◌&&◌, codes}
use Rattle.std.proofs.lemmas.Bool.{and_parts, and_from}
use Rattle.rw_terms.specs.AllOf.{all_of}
use Rattle.rw_terms.specs.declared.term.Sort.{Sort}
use Rattle.rw_terms.specs.declared.term.Sort.TheVariants as sorts
use Rattle.rw_terms.specs.declared.term.Term.{Term}
use Rattle.rw_terms.specs.declared.term.Formula.{Formula}
use Rattle.rw_syntax.specs.Grammar.{is_sort, is_upper, as_term, as_formula}
use Rattle.rw_programs.specs.declared.prog.Arm.{Arm}
use Rattle.rw_programs.specs.declared.prog.Pin.{Pin}
use Rattle.rw_programs.specs.declared.prog.Prog.{Prog}
use Rattle.rw_programs.specs.declared.prog.Prog.TheVariants as prog
use Rattle.rw_tokens.specs.Tokens.{Token}
use Rattle.rw_forms.specs.Forms.{any_name, a_variable, a_constant, Given, a_name, a_term, a_program, Form, gives, takes, either}
use Rattle.rw_forms.specs.Phrases.{mark, sort, formula, term, term_form, term_in, terms, names, name_form, name_in}
use Rattle.rw_forms.specs.Reading.{SpellsAs}
use Rattle.rw_printer.specs.Readable.{readable_term, readable_terms, readable_formula}
use Rattle.rw_printer.proofs.SpelledValues.{as_term_good, as_formula_good}
use Rattle.rw_program_reader.specs.declared.opening.Binding.{Binding}
use Rattle.rw_program_reader.specs.declared.opening.Binding.TheVariants as bindings
use Rattle.rw_program_reader.specs.Programs.{inside, conditions, specification, named, arguments, results, bracketed, passed, call, operation_call, plain, pin, pin_form, pin_in, pins, opening, block_of, Programs, block, group, arm, arm_form, arm_in, arms, alternation, braced, variant, iteration, one, program, program_form}
use Rattle.rw_program_printer.specs.Readable.{readable_names, readable_pin, some_of, readable_prog, readable_arm}
use Rattle.rw_program_printer.proofs.Yields.{Yields, yields, many_yields}
use Rattle.rw_program_printer.proofs.SpeltBlocks.{some_is, good_is}

-- terms, formulas, names and sorts

term_yields : (P : Given → Bool) (most : ℕ) (k : Term → Form) → ((t : Term) → readable_term t 0 ≡ true → Yields P (k t)) → Yields P (term most k)
unfolding term
term_yields P most k h = λ v g. h (as_term v) (as_term_good 0 v g)

formula_yields : (P : Given → Bool) (most : ℕ) (k : Formula → Form) → ((f : Formula) → readable_formula f 0 ≡ true → Yields P (k f)) → Yields P (formula most k)
unfolding formula
formula_yields P most k h = λ v g. h (as_formula v) (as_formula_good 0 v g)

terms_yield : (P : Given → Bool) (most : ℕ) (k : List Term → Form) → ((ts : List Term) → (some_of ts && readable_terms ts) ≡ true → Yields P (k ts)) → Yields P (terms most k)
unfolding terms term_form
terms_yield P most k h =
    many_yields P term_in (λ t. readable_term t 0) (term most (λ t. gives (a_term t))) (codes ",") k (term_yields (λ g. readable_term (term_in g) 0) most (λ t. gives (a_term t)) (λ t p. p)) (λ t ts p. h (t ∷ ts) p)

names_yield : (P : Given → Bool) (k : List (List ℕ) → Form) → ((xs : List (List ℕ)) → (some_of xs && readable_names xs) ≡ true → Yields P (k xs)) → Yields P (names k)
unfolding names name_form
names_yield P k h = many_yields P name_in (λ x. not (is_upper x)) (takes a_variable (λ x. gives (a_name x))) (codes ",") k (λ x w. w) (λ x xs p. h (x ∷ xs) p)

sort_yields : (P : Given → Bool) (k : Sort → Form) → ((s : Sort) → is_sort s ≡ true → Yields P (k s)) → Yields P (sort k)
unfolding sort
sort_yields P k h = (h sorts.Int refl, λ x w n u. h (sorts.Array n) u)

-- what is said of what a program goes on with
abbrev Readable : (Given → Bool) → (Prog → Form) → Type 0
Readable P k = (p : Prog) → readable_prog p ≡ true → Yields P (k p)

-- a part that is a program
abbrev Yielding : Programs → Type 0
Yielding inner = (P : Given → Bool) (k : Prog → Form) → Readable P k → Yields P (inner k)

inside_yields : (P : Given → Bool) (most : ℕ) (f : ℕ → Form) → ((m : ℕ) → Yields P (f m)) → Yields P (inside most f)
inside_yields P zero f h = h 0
inside_yields P (suc most) f h = h most

-- programs with no program in them

specification_yields : (P : Given → Bool) (most : ℕ) (xs : List (List ℕ)) (k : Prog → Form) → readable_names xs ≡ true → Readable P k → Yields P (specification most xs k)
unfolding specification
specification_yields P most xs k n h =
    inside_yields P most (conditions xs k)
    (λ m x w. formula_yields P m (λ f. mark (codes ",") (formula m (λ g. mark (codes "]") (k (prog.Spec (record { frame = xs; pre = f; post = g })))))) (λ f p y z. formula_yields P m (λ g. mark (codes "]") (k (prog.Spec (record { frame = xs; pre = f; post = g }))))
    (λ g q u v. h (prog.Spec (record { frame = xs; pre = f; post = g })) (and_from (readable_names xs) (readable_formula f 0 && readable_formula g 0) n (and_from (readable_formula f 0) (readable_formula g 0) p q)))))

named_yields : (P : Given → Bool) (most : ℕ) (xs : List (List ℕ)) (k : Prog → Form) → (some_of xs && readable_names xs) ≡ true → Readable P k → Yields P (named most xs k)
unfolding named
named_yields P most xs k n h = (
  terms_yield P most (λ ts. k (prog.Assign xs ts)) (λ ts p. h (prog.Assign xs ts) (and_from (some_of xs && readable_names xs) (some_of ts && readable_terms ts) n p)),
  λ x w. specification_yields P most xs k (and_parts (some_of xs) (readable_names xs) n).1 h,
)

arguments_yield : (P : Given → Bool) (most : ℕ) (k : List Term → Form) → ((ts : List Term) → readable_terms ts ≡ true → Yields P (k ts)) → Yields P (arguments most k)
unfolding arguments
arguments_yield P most k h = (h [] refl, terms_yield P most (λ ts. mark (codes ";") (k ts)) (λ ts p x w. h ts (and_parts (some_of ts) (readable_terms ts) p).1))

results_yield : (P : Given → Bool) (k : List (List ℕ) → Form) → ((xs : List (List ℕ)) → readable_names xs ≡ true → Yields P (k xs)) → Yields P (results k)
unfolding results
results_yield P k h = (h [] refl, names_yield P (λ xs. mark (codes ")") (k xs)) (λ xs p x w. h xs (and_parts (some_of xs) (readable_names xs) p).1))

passed_yields : (P : Given → Bool) (most : ℕ) (k : List Term × List (List ℕ) → Form) → ((ts : List Term) (xs : List (List ℕ)) → (readable_terms ts && readable_names xs) ≡ true → Yields P (k (ts, xs))) → Yields P (passed most k)
unfolding passed
passed_yields P most k h = inside_yields P most (bracketed k) (λ m x w. arguments_yield P m (λ ts. results (λ xs. k (ts, xs))) (λ ts p. results_yield P (λ xs. k (ts, xs)) (λ xs q. h ts xs (and_from (readable_terms ts) (readable_names xs) p q))))

call_yields : (P : Given → Bool) (most : ℕ) (k : Prog → Form) → Readable P k → Yields P (call most k)
unfolding call
call_yields P most k h = λ f w. passed_yields P most (λ a. k (prog.Call f a.0 a.1)) (λ ts xs p. h (prog.Call f ts xs) p)

operation_yields : (P : Given → Bool) (most : ℕ) (k : Prog → Form) → Readable P k → Yields P (operation_call most k)
unfolding operation_call
operation_yields P most k h = λ m w x z f v. passed_yields P most (λ a. k (prog.OpCall m f a.0 a.1)) (λ ts xs p. h (prog.OpCall m f ts xs) p)

plain_yields : (P : Given → Bool) (most : ℕ) (k : Prog → Form) → Readable P k → Yields P (plain most k)
unfolding plain
plain_yields P most k h = (
  h prog.Skip refl,
  (call_yields P most k h, (operation_yields P most k h, (specification_yields P most [] k refl h, names_yield P (λ xs. named most xs k) (λ xs p. named_yields P most xs k p h)))),
)

-- blocks

pin_yields : (P : Given → Bool) (most : ℕ) (k : Pin → Form) → ((p : Pin) → readable_pin p ≡ true → Yields P (k p)) → Yields P (pin most k)
unfolding pin
pin_yields P most k h = λ x w y z. term_yields P most (λ t. k (record { name = x; term = t })) (λ t p. h (record { name = x; term = t }) (and_from (is_upper x) (readable_term t 0) w p))

pins_yield : (P : Given → Bool) (most : ℕ) (k : List Pin → Form) → ((ps : List Pin) → (some_of ps && all_of (map readable_pin ps)) ≡ true → Yields P (k ps)) → Yields P (pins most k)
unfolding pins pin_form
pins_yield P most k h = many_yields P pin_in readable_pin (pin_form most) (codes ",") k (pin_yields (λ g. readable_pin (pin_in g)) most (λ p. gives (Rattle.rw_forms.specs.Forms.a_pin p)) (λ p r. r)) (λ p ps r. h (p ∷ ps) r)

-- what is brought into scope, as a text can have it
abbrev readable_binding : Binding → Bool
readable_binding (bindings.Local x s) = not (is_upper x) && is_sort s
readable_binding (bindings.Constants ps) = some_of ps && all_of (map readable_pin ps)
readable_binding (bindings.Module m) = true

opening_yields : (P : Given → Bool) (most : ℕ) (k : Binding → Form) → ((o : Binding) → readable_binding o ≡ true → Yields P (k o)) → Yields P (opening most k)
unfolding opening
opening_yields P most k h = (
  (λ x w y z. sort_yields P (λ s. k (bindings.Local x s)) (λ s p. h (bindings.Local x s) (and_from (not (is_upper x)) (is_sort s) w p))),
  (pins_yield P most (λ ps. k (bindings.Constants ps)) (λ ps p. h (bindings.Constants ps) p), λ x w m z. h (bindings.Module m) refl),
)

block_readable : (o : Binding) (p : Prog) → readable_binding o ≡ true → readable_prog p ≡ true → readable_prog (block_of o p) ≡ true
unfolding Rattle.rw_programs.specs.declared.prog.Prog.TheBlock.hidden-the_row-Prog-0 denote.Hole.Carrier.hidden
block_readable (bindings.Local x s) p o r = let q = and_parts (not (is_upper x)) (is_sort s) o in and_from (not (is_upper x)) (is_sort s && readable_prog p) q.0 (and_from (is_sort s) (readable_prog p) q.1 r)
block_readable (bindings.Constants ps) p o r = and_from (some_of ps && all_of (map readable_pin ps)) (readable_prog p) o r
block_readable (bindings.Module m) p o r = r

block_yields : (most : ℕ) (inner : Programs) → Yielding inner → Yielding (block most inner)
unfolding block
block_yields most inner i P k h =
    opening_yields P most (λ o. mark (codes ".") (inner (λ p. mark (codes "]|") (k (block_of o p)))))
    (λ o r x w. i P (λ p. mark (codes "]|") (k (block_of o p))) (λ p q y z. h (block_of o p) (block_readable o p r q)))

group_yields : (inner : Programs) → Yielding inner → Yielding (group inner)
unfolding group
group_yields inner i P k h = i P (λ p. mark (codes ")") (k p)) (λ p q x w. h p q)

-- alternations and iterations

arm_yields : (P : Given → Bool) (most : ℕ) (inner : Programs) (k : Arm → Form) → Yielding inner → ((a : Arm) → readable_arm a ≡ true → Yields P (k a)) → Yields P (arm most inner k)
unfolding arm
arm_yields P most inner k i h =
    formula_yields P most (λ g. mark (codes "->") (inner (λ p. k (record { guard = g; body = p }))))
    (λ g r x w. i P (λ p. k (record { guard = g; body = p })) (λ p q. h (record { guard = g; body = p }) (and_from (readable_formula g 0) (readable_prog p) r q)))

arms_yield : (P : Given → Bool) (most : ℕ) (inner : Programs) (k : List Arm → Form) → Yielding inner → ((l : List Arm) → (some_of l && all_of (map readable_arm l)) ≡ true → Yields P (k l)) → Yields P (arms most inner k)
unfolding arms arm_form
arms_yield P most inner k i h = many_yields P arm_in readable_arm (arm_form most inner) (codes "[]") k (arm_yields (λ g. readable_arm (arm_in g)) most inner (λ a. gives (Rattle.rw_forms.specs.Forms.an_arm a)) i (λ a r. r)) (λ a l r. h (a ∷ l) r)

if_readable : (l : List Arm) → (some_of l && all_of (map readable_arm l)) ≡ true → readable_prog (prog.If l) ≡ true
unfolding Rattle.rw_programs.specs.declared.prog.Prog.TheBlock.hidden-the_row-Arm-1 denote.Hole.Carrier.hidden
if_readable l r = let q = and_parts (some_of l) (all_of (map readable_arm l)) r in and_from _ _ (some_is l ∙ q.0) (good_is l ∙ q.1)

do_readable : (v : Term) (l : List Arm) → readable_term v 0 ≡ true → (some_of l && all_of (map readable_arm l)) ≡ true → readable_prog (prog.Do v l) ≡ true
unfolding Rattle.rw_programs.specs.declared.prog.Prog.TheBlock.hidden-the_row-Arm-1 denote.Hole.Carrier.hidden
do_readable v l t r = and_from (readable_term v 0) _ t (if_readable l r)

alternation_yields : (most : ℕ) (inner : Programs) → Yielding inner → Yielding (alternation most inner)
unfolding alternation
alternation_yields most inner i P k h = arms_yield P most inner (λ l. mark (codes "fi") (k (prog.If l))) i (λ l r x w. h (prog.If l) (if_readable l r))

variant_yields : (P : Given → Bool) (most : ℕ) (k : Term → Form) → ((t : Term) → readable_term t 0 ≡ true → Yields P (k t)) → Yields P (variant most k)
unfolding variant
variant_yields P most k h = inside_yields P most (braced k) (λ m x w. term_yields P m (λ v. mark (codes "}") (k v)) (λ v p y z. h v p))

iteration_yields : (most : ℕ) (inner : Programs) → Yielding inner → Yielding (iteration most inner)
unfolding iteration
iteration_yields most inner i P k h =
    variant_yields P most (λ v. arms most inner (λ l. mark (codes "od") (k (prog.Do v l))))
    (λ v t. arms_yield P most inner (λ l. mark (codes "od") (k (prog.Do v l))) i (λ l r x w. h (prog.Do v l) (do_readable v l t r)))

-- programs

one_yields : (most : ℕ) (inner : Programs) → Yielding inner → Yielding (one most inner)
unfolding one
one_yields most inner i P k h = (alternation_yields most inner i P k h, (iteration_yields most inner i P k h, (block_yields most inner i P k h, (group_yields inner i P k h, plain_yields P (suc most) k h))))

seq_readable : (p q : Prog) → readable_prog p ≡ true → readable_prog q ≡ true → readable_prog (prog.Seq p q) ≡ true
unfolding Rattle.rw_programs.specs.declared.prog.Prog.TheBlock.hidden-the_row-Prog-0 denote.Hole.Carrier.hidden
seq_readable p q a b = and_from (readable_prog p) (readable_prog q) a b

program_yields : (most : ℕ) → Yielding (program most)
unfolding program
program_yields zero P k h = plain_yields P 0 k h
program_yields (suc most) P k h =
    one_yields most (program most) (program_yields most) P (λ p. either (codes ";") (program most (λ q. k (prog.Seq p q))) (k p))
    (λ p r. (program_yields most P (λ q. k (prog.Seq p q)) (λ q s. h (prog.Seq p q) (seq_readable p q r s)), h p r))

abbrev program_in : Given → Prog
program_in (a_program p) = p
program_in _ = prog.Skip

pub programs_readable : (ts : List Token) (p : Prog) → SpellsAs program_form ts (a_program p) → readable_prog p ≡ true
unfolding program_form
programs_readable ts p s = yields (λ g. readable_prog (program_in g)) program_form (length ts) ts (a_program p) (program_yields 512 (λ g. readable_prog (program_in g)) (λ q. gives (a_program q)) (λ q r. r)) s
