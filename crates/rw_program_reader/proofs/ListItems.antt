-- The items of the lists in programs.
use Rattle.std.proofs.Common.{◌≡◌, ℕ, zero, suc, List, [], ◌∷◌, map, refl, ap, ◌∙◌}
use Rattle.std.specs.Prelude.{codes}
use Rattle.rw_terms.specs.declared.term.Term.{Term}
use Rattle.rw_programs.specs.declared.prog.Arm.{Arm}
use Rattle.rw_programs.specs.declared.prog.Pin.{Pin}
use Rattle.rw_programs.specs.declared.prog.Prog.{Prog}
use Rattle.rw_programs.specs.declared.prog.Prog.TheVariants as prog
use Rattle.rw_forms.specs.Forms.{any_name, Given, an_arm, a_pin, Form, gives, takes, either, too_deep, more_of, followed}
use Rattle.rw_forms.specs.Phrases.{mark, sort, formula, term, name_form, name_in, names}
use Rattle.rw_forms.proofs.Listing.{IsItem}
use Rattle.rw_forms.proofs.ListItems.{followed_twice, terms_followed}
use Rattle.rw_program_reader.specs.declared.opening.Binding.{Binding}
use Rattle.rw_program_reader.specs.declared.opening.Binding.TheVariants as bindings
use Rattle.rw_program_reader.specs.Programs.{inside, conditions, specification, named, arguments, results, bracketed, passed, call, operation_call, plain, pin, pin_form, pin_in, pins, opening, block_of, Programs, block, group, arm, arm_form, arm_in, arms, alternation, braced, variant, iteration, one, program}

pub pin_item : (most : ℕ) → IsItem {A = Pin} (pin_form most) (pin most) a_pin
unfolding pin_form pin term
pin_item most = λ j. refl

-- what follows a part of a program is followed in one

inside_followed : (most : ℕ) (f g : ℕ → Form) (j : Given → Form) → ((m : ℕ) → followed (f m) j ≡ g m) → followed (inside most f) j ≡ inside most g
inside_followed zero f g j h = ap too_deep (h 0)
inside_followed (suc most) f g j h = h most

names_followed : (k : List (List ℕ) → Form) (j : Given → Form) → followed (names k) j ≡ names (λ xs. followed (k xs) j)
unfolding names
names_followed k j = followed_twice name_form (λ g. more_of name_form (codes ",") (g ∷ []) (λ gs. k (map name_in gs))) j

conditions_followed : (xs : List (List ℕ)) (k : Prog → Form) (j : Given → Form) (most : ℕ) → followed (conditions xs k most) j ≡ conditions xs (λ p. followed (k p) j) most
unfolding formula
conditions_followed xs k j most = refl

specification_followed : (most : ℕ) (xs : List (List ℕ)) (k : Prog → Form) (j : Given → Form) → followed (specification most xs k) j ≡ specification most xs (λ p. followed (k p) j)
unfolding specification
specification_followed most xs k j = inside_followed most (conditions xs k) (conditions xs (λ p. followed (k p) j)) j (conditions_followed xs k j)

named_followed : (most : ℕ) (xs : List (List ℕ)) (k : Prog → Form) (j : Given → Form) → followed (named most xs k) j ≡ named most xs (λ p. followed (k p) j)
unfolding named
named_followed most xs k j = λ i. either (codes ":=") (terms_followed most (λ ts. k (prog.Assign xs ts)) j i) (mark (codes ":") (specification_followed most xs k j i))

arguments_followed : (most : ℕ) (k : List Term → Form) (j : Given → Form) → followed (arguments most k) j ≡ arguments most (λ ts. followed (k ts) j)
unfolding arguments
arguments_followed most k j = λ i. either (codes ";") (followed (k []) j) (terms_followed most (λ ts. mark (codes ";") (k ts)) j i)

results_followed : (k : List (List ℕ) → Form) (j : Given → Form) → followed (results k) j ≡ results (λ xs. followed (k xs) j)
unfolding results
results_followed k j = λ i. either (codes ")") (followed (k []) j) (names_followed (λ xs. mark (codes ")") (k xs)) j i)

bracketed_followed : (k : List Term × List (List ℕ) → Form) (j : Given → Form) (most : ℕ) → followed (bracketed k most) j ≡ bracketed (λ a. followed (k a) j) most
bracketed_followed k j most = ap (mark (codes "(")) (arguments_followed most (λ ts. results (λ xs. k (ts, xs))) j ∙ (λ i. arguments most (λ ts. results_followed (λ xs. k (ts, xs)) j i)))

passed_followed : (most : ℕ) (k : List Term × List (List ℕ) → Form) (j : Given → Form) → followed (passed most k) j ≡ passed most (λ a. followed (k a) j)
unfolding passed
passed_followed most k j = inside_followed most (bracketed k) (bracketed (λ a. followed (k a) j)) j (bracketed_followed k j)

call_followed : (most : ℕ) (k : Prog → Form) (j : Given → Form) → followed (call most k) j ≡ call most (λ p. followed (k p) j)
unfolding call
call_followed most k j = λ i. takes any_name (λ p. passed_followed most (λ a. k (prog.Call p a.0 a.1)) j i)

operation_call_followed : (most : ℕ) (k : Prog → Form) (j : Given → Form) → followed (operation_call most k) j ≡ operation_call most (λ p. followed (k p) j)
unfolding operation_call
operation_call_followed most k j = λ i. takes any_name (λ m. mark (codes ".") (takes any_name (λ o. passed_followed most (λ a. k (prog.OpCall m o a.0 a.1)) j i)))

plain_followed : (most : ℕ) (k : Prog → Form) (j : Given → Form) → followed (plain most k) j ≡ plain most (λ p. followed (k p) j)
unfolding plain
plain_followed most k j = λ i. either (codes "skip") (followed (k prog.Skip) j) (either (codes "call") (call_followed most k j i) (either (codes "op") (operation_call_followed most k j i)
    (either (codes ":") (specification_followed most [] k j i) ((names_followed (λ xs. named most xs k) j ∙ (λ l. names (λ xs. named_followed most xs k j l))) i))))

pins_followed : (most : ℕ) (k : List Pin → Form) (j : Given → Form) → followed (pins most k) j ≡ pins most (λ ps. followed (k ps) j)
unfolding pins
pins_followed most k j = followed_twice (pin_form most) (λ g. more_of (pin_form most) (codes ",") (g ∷ []) (λ gs. k (map pin_in gs))) j

opening_followed : (most : ℕ) (k : Binding → Form) (j : Given → Form) → followed (opening most k) j ≡ opening most (λ o. followed (k o) j)
unfolding opening sort
opening_followed most k j = λ i. either (codes "var") (takes Rattle.rw_forms.specs.Forms.a_variable (λ x. mark (codes ":") (sort (λ s. followed (k (bindings.Local x s)) j))))
    (either (codes "con") (pins_followed most (λ ps. k (bindings.Constants ps)) j i) (mark (codes "module") (takes any_name (λ m. followed (k (bindings.Module m)) j))))

-- a part of a form is followed in one
abbrev IsFollowed : Programs → Type 0
IsFollowed inner = (k : Prog → Form) (j : Given → Form) → followed (inner k) j ≡ inner (λ p. followed (k p) j)

block_followed : (most : ℕ) (inner : Programs) → IsFollowed inner → IsFollowed (block most inner)
unfolding block
block_followed most inner h = λ k j. opening_followed most (λ o. mark (codes ".") (inner (λ p. mark (codes "]|") (k (block_of o p))))) j ∙ (λ i. opening most (λ o. mark (codes ".") (h (λ p. mark (codes "]|") (k (block_of o p))) j i)))

group_followed : (inner : Programs) → IsFollowed inner → IsFollowed (group inner)
unfolding group
group_followed inner h = λ k j. h (λ p. mark (codes ")") (k p)) j

arm_followed : (most : ℕ) (inner : Programs) → IsFollowed inner → (k : Arm → Form) (j : Given → Form) → followed (arm most inner k) j ≡ arm most inner (λ a. followed (k a) j)
unfolding arm formula
arm_followed most inner h k j = λ i. formula most (λ g. mark (codes "->") (h (λ p. k (record { guard = g; body = p })) j i))

pub arm_item : (most : ℕ) (inner : Programs) → IsFollowed inner → IsItem {A = Arm} (arm_form most inner) (arm most inner) an_arm
unfolding arm_form
arm_item most inner h = λ j. arm_followed most inner h (λ a. gives (an_arm a)) j

arms_followed : (most : ℕ) (inner : Programs) (k : List Arm → Form) (j : Given → Form) → followed (arms most inner k) j ≡ arms most inner (λ l. followed (k l) j)
unfolding arms
arms_followed most inner k j = followed_twice (arm_form most inner) (λ g. more_of (arm_form most inner) (codes "[]") (g ∷ []) (λ gs. k (map arm_in gs))) j

alternation_followed : (most : ℕ) (inner : Programs) → IsFollowed (alternation most inner)
unfolding alternation
alternation_followed most inner = λ k j. arms_followed most inner (λ l. mark (codes "fi") (k (prog.If l))) j

braced_followed : (k : Term → Form) (j : Given → Form) (m : ℕ) → followed (braced k m) j ≡ braced (λ v. followed (k v) j) m
unfolding term
braced_followed k j m = refl

variant_followed : (most : ℕ) (k : Term → Form) (j : Given → Form) → followed (variant most k) j ≡ variant most (λ v. followed (k v) j)
unfolding variant
variant_followed most k j = inside_followed most (braced k) (braced (λ v. followed (k v) j)) j (braced_followed k j)

iteration_followed : (most : ℕ) (inner : Programs) → IsFollowed (iteration most inner)
unfolding iteration
iteration_followed most inner = λ k j. variant_followed most (λ v. arms most inner (λ l. mark (codes "od") (k (prog.Do v l)))) j ∙ (λ i. variant most (λ v. arms_followed most inner (λ l. mark (codes "od") (k (prog.Do v l))) j i))

one_followed : (most : ℕ) (inner : Programs) → IsFollowed inner → IsFollowed (one most inner)
unfolding one
one_followed most inner h = λ k j i. either (codes "if") (alternation_followed most inner k j i) (either (codes "do") (iteration_followed most inner k j i) (either (codes "|[") (block_followed most inner h k j i)
    (either (codes "(") (group_followed inner h k j i) (plain_followed (suc most) k j i))))

pub program_followed : (most : ℕ) → IsFollowed (program most)
unfolding program
program_followed zero = λ k j. plain_followed 0 k j
program_followed (suc most) = λ k j. one_followed most (program most) (program_followed most) (λ p. either (codes ";") (program most (λ q. k (prog.Seq p q))) (k p)) j
    ∙ (λ i. one most (program most) (λ p. either (codes ";") (program_followed most (λ q. k (prog.Seq p q)) j i) (followed (k p) j)))
