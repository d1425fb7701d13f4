-- The forms of programs keep their choices apart.
use Rattle.std.proofs.Common.{◌≡◌, ℕ, zero, suc, Bool, true, false, cond, List, [], ◌∷◌, map, Option, Some, None, refl, sym, ap, ◌∙◌, true≢false}
use Rattle.std.specs.Prelude.{codes, is_some, ◌||◌}
use Rattle.std.proofs.lemmas.Bool.{false_from_ne_true}
use Rattle.rw_terms.specs.Names.{is_name, is_reserved, reserved}
use Rattle.rw_terms.specs.declared.term.Term.{Term}
use Rattle.rw_terms.specs.declared.term.Formula.{Formula}
use Rattle.rw_programs.specs.declared.prog.Arm.{Arm}
use Rattle.rw_programs.specs.declared.prog.Pin.{Pin}
use Rattle.rw_programs.specs.declared.prog.Prog.{Prog}
use Rattle.rw_programs.specs.declared.prog.Prog.TheVariants as prog
use Rattle.rw_tokens.specs.Tokens.{Token, text}
use Rattle.rw_tokens.specs.Classes.{mark_texts, text_class, class_of, name_class}
use Rattle.rw_forms.specs.Forms.{is_text, is_variable, Given, a_program, an_arm, a_pin, Form, gives, either, more_of}
use Rattle.rw_forms.specs.Phrases.{mark, formula, term, term_form, names, name_form, terms}
use Rattle.rw_forms.specs.Reading.{ends_value}
use Rattle.rw_forms.proofs.Grammar.{text_is, starts, Keeps, keeps_followed}
use Rattle.rw_forms.proofs.Texts.{nothing}
use Rattle.rw_forms.proofs.Keeping.{mark_ends, comma_ends, square_ends, semicolon_ends, bracket_ends, sort_keeps, formula_keeps, term_keeps, names_keep, terms_keep, values_keep}
use Rattle.rw_program_reader.specs.declared.opening.Binding.{Binding}
use Rattle.rw_program_reader.specs.declared.opening.Binding.TheVariants as bindings
use Rattle.rw_program_reader.specs.Programs.{inside, conditions, specification, named, arguments, results, bracketed, passed, call, operation_call, plain, pin, pin_form, pin_in, pins, opening, block_of, Programs, block, group, arm, arm_form, arm_in, arms, alternation, braced, variant, iteration, one, program, program_form}

-- what may follow a program inside another one
abbrev pub ends_program : Token → Bool
ends_program t = is_text (codes "fi") t || (is_text (codes "od") t || (is_text (codes "[]") t || (is_text (codes "]|") t || is_text (codes ")") t)))

-- what may follow a part of a program
abbrev pub ends_part : Token → Bool
ends_part t = is_text (codes ";") t || ends_program t

-- a program's end ends a value

ends_if : (w : List ℕ) (t : Token) (rest : Bool) → ends_value (text w) ≡ true → (rest ≡ true → ends_value t ≡ true) → (b : Bool) → is_text w t ≡ b → (b || rest) ≡ true → ends_value t ≡ true
ends_if w t rest m h true z e = ap ends_value (text_is w t z) ∙ m
ends_if w t rest m h false z e = h e

fi_ends : ends_value (text (codes "fi")) ≡ true
unfolding mark_texts text_class class_of is_name is_reserved reserved name_class
fi_ends = refl

od_ends : ends_value (text (codes "od")) ≡ true
unfolding mark_texts text_class class_of is_name is_reserved reserved name_class
od_ends = refl

box_ends : ends_value (text (codes "[]")) ≡ true
unfolding mark_texts text_class class_of is_name is_reserved reserved name_class
box_ends = refl

block_ends : ends_value (text (codes "]|")) ≡ true
unfolding mark_texts text_class class_of is_name is_reserved reserved name_class
block_ends = refl

arrow_ends : ends_value (text (codes "->")) ≡ true
unfolding mark_texts text_class class_of is_name is_reserved reserved name_class
arrow_ends = refl

brace_ends : ends_value (text (codes "}")) ≡ true
unfolding mark_texts text_class class_of is_name is_reserved reserved name_class
brace_ends = refl

dot_ends : ends_value (text (codes ".")) ≡ true
unfolding mark_texts text_class class_of
dot_ends = refl

pub program_ends : (t : Token) → ends_program t ≡ true → ends_value t ≡ true
program_ends t e =
    ends_if (codes "fi") t (is_text (codes "od") t || (is_text (codes "[]") t || (is_text (codes "]|") t || is_text (codes ")") t))) fi_ends
    (ends_if (codes "od") t (is_text (codes "[]") t || (is_text (codes "]|") t || is_text (codes ")") t)) od_ends
    (ends_if (codes "[]") t (is_text (codes "]|") t || is_text (codes ")") t) box_ends
    (ends_if (codes "]|") t (is_text (codes ")") t) block_ends (λ z. ap ends_value (text_is (codes ")") t z) ∙ bracket_ends) (is_text (codes "]|") t) refl) (is_text (codes "[]") t) refl) (is_text (codes "od") t) refl) (is_text (codes "fi") t) refl e

pub part_ends : (t : Token) → ends_part t ≡ true → ends_value t ≡ true
part_ends t e = ends_if (codes ";") t (ends_program t) semicolon_ends (program_ends t) (is_text (codes ";") t) refl e

-- what follows a part of a form ends a part of a program
abbrev Ends : {A : Type 0} → (Token → Bool) → (Token → Bool) → (A → Form) → Type 0
Ends {A = A} G F k = (x : A) (t : Token) → starts (k x) F t ≡ true → G t ≡ true

-- where a token is none of them, nothing follows with it
never : (G F : Token → Bool) (f : Form) (t : Token) → ((u : Token) → starts f F u ≡ true → G u ≡ true) → G t ≡ false → starts f F t ≡ false
never G F f t h n = false_from_ne_true (starts f F t) (λ e. true≢false (sym (h t e) ∙ n))

-- brackets

inside_keeps : (Q : Given → Type 0) (F : Token → Bool) (most : ℕ) (f : ℕ → Form) → ((m : ℕ) → Rattle.rw_forms.specs.Reading.given (f m) ≡ None) → ((m : ℕ) → Keeps Q F (f m)) → Keeps Q F (inside most f)
inside_keeps Q F zero f n h = (n 0, h 0)
inside_keeps Q F (suc most) f n h = h most

-- specifications

second_keeps : (Q : Given → Type 0) (F : Token → Bool) (most : ℕ) (xs : List (List ℕ)) (f : Formula) (k : Prog → Form) → ((p : Prog) → Keeps Q F (k p)) → Keeps Q F (formula most (λ g. mark (codes "]") (k (prog.Spec (record { frame = xs; pre = f; post = g })))))
second_keeps Q F most xs f k h = formula_keeps Q F most (λ g. mark (codes "]") (k (prog.Spec (record { frame = xs; pre = f; post = g })))) (λ g t. mark_ends F (codes "]") (k (prog.Spec (record { frame = xs; pre = f; post = g }))) t square_ends) (λ g. (refl, λ z. h (prog.Spec (record { frame = xs; pre = f; post = g }))))

conditions_keep : (Q : Given → Type 0) (F : Token → Bool) (xs : List (List ℕ)) (k : Prog → Form) → ((p : Prog) → Keeps Q F (k p)) → (most : ℕ) → Keeps Q F (conditions xs k most)
conditions_keep Q F xs k h most = (
  refl,
  λ x. formula_keeps Q F most (λ f. mark (codes ",") (formula most (λ g. mark (codes "]") (k (prog.Spec (record { frame = xs; pre = f; post = g }))))))
      (λ f t. mark_ends F (codes ",") (formula most (λ g. mark (codes "]") (k (prog.Spec (record { frame = xs; pre = f; post = g }))))) t comma_ends) (λ f. (refl, λ y. second_keeps Q F most xs f k h)),
)

specification_keeps : (Q : Given → Type 0) (F : Token → Bool) (most : ℕ) (xs : List (List ℕ)) (k : Prog → Form) → ((p : Prog) → Keeps Q F (k p)) → Keeps Q F (specification most xs k)
unfolding specification
specification_keeps Q F most xs k h = inside_keeps Q F most (conditions xs k) (λ m. refl) (conditions_keep Q F xs k h)

-- assignments

named_keeps : (Q : Given → Type 0) (F : Token → Bool) (most : ℕ) (xs : List (List ℕ)) (k : Prog → Form) → Ends ends_part F k → ((p : Prog) → Keeps Q F (k p)) → Keeps Q F (named most xs k)
unfolding named
named_keeps Q F most xs k e h = (
  refl,
  terms_keep Q F most (λ ts. k (prog.Assign xs ts)) (λ ts t s. part_ends t (e (prog.Assign xs ts) t s)) (λ ts. never ends_part F (k (prog.Assign xs ts)) (text (codes ",")) (e (prog.Assign xs ts)) refl) (λ ts. h (prog.Assign xs ts)),
  (refl, λ x. specification_keeps Q F most xs k h),
)

-- calls

arguments_keep : (Q : Given → Type 0) (F : Token → Bool) (most : ℕ) (k : List Term → Form) → ((ts : List Term) → Keeps Q F (k ts)) → Keeps Q F (arguments most k)
unfolding arguments terms term_form term mark_texts text_class class_of is_name is_reserved reserved name_class
arguments_keep Q F most k h = (refl, h [], terms_keep Q F most (λ ts. mark (codes ";") (k ts)) (λ ts t. mark_ends F (codes ";") (k ts) t semicolon_ends) (λ ts. refl) (λ ts. (refl, λ x. h ts)))

results_keep : (Q : Given → Type 0) (F : Token → Bool) (k : List (List ℕ) → Form) → ((xs : List (List ℕ)) → Keeps Q F (k xs)) → Keeps Q F (results k)
unfolding results names name_form is_variable is_name is_reserved reserved
results_keep Q F k h = (refl, h [], names_keep Q F (λ xs. mark (codes ")") (k xs)) (λ xs. refl) (λ xs. (refl, λ x. h xs)))

pub passed_keeps : (Q : Given → Type 0) (F : Token → Bool) (most : ℕ) (k : List Term × List (List ℕ) → Form) → ((a : List Term × List (List ℕ)) → Keeps Q F (k a)) → Keeps Q F (passed most k)
unfolding passed
passed_keeps Q F most k h = inside_keeps Q F most (bracketed k) (λ m. refl) (λ m. (refl, λ x. arguments_keep Q F m (λ ts. results (λ xs. k (ts, xs))) (λ ts. results_keep Q F (λ xs. k (ts, xs)) (λ xs. h (ts, xs)))))

call_keeps : (Q : Given → Type 0) (F : Token → Bool) (most : ℕ) (k : Prog → Form) → ((p : Prog) → Keeps Q F (k p)) → Keeps Q F (call most k)
unfolding call
call_keeps Q F most k h = (refl, λ p. passed_keeps Q F most (λ a. k (prog.Call p a.0 a.1)) (λ a. h (prog.Call p a.0 a.1)))

operation_call_keeps : (Q : Given → Type 0) (F : Token → Bool) (most : ℕ) (k : Prog → Form) → ((p : Prog) → Keeps Q F (k p)) → Keeps Q F (operation_call most k)
unfolding operation_call
operation_call_keeps Q F most k h = (refl, λ m. (refl, λ x. (refl, λ o. passed_keeps Q F most (λ a. k (prog.OpCall m o a.0 a.1)) (λ a. h (prog.OpCall m o a.0 a.1)))))

named_apart : (F : Token → Bool) (most : ℕ) (xs : List (List ℕ)) (k : Prog → Form) → starts (named most xs k) F (text (codes ",")) ≡ false
unfolding named
named_apart F most xs k = refl

plain_keeps : (Q : Given → Type 0) (F : Token → Bool) (most : ℕ) (k : Prog → Form) → Ends ends_part F k → ((p : Prog) → Keeps Q F (k p)) → Keeps Q F (plain most k)
unfolding plain names name_form is_variable is_name is_reserved reserved
plain_keeps Q F most k e h = (
  refl,
  h prog.Skip,
  (
    refl,
    call_keeps Q F most k h,
    (
      refl,
      operation_call_keeps Q F most k h,
      (refl, specification_keeps Q F most [] k h, names_keep Q F (λ xs. named most xs k) (λ xs. named_apart F most xs k) (λ xs. named_keeps Q F most xs k e h)),
    ),
  ),
)

-- blocks

pin_item_keeps : (most : ℕ) → Keeps (λ g. Unit {0}) ends_value (pin_form most)
unfolding pin_form pin
pin_item_keeps most = (refl, λ x. (refl, λ y. term_keeps (λ g. Unit {0}) ends_value most (λ t. gives (a_pin (record { name = x; term = t }))) (λ t u s. s) (λ t. tt)))

pins_keep : (Q : Given → Type 0) (F : Token → Bool) (most : ℕ) (k : List Pin → Form) → Ends ends_value F k → ((ps : List Pin) → starts (k ps) F (text (codes ",")) ≡ false) → ((ps : List Pin) → Keeps Q F (k ps)) → Keeps Q F (pins most k)
unfolding pins
pins_keep Q F most k d e h = values_keep Q F (pin_form most) (codes ",") (λ gs. k (map pin_in gs)) comma_ends (λ gs t. d (map pin_in gs) t) (λ gs. e (map pin_in gs)) (λ gs. h (map pin_in gs)) (pin_item_keeps most)

opening_keeps : (Q : Given → Type 0) (F : Token → Bool) (most : ℕ) (k : Binding → Form) → Ends ends_value F k → ((o : Binding) → starts (k o) F (text (codes ",")) ≡ false) → ((o : Binding) → Keeps Q F (k o)) → Keeps Q F (opening most k)
unfolding opening
opening_keeps Q F most k d e h = (
  refl,
  (refl, λ x. (refl, λ y. sort_keeps Q F (λ s. k (bindings.Local x s)) (λ s. h (bindings.Local x s)))),
  (refl, pins_keep Q F most (λ ps. k (bindings.Constants ps)) (λ ps. d (bindings.Constants ps)) (λ ps. e (bindings.Constants ps)) (λ ps. h (bindings.Constants ps)), (refl, λ x. (refl, λ m. h (bindings.Module m)))),
)

-- A part of a form that is a program keeps its choices apart where each token that follows it ends a program.
abbrev Kept : (Token → Bool) → Programs → Type 1
Kept G inner = (Q : Given → Type 0) (F : Token → Bool) (k : Prog → Form) → Ends G F k → ((p : Prog) → Keeps Q F (k p)) → Keeps Q F (inner k)

-- what a word's slot says
abbrev there : Option (Unit {0})
there = Some tt

marked_program : (w : List ℕ) (F : Token → Bool) (f : Form) (t : Token) → ends_program (text w) ≡ true → (b : Bool) → is_text w t ≡ b → is_some (cond b there None) ≡ true → ends_program t ≡ true
marked_program w F f t e true z s = ap ends_program (text_is w t z) ∙ e
marked_program w F f t e false z s = absurd (true≢false (sym s))

block_keeps : (Q : Given → Type 0) (F : Token → Bool) (most : ℕ) (inner : Programs) (k : Prog → Form) → Kept ends_program inner → ((p : Prog) → Keeps Q F (k p)) → Keeps Q F (block most inner k)
unfolding block
block_keeps Q F most inner k i h =
    opening_keeps Q F most (λ o. mark (codes ".") (inner (λ p. mark (codes "]|") (k (block_of o p))))) (λ o t. mark_ends F (codes ".") (inner (λ p. mark (codes "]|") (k (block_of o p)))) t dot_ends) (λ o. refl)
    (λ o. (refl, λ x. i Q F (λ p. mark (codes "]|") (k (block_of o p))) (λ p t. marked_program (codes "]|") F (k (block_of o p)) t refl (is_text (codes "]|") t) refl) (λ p. (refl, λ y. h (block_of o p)))))

group_keeps : (Q : Given → Type 0) (F : Token → Bool) (inner : Programs) (k : Prog → Form) → Kept ends_program inner → ((p : Prog) → Keeps Q F (k p)) → Keeps Q F (group inner k)
unfolding group
group_keeps Q F inner k i h = i Q F (λ p. mark (codes ")") (k p)) (λ p t. marked_program (codes ")") F (k p) t refl (is_text (codes ")") t) refl) (λ p. (refl, λ y. h p))

-- arms

pub arm_keeps : (Q : Given → Type 0) (F : Token → Bool) (most : ℕ) (inner : Programs) (k : Arm → Form) → Kept ends_program inner → Ends ends_program F k → ((a : Arm) → Keeps Q F (k a)) → Keeps Q F (arm most inner k)
unfolding arm
arm_keeps Q F most inner k i e h =
    formula_keeps Q F most (λ g. mark (codes "->") (inner (λ p. k (record { guard = g; body = p })))) (λ g t. mark_ends F (codes "->") (inner (λ p. k (record { guard = g; body = p }))) t arrow_ends)
    (λ g. (refl, λ x. i Q F (λ p. k (record { guard = g; body = p })) (λ p. e (record { guard = g; body = p })) (λ p. h (record { guard = g; body = p }))))

arm_item_keeps : (most : ℕ) (inner : Programs) → Kept ends_program inner → Keeps (λ g. Unit {0}) ends_program (arm_form most inner)
unfolding arm_form
arm_item_keeps most inner i = arm_keeps (λ g. Unit {0}) ends_program most inner (λ a. gives (an_arm a)) i (λ a t s. s) (λ a. tt)

separated : (F : Token → Bool) (f : Form) (t : Token) → ((u : Token) → starts f F u ≡ true → ends_program u ≡ true) → (b : Bool) → is_text (codes "[]") t ≡ b → (b || starts f F t) ≡ true → ends_program t ≡ true
separated F f t h true z e = ap ends_program (text_is (codes "[]") t z)
separated F f t h false z e = h t e

-- what follows the arms ends a program, and is no separator
arms_keep : (Q : Given → Type 0) (F : Token → Bool) (most : ℕ) (inner : Programs) (k : List Arm → Form) → Kept ends_program inner → Ends ends_program F k → ((l : List Arm) → starts (k l) F (text (codes "[]")) ≡ false) → ((l : List Arm) → Keeps Q F (k l)) → Keeps Q F (arms most inner k)
unfolding arms
arms_keep Q F most inner k i e n h =
    keeps_followed (arm_form most inner) (λ g. more_of (arm_form most inner) (codes "[]") (g ∷ []) (λ gs. k (map arm_in gs))) (λ g. Unit {0}) Q ends_program F
    (λ g t s. separated F (k (map arm_in (g ∷ []))) t (e (map arm_in (g ∷ []))) (is_text (codes "[]") t) refl s)
    (λ g. (ends_program, refl, (λ gs t. e (map arm_in gs) t), (λ gs. n (map arm_in gs)), arm_item_keeps most inner i, (λ gs. h (map arm_in gs)))) (arm_item_keeps most inner i)

alternation_keeps : (Q : Given → Type 0) (F : Token → Bool) (most : ℕ) (inner : Programs) (k : Prog → Form) → Kept ends_program inner → ((p : Prog) → Keeps Q F (k p)) → Keeps Q F (alternation most inner k)
unfolding alternation
alternation_keeps Q F most inner k i h = arms_keep Q F most inner (λ l. mark (codes "fi") (k (prog.If l))) i (λ l t. marked_program (codes "fi") F (k (prog.If l)) t refl (is_text (codes "fi") t) refl) (λ l. refl) (λ l. (refl, λ x. h (prog.If l)))

-- what follows a variant begins with a formula
variant_keeps : (Q : Given → Type 0) (F : Token → Bool) (most : ℕ) (k : Term → Form) → ((v : Term) → Keeps Q F (k v)) → Keeps Q F (variant most k)
unfolding variant
variant_keeps Q F most k h = inside_keeps Q F most (braced k) (λ m. refl) (λ m. (refl, λ x. term_keeps Q F m (λ v. mark (codes "}") (k v)) (λ v t. mark_ends F (codes "}") (k v) t brace_ends) (λ v. (refl, λ y. h v))))

iteration_keeps : (Q : Given → Type 0) (F : Token → Bool) (most : ℕ) (inner : Programs) (k : Prog → Form) → Kept ends_program inner → ((p : Prog) → Keeps Q F (k p)) → Keeps Q F (iteration most inner k)
unfolding iteration
iteration_keeps Q F most inner k i h =
    variant_keeps Q F most (λ v. arms most inner (λ l. mark (codes "od") (k (prog.Do v l))))
    (λ v. arms_keep Q F most inner (λ l. mark (codes "od") (k (prog.Do v l))) i (λ l t. marked_program (codes "od") F (k (prog.Do v l)) t refl (is_text (codes "od") t) refl) (λ l. refl) (λ l. (refl, λ x. h (prog.Do v l))))

-- programs

one_keeps : (Q : Given → Type 0) (F : Token → Bool) (most : ℕ) (inner : Programs) (k : Prog → Form) → Kept ends_program inner → Ends ends_part F k → ((p : Prog) → Keeps Q F (k p)) → Keeps Q F (one most inner k)
unfolding one plain names name_form is_variable is_name is_reserved reserved
one_keeps Q F most inner k i e h = (
  refl,
  alternation_keeps Q F most inner k i h,
  (refl, iteration_keeps Q F most inner k i h, (refl, block_keeps Q F most inner k i h, (refl, group_keeps Q F inner k i h, plain_keeps Q F (suc most) k e h))),
)

-- a semicolon, or what ends a program
either_ends : (F : Token → Bool) (f : Form) (t : Token) → ((u : Token) → starts f F u ≡ true → ends_program u ≡ true) → (b : Bool) → (b || starts f F t) ≡ true → (b || ends_program t) ≡ true
either_ends F f t h true e = refl
either_ends F f t h false e = h t e

-- what ends a program ends a part
program_part : (t : Token) (b : Bool) → ends_program t ≡ true → (b || ends_program t) ≡ true
program_part t true e = refl
program_part t false e = e

pub program_keeps : (most : ℕ) → Kept ends_program (program most)
unfolding program
program_keeps zero = λ Q F k e h. plain_keeps Q F 0 k (λ p t s. program_part t (is_text (codes ";") t) (e p t s)) h
program_keeps (suc most) = λ Q F k e h.
    one_keeps Q F most (program most) (λ p. either (codes ";") (program most (λ q. k (prog.Seq p q))) (k p)) (program_keeps most) (λ p t s. either_ends F (k p) t (e p) (is_text (codes ";") t) s)
    (λ p. (never ends_program F (k p) (text (codes ";")) (e p) refl, program_keeps most Q F (λ q. k (prog.Seq p q)) (λ q. e (prog.Seq p q)) (λ q. h (prog.Seq p q)), h p))

abbrev pub IsProgram : Given → Type 0
IsProgram v = (p : Prog) × (v ≡ a_program p)

pub program_form_keeps : Keeps IsProgram nothing program_form
unfolding program_form
program_form_keeps = program_keeps 512 IsProgram nothing (λ p. gives (a_program p)) (λ p t s. absurd (true≢false (sym s))) (λ p. (p, refl))
