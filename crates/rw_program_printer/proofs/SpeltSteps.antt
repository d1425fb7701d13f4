-- What is printed of a step spells it.
use Rattle.std.proofs.Common.{◌≡◌, ℕ, ◌≤◌, true, false, List, [], ◌∷◌, ◌++◌, length, refl, sym, subst, arith, map, append_assoc, append-nil, true≢false, inl, inr}
use Rattle.std.specs.Prelude.{not, ◌&&◌, codes}
use Rattle.std.specs.List.{list_all}
use Rattle.std.proofs.lemmas.Bool.{and_parts}
use Rattle.rw_terms.specs.Names.{is_letter, goes_on, is_name}
use Rattle.rw_terms.specs.declared.term.Sort.{Sort}
use Rattle.rw_terms.specs.declared.term.Term.{Term}
use Rattle.rw_terms.specs.declared.term.Formula.{Formula}
use Rattle.rw_syntax.specs.Grammar.{nests, is_upper, is_sort}
use Rattle.rw_syntax.specs.Spelling.{AreWithin}
use Rattle.rw_laws.specs.declared.step.BasicStep.{BasicStep}
use Rattle.rw_laws.specs.declared.step.BasicStep.TheVariants as basic
use Rattle.rw_loops.specs.declared.step.LoopStep.{LoopStep}
use Rattle.rw_loops.specs.declared.step.LoopStep.TheVariants as loops
use Rattle.rw_nodes.specs.declared.edit.Step.{Step}
use Rattle.rw_nodes.specs.declared.edit.Step.TheVariants as steps
use Rattle.rw_tokens.specs.Tokens.{Token, text, skip, token_at, LeadsTo}
use Rattle.rw_forms.specs.Forms.{a_variable, a_constant, a_formula, Given, Form, gives, takes, many, fewer, IsOf}
use Rattle.rw_forms.specs.Phrases.{mark, sort, formula, formula_form, formula_in, formulas, term, terms, names, constants}
use Rattle.rw_reader.specs.Steps.{assignment, iteration, block, loop_step, constants_and_formula, pinned, constant_step, named_step, step}
use Rattle.rw_printer.specs.Trees.{term_tree, formula_tree}
use Rattle.rw_printer.specs.Layout.{printed_term, printed_formula, sort_text, listed, names_text}
use Rattle.rw_printer.specs.Lines.{terms_text}
use Rattle.rw_printer.specs.Readable.{readable_term, readable_terms, readable_formula, named_term, named_terms, named_formula}
use Rattle.rw_printer.specs.ReadsBack.{StaysWithin, TermsStayWithin}
use Rattle.rw_printer.proofs.Lexed.{starts_with, skip_start, name_starts}
use Rattle.rw_printer.proofs.Fronts.{ends, ends_stops}
use Rattle.rw_printer.proofs.Spelling.{Spelt, spelt_from, spelt_to, spelt_as, chain, mapped, marked, worded, word_alone, item, Item, AllGood, Laid, list_spelt, unwrapped}
use Rattle.rw_printer.proofs.SpeltParts.{variable_spelt, GoodTerm, term_starts, term_spelt, formula_starts}
use Rattle.rw_program_printer.specs.Layout.{assignment_text, local_text}
use Rattle.rw_program_printer.specs.Readable.{readable_names, some_of, named_names}
use Rattle.rw_program_printer.specs.Steps.{basic_text, guards_text, loop_text}
use Rattle.rw_program_printer.specs.StepsReadBack.{readable_constants, readable_formulas, readable_basic, readable_loop, named_formulas, named_basic, named_loop, FormulasStayWithin, BasicStaysWithin, LoopStaysWithin, StepSpells, BasicReadsBack, LoopReadsBack}
use Rattle.rw_program_printer.proofs.Tokens.{IsBare, bare, keyword, semicolon, becomes, bar, colon, equals}
use Rattle.rw_program_printer.proofs.SpeltParts.{formula_spelt, good_terms, terms_ok, good_names, names_ok, good_constants, constants_ok, constant_spelt}
use Rattle.rw_program_printer.proofs.SpeltBlocks.{sort_spelt}
use Rattle.rw_program_printer.proofs.Spelt.{skip_here, skip_end}

-- this text spells a part of a form, whatever ends it
abbrev pub Shown : {A : Type 0} → ((A → Form) → Form) → A → List ℕ → Type 0
Shown part x written = (r : List ℕ) → ends r ≡ true → IsBare (written ++ r) × Spelt part x (written ++ r) (skip r)

-- a word and a space before a part
abbrev pub Opens : {A B : Type 0} → ((A → Form) → Form) → ((B → Form) → Form) → (A → B) → List ℕ → Type 0
Opens {A = A} {B = B} part whole make w = (k : B → Form) (n : ℕ) (rest : List Token) (v : Given) → IsOf (part (λ z. k (make z))) (fewer n) rest v → IsOf (whole k) n (text w ∷ rest) v

pub behind_word : {A B : Type 0} (part : (A → Form) → Form) (whole : (B → Form) → Form) (make : A → B) (x : A) (b : ℕ) (bs written : List ℕ) → is_letter b ≡ true → Rattle.rw_tokens.specs.Tokens.is_blank b ≡ false → list_all goes_on bs ≡ true → Opens part whole make (b ∷ bs) → Shown part x written → Shown whole (make x) (b ∷ (bs ++ (32 ∷ written)))
behind_word part whole make x b bs written l n g o s = λ r e.
    let y = s r e in
    let z : (b ∷ (bs ++ (32 ∷ written))) ++ r ≡ (b ∷ bs) ++ 32 ∷ (written ++ r) = simp append_assoc in (
      bare b _ n,
      spelt_from z (worded part whole make (b ∷ bs) x (keyword b bs (written ++ r) l g y.0) o y.1),
    )

-- parts

formula_shown : (most : ℕ) (f : Formula) → most ≤ 512 → readable_formula f 0 ≡ true → named_formula f ≡ true → AreWithin most (nests 0 (formula_tree f 0)) → Shown (formula most) f (printed_formula f)
formula_shown most f h p n w = λ r e. (skip_start _ (starts_with (printed_formula f) r (formula_starts f p n)), formula_spelt most f r h p n w e)

grouped_assignment : (x t r : List ℕ) → (x ++ codes " := " ++ t) ++ r ≡ x ++ (32 ∷ 58 ∷ 61 ∷ 32 ∷ (t ++ r))
grouped_assignment x t r = simp append_assoc

assignment_shown : (xs : List (List ℕ)) (ts : List Term) → ((some_of xs && readable_names xs) && (some_of ts && readable_terms ts)) ≡ true → (named_names xs && named_terms ts) ≡ true → TermsStayWithin 512 ts → Shown assignment (xs, ts) (assignment_text xs ts)
unfolding assignment
assignment_shown xs ts p n w = λ r e.
    let q = and_parts (some_of xs && readable_names xs) (some_of ts && readable_terms ts) p in
    let a = and_parts (some_of xs) (readable_names xs) q.0 in
    let b = and_parts (some_of ts) (readable_terms ts) q.1 in
    let m = and_parts (named_names xs) (named_terms ts) n in
    let t = terms_ok 512 ts r (omega arith) b.0 (good_terms 512 ts b.1 m.1 w) e in
    let y = terms_text ts ++ r in
    let x = names_ok xs (32 ∷ 58 ∷ 61 ∷ 32 ∷ y) a.0 (good_names xs a.1 m.0) refl in
    let z = grouped_assignment (names_text xs) (terms_text ts) r in (
      subst IsBare (sym z) x.0,
      spelt_from z (chain names (λ ys k. mark (codes ":=") (terms 512 (λ us. k (ys, us)))) xs (xs, ts) x.1
          (marked (codes ":=") (λ k. terms 512 (λ us. k (xs, us))) (xs, ts) (becomes y t.0) (mapped (terms 512) (λ us. (xs, us)) ts t.1))),
    )

names_shown : (xs : List (List ℕ)) → (some_of xs && readable_names xs) ≡ true → named_names xs ≡ true → Shown names xs (names_text xs)
names_shown xs p n = λ r e. let q = and_parts (some_of xs) (readable_names xs) p in names_ok xs r q.0 (good_names xs q.1 n) (ends_stops r e)

grouped_constants : (x f r : List ℕ) → (x ++ codes " : " ++ f) ++ r ≡ x ++ (32 ∷ 58 ∷ 32 ∷ (f ++ r))
grouped_constants x f r = simp append_assoc

constants_shown : (xs : List (List ℕ)) (f : Formula) → ((some_of xs && readable_constants xs) && readable_formula f 0) ≡ true → (named_names xs && named_formula f) ≡ true → StaysWithin (nests 0 (formula_tree f 0)) → Shown constants_and_formula (basic.SeqCon xs f) (names_text xs ++ codes " : " ++ printed_formula f)
unfolding constants_and_formula
constants_shown xs f p n w = λ r e.
    let q = and_parts (some_of xs && readable_constants xs) (readable_formula f 0) p in
    let a = and_parts (some_of xs) (readable_constants xs) q.0 in
    let m = and_parts (named_names xs) (named_formula f) n in
    let t = formula_shown 512 f (omega arith) q.1 m.1 w r e in
    let y = printed_formula f ++ r in
    let x = constants_ok xs (32 ∷ 58 ∷ 32 ∷ y) a.0 (good_constants xs a.1 m.0) refl in
    let z = grouped_constants (names_text xs) (printed_formula f) r in (
      subst IsBare (sym z) x.0,
      spelt_from z (chain constants (λ ys k. mark (codes ":") (formula 512 (λ g. k (basic.SeqCon ys g)))) xs (basic.SeqCon xs f) x.1
          (marked (codes ":") (λ k. formula 512 (λ g. k (basic.SeqCon xs g))) (basic.SeqCon xs f) (colon y t.0) (mapped (formula 512) (basic.SeqCon xs) f t.1))),
    )

grouped_pinned : (x t r : List ℕ) → (x ++ codes " = " ++ t) ++ r ≡ x ++ (32 ∷ 61 ∷ 32 ∷ (t ++ r))
grouped_pinned x t r = simp append_assoc

pinned_shown : (x : List ℕ) (t : Term) → (is_upper x && readable_term t 0) ≡ true → (is_name x && named_term t) ≡ true → StaysWithin (nests 0 (term_tree t 0)) → Shown pinned (basic.Con x t) (x ++ codes " = " ++ printed_term t)
unfolding pinned
pinned_shown x t p n w = λ r e.
    let q = and_parts (is_upper x) (readable_term t 0) p in
    let m = and_parts (is_name x) (named_term t) n in
    let g : GoodTerm 512 t = record { readable = q.1; named = m.1; within = w } in
    let y = printed_term t ++ r in
    let z = grouped_pinned x (printed_term t) r in (
      subst IsBare (sym z) (skip_start _ (starts_with x _ (name_starts x m.0))),
      spelt_from z (chain (takes a_constant) (λ c k. mark (codes "=") (term 512 (λ u. k (basic.Con c u)))) x (basic.Con x t) (constant_spelt x (32 ∷ 61 ∷ 32 ∷ y) m.0 q.0 refl)
          (marked (codes "=") (λ k. term 512 (λ u. k (basic.Con x u))) (basic.Con x t) (equals y (skip_start y (starts_with (printed_term t) r (term_starts 512 t g)))) (mapped (term 512) (basic.Con x) t (term_spelt 512 t r (omega arith) g e)))),
    )

-- guards

record GoodGuard (f : Formula) : Type 0 where
  readable : readable_formula f 0 ≡ true
  named : named_formula f ≡ true
  within : AreWithin 511 (nests 0 (formula_tree f 0))

good_guards : (gs : List Formula) → readable_formulas gs ≡ true → named_formulas gs ≡ true → FormulasStayWithin 511 gs → AllGood GoodGuard gs
good_guards [] p n w = tt
good_guards (g ∷ gs) p n w =
    let q = and_parts (readable_formula g 0) (readable_formulas gs) p in
    let m = and_parts (named_formula g) (named_formulas gs) n in
    (record { readable = q.0; named = m.0; within = w.0 }, good_guards gs q.1 m.1 w.1)

guard_item : (f : Formula) → GoodGuard f → (r : List ℕ) → ends r ≡ true → Item (formula_form 511) (a_formula f) (printed_formula f ++ r) (skip r)
unfolding formula_form
guard_item f g r e = item (formula 511) a_formula f (formula_spelt 511 f r (omega arith) g.readable g.named g.within e)

guards_laid : Laid {A = Formula} (formula_form 511) (codes "|") (codes " | ") a_formula printed_formula GoodGuard
guards_laid = record { front = λ y s. bar y (skip_start y s); apart = λ y. refl; start = λ f g. formula_starts f g.readable g.named; one = guard_item }

guards_ok : (gs : List Formula) (r : List ℕ) → some_of gs ≡ true → AllGood GoodGuard gs → ends r ≡ true → IsBare (guards_text gs ++ r) × Spelt (formulas 511 (codes "|")) gs (guards_text gs ++ r) (skip r)
unfolding formulas
guards_ok [] r s g e = absurd (true≢false (sym s))
guards_ok (f ∷ fs) r s g e =
    let z = append_assoc (printed_formula f) (listed (codes " | ") (codes " | ") (map printed_formula fs)) r in (
      subst IsBare (sym z) (skip_start _ (starts_with (printed_formula f) _ (formula_starts f g.0.readable g.0.named))),
      spelt_from z (spelt_as (unwrapped a_formula formula_in (f ∷ fs) (λ y. refl))
          (mapped (λ k. many (formula_form 511) (codes "|") k) (map formula_in) (map a_formula (f ∷ fs)) (list_spelt (formula_form 511) (codes "|") (codes " | ") a_formula printed_formula GoodGuard guards_laid f fs g.0 g.1 r e))),
    )

guards_shown : (gs : List Formula) → (some_of gs && readable_formulas gs) ≡ true → named_formulas gs ≡ true → FormulasStayWithin 511 gs → Shown (formulas 511 (codes "|")) gs (guards_text gs)
guards_shown gs p n w = λ r e. let q = and_parts (some_of gs) (readable_formulas gs) p in guards_ok gs r q.0 (good_guards gs q.1 n w) e

grouped_iteration : (v g r : List ℕ) → (v ++ codes " ; " ++ g) ++ r ≡ v ++ (32 ∷ 59 ∷ 32 ∷ (g ++ r))
grouped_iteration v g r = simp append_assoc

iteration_shown : (v : Term) (gs : List Formula) → (readable_term v 0 && (some_of gs && readable_formulas gs)) ≡ true → (named_term v && named_formulas gs) ≡ true → AreWithin 511 (nests 0 (term_tree v 0)) → FormulasStayWithin 511 gs → Shown iteration (loops.Do v gs) (printed_term v ++ codes " ; " ++ guards_text gs)
unfolding iteration
iteration_shown v gs p n u w = λ r e.
    let q = and_parts (readable_term v 0) (some_of gs && readable_formulas gs) p in
    let m = and_parts (named_term v) (named_formulas gs) n in
    let g : GoodTerm 511 v = record { readable = q.0; named = m.0; within = u } in
    let t = guards_shown gs q.1 m.1 w r e in
    let y = guards_text gs ++ r in
    let z = grouped_iteration (printed_term v) (guards_text gs) r in (
      subst IsBare (sym z) (skip_start _ (starts_with (printed_term v) _ (term_starts 511 v g))),
      spelt_from z (chain (term 511) (λ x k. mark (codes ";") (formulas 511 (codes "|") (λ hs. k (loops.Do x hs)))) v (loops.Do v gs) (term_spelt 511 v (32 ∷ 59 ∷ 32 ∷ y) (omega arith) g refl)
          (marked (codes ";") (λ k. formulas 511 (codes "|") (λ hs. k (loops.Do v hs))) (loops.Do v gs) (semicolon y t.0) (mapped (formulas 511 (codes "|")) (loops.Do v) gs t.1))),
    )

block_shown : (x : List ℕ) (s : Sort) → (not (is_upper x) && is_sort s) ≡ true → is_name x ≡ true → Shown block (loops.Block x s) (local_text x s)
unfolding block
block_shown x s p n = λ r e.
    let q = and_parts (not (is_upper x)) (is_sort s) p in
    let t = sort_spelt s r q.1 e in
    let y = sort_text s ++ r in
    let z = grouped_constants x (sort_text s) r in (
      subst IsBare (sym z) (skip_start _ (starts_with x _ (name_starts x n))),
      spelt_from z (chain (takes a_variable) (λ v k. mark (codes ":") (sort (λ w. k (loops.Block v w)))) x (loops.Block x s) (variable_spelt x (32 ∷ 58 ∷ 32 ∷ y) n q.0 refl)
          (marked (codes ":") (λ k. sort (λ w. k (loops.Block x w))) (loops.Block x s) (colon y t.0) (mapped sort (loops.Block x) s t.1))),
    )

-- steps by basic laws

skip_shown : Shown step (steps.Basic basic.Skip) (codes "skip")
unfolding step
skip_shown = λ r e. (bare 115 (codes "kip" ++ r) refl, word_alone step (steps.Basic basic.Skip) (codes "skip") (skip_here r e) (λ k n rest v i. inl (rest, refl, i)))

weaken_shown : (f : Formula) → Shown (formula 512) f (printed_formula f) → Shown step (steps.Basic (basic.Weaken f)) (basic_text (basic.Weaken f))
unfolding step
weaken_shown f s = behind_word (formula 512) step (λ z. steps.Basic (basic.Weaken z)) f 119 (codes "eaken") (printed_formula f) refl refl refl (λ k n rest v i. inr (inl (rest, refl, i))) s

strengthen_shown : (f : Formula) → Shown (formula 512) f (printed_formula f) → Shown step (steps.Basic (basic.Strengthen f)) (basic_text (basic.Strengthen f))
unfolding step
strengthen_shown f s = behind_word (formula 512) step (λ z. steps.Basic (basic.Strengthen z)) f 115 (codes "trengthen") (printed_formula f) refl refl refl (λ k n rest v i. inr (inr (inl (rest, refl, i)))) s

seq_shown : (f : Formula) → Shown (formula 512) f (printed_formula f) → Shown step (steps.Basic (basic.Seq f)) (basic_text (basic.Seq f))
unfolding step
seq_shown f s = behind_word (formula 512) step (λ z. steps.Basic (basic.Seq z)) f 115 (codes "eq") (printed_formula f) refl refl refl (λ k n rest v i. inr (inr (inr (inl (rest, refl, i))))) s

-- a step of the table's second part is a step
named_is : (k : Step → Form) (n : ℕ) (ts : List Token) (v : Given) → IsOf (named_step k) n ts v → IsOf (step k) n ts v
unfolding step
named_is k n ts v i = inr (inr (inr (inr i)))

constant_is : (k : Step → Form) (n : ℕ) (ts : List Token) (v : Given) → IsOf (constant_step k) n ts v → IsOf (step k) n ts v
unfolding named_step
constant_is k n ts v i = named_is k n ts v (inr (inr (inr (inr i))))

loop_is : (k : Step → Form) (n : ℕ) (ts : List Token) (v : Given) → IsOf (loop_step (λ s. k (steps.Loop s))) n ts v → IsOf (step k) n ts v
unfolding constant_step
loop_is k n ts v i = constant_is k n ts v (inr (inr i))

assign_shown : (xs : List (List ℕ)) (ts : List Term) → Shown assignment (xs, ts) (assignment_text xs ts) → Shown step (steps.Basic (basic.Assign xs ts)) (basic_text (basic.Assign xs ts))
unfolding named_step
assign_shown xs ts s = behind_word assignment step (λ p. steps.Basic (basic.Assign p.0 p.1)) (xs, ts) 97 (codes "ssign") (assignment_text xs ts) refl refl refl (λ k n rest v i. named_is k n (text (codes "assign") ∷ rest) v (inl (rest, refl, i))) s

follow_shown : (xs : List (List ℕ)) (ts : List Term) → Shown assignment (xs, ts) (assignment_text xs ts) → Shown step (steps.Basic (basic.Follow xs ts)) (basic_text (basic.Follow xs ts))
unfolding named_step
follow_shown xs ts s = behind_word assignment step (λ p. steps.Basic (basic.Follow p.0 p.1)) (xs, ts) 102 (codes "ollow") (assignment_text xs ts) refl refl refl (λ k n rest v i. named_is k n (text (codes "follow") ∷ rest) v (inr (inl (rest, refl, i)))) s

contract_shown : (xs : List (List ℕ)) → Shown names xs (names_text xs) → Shown step (steps.Basic (basic.Contract xs)) (basic_text (basic.Contract xs))
unfolding named_step
contract_shown xs s = behind_word names step (λ ys. steps.Basic (basic.Contract ys)) xs 99 (codes "ontract") (names_text xs) refl refl refl (λ k n rest v i. named_is k n (text (codes "contract") ∷ rest) v (inr (inr (inl (rest, refl, i))))) s

expand_shown : (xs : List (List ℕ)) → Shown names xs (names_text xs) → Shown step (steps.Basic (basic.Expand xs)) (basic_text (basic.Expand xs))
unfolding named_step
expand_shown xs s = behind_word names step (λ ys. steps.Basic (basic.Expand ys)) xs 101 (codes "xpand") (names_text xs) refl refl refl (λ k n rest v i. named_is k n (text (codes "expand") ∷ rest) v (inr (inr (inr (inl (rest, refl, i)))))) s

seqcon_shown : (xs : List (List ℕ)) (f : Formula) → Shown constants_and_formula (basic.SeqCon xs f) (names_text xs ++ codes " : " ++ printed_formula f) → Shown step (steps.Basic (basic.SeqCon xs f)) (basic_text (basic.SeqCon xs f))
unfolding constant_step
seqcon_shown xs f s = behind_word constants_and_formula step steps.Basic (basic.SeqCon xs f) 115 (codes "eqcon") (names_text xs ++ codes " : " ++ printed_formula f) refl refl refl (λ k n rest v i. constant_is k n (text (codes "seqcon") ∷ rest) v (inl (rest, refl, i))) s

con_shown : (x : List ℕ) (t : Term) → Shown pinned (basic.Con x t) (x ++ codes " = " ++ printed_term t) → Shown step (steps.Basic (basic.Con x t)) (basic_text (basic.Con x t))
unfolding constant_step
con_shown x t s = behind_word pinned step steps.Basic (basic.Con x t) 99 (codes "on") (x ++ codes " = " ++ printed_term t) refl refl refl (λ k n rest v i. constant_is k n (text (codes "con") ∷ rest) v (inr (inl (rest, refl, i)))) s

basic_shown : (s : BasicStep) → readable_basic s ≡ true → named_basic s ≡ true → BasicStaysWithin s → Shown step (steps.Basic s) (basic_text s)
basic_shown basic.Skip p n w = skip_shown
basic_shown (basic.Weaken f) p n w = weaken_shown f (formula_shown 512 f (omega arith) p n w)
basic_shown (basic.Strengthen f) p n w = strengthen_shown f (formula_shown 512 f (omega arith) p n w)
basic_shown (basic.Assign xs ts) p n w = assign_shown xs ts (assignment_shown xs ts p n w)
basic_shown (basic.Follow xs ts) p n w = follow_shown xs ts (assignment_shown xs ts p n w)
basic_shown (basic.Seq f) p n w = seq_shown f (formula_shown 512 f (omega arith) p n w)
basic_shown (basic.SeqCon xs f) p n w = seqcon_shown xs f (constants_shown xs f p n w)
basic_shown (basic.Con x t) p n w = con_shown x t (pinned_shown x t p n w)
basic_shown (basic.Contract xs) p n w = contract_shown xs (names_shown xs p n)
basic_shown (basic.Expand xs) p n w = expand_shown xs (names_shown xs p n)

-- steps to alternations, loops and local blocks

if_shown : (gs : List Formula) → Shown (formulas 511 (codes "|")) gs (guards_text gs) → Shown step (steps.Loop (loops.If gs)) (loop_text (loops.If gs))
unfolding loop_step
if_shown gs s = behind_word (formulas 511 (codes "|")) step (λ hs. steps.Loop (loops.If hs)) gs 105 (codes "f") (guards_text gs) refl refl refl (λ k n rest v i. loop_is k n (text (codes "if") ∷ rest) v (inl (rest, refl, i))) s

do_shown : (t : Term) (gs : List Formula) → Shown iteration (loops.Do t gs) (printed_term t ++ codes " ; " ++ guards_text gs) → Shown step (steps.Loop (loops.Do t gs)) (loop_text (loops.Do t gs))
unfolding loop_step
do_shown t gs s = behind_word iteration step steps.Loop (loops.Do t gs) 100 (codes "o") (printed_term t ++ codes " ; " ++ guards_text gs) refl refl refl (λ k n rest v i. loop_is k n (text (codes "do") ∷ rest) v (inr (inl (rest, refl, i)))) s

local_shown : (x : List ℕ) (s : Sort) → Shown block (loops.Block x s) (local_text x s) → Shown step (steps.Loop (loops.Block x s)) (loop_text (loops.Block x s))
unfolding loop_step
local_shown x s t = behind_word block step steps.Loop (loops.Block x s) 98 (codes "lock") (local_text x s) refl refl refl
    (λ k n rest v i. loop_is k n (text (codes "block") ∷ rest) v (inr (inr (record { first = text (codes "block"); rest = rest; filling = tt; tokens_are = refl; fills = refl; more = i })))) t

loop_shown : (s : LoopStep) → readable_loop s ≡ true → named_loop s ≡ true → LoopStaysWithin s → Shown step (steps.Loop s) (loop_text s)
loop_shown (loops.If gs) p n w = if_shown gs (guards_shown gs p n w)
loop_shown (loops.Do v gs) p n w = do_shown v gs (iteration_shown v gs p n w.0 w.1)
loop_shown (loops.Block x s) p n w = local_shown x s (block_shown x s p n)

-- a step that is shown reads back

spells : (s : Step) (written : List ℕ) → Shown step s written → StepSpells written s
spells s written h =
    let x = h [] refl in
    let z = append-nil written in
    let y = spelt_to skip_end (spelt_from (sym z) x.1) in (
      y.tokens,
      subst (λ t. LeadsTo t y.tokens []) (sym (subst (λ t. skip t ≡ t) z x.0)) y.leads,
      λ given. subst (λ t. IsOf (step (λ u. gives (given u))) (length y.tokens) t (given s)) (append-nil y.tokens) (y.is (λ u. gives (given u)) (length y.tokens) [] (given s) (refl, refl)),
    )

pub basic_reads_back : (s : BasicStep) → named_basic s ≡ true → BasicReadsBack (basic_text s) s
basic_reads_back s n p w = spells (steps.Basic s) (basic_text s) (basic_shown s p n w)

pub loop_reads_back : (s : LoopStep) → named_loop s ≡ true → LoopReadsBack (loop_text s) s
loop_reads_back s n p w = spells (steps.Loop s) (loop_text s) (loop_shown s p n w)
