-- Names, terms, formulas, pins and what is passed, as parts of a program's text.
use Rattle.std.proofs.Common.{◌≡◌, ℕ, ◌≤◌, true, cond, List, [], ◌∷◌, ◌++◌, Some, None, refl, sym, ap, ◌∙◌, subst, arith, map, append_assoc, true≢false, inl, inr}
use Rattle.std.specs.Prelude.{not, ◌&&◌, leb, codes}
use Rattle.std.proofs.lemmas.Bool.Decides.{nat_tests}
use Rattle.std.proofs.lemmas.Bool.{and_parts}
use Rattle.rw_terms.specs.Names.{is_name}
use Rattle.rw_terms.specs.AllOf.{all_of}
use Rattle.rw_terms.specs.declared.term.Term.{Term}
use Rattle.rw_terms.specs.declared.term.Formula.{Formula}
use Rattle.rw_syntax.specs.declared.frame.Part.TheVariants as parts
use Rattle.rw_syntax.specs.Grammar.{level, nests, is_upper, as_formula}
use Rattle.rw_syntax.specs.Spelling.{AreWithin}
use Rattle.rw_syntax.proofs.Choices.{fits_to}
use Rattle.rw_programs.specs.declared.prog.Pin.{Pin}
use Rattle.rw_tokens.specs.Tokens.{text, skip, token_at}
use Rattle.rw_forms.specs.Forms.{a_variable, a_constant, a_name, a_pin, is_lower, is_constant, Form, takes, rest_of, many, fewer, behind}
use Rattle.rw_forms.specs.Phrases.{mark, formula, term, terms, names, name_form, name_in, constants, constant_form}
use Rattle.rw_printer.specs.Trees.{formula_tree}
use Rattle.rw_printer.specs.Layout.{printed_term, printed_formula, listed, names_text}
use Rattle.rw_printer.specs.Lines.{terms_text}
use Rattle.rw_printer.specs.Readable.{readable_term, readable_terms, readable_formula, named_term, named_terms, named_formula}
use Rattle.rw_printer.specs.ReadsBack.{TermsStayWithin}
use Rattle.rw_printer.proofs.Leading.{leads_join}
use Rattle.rw_printer.proofs.Lexed.{Starts, starts_with, skip_start, lexed, name_starts}
use Rattle.rw_printer.proofs.Fronts.{ends, name_parts, name_token, stops}
use Rattle.rw_printer.proofs.ShownFormulas.{prints as formula_prints}
use Rattle.rw_printer.proofs.Spelling.{Spelt, spelt_from, spelt_as, slot_spelt, chain, mapped, marked, closed, word_alone, within, value_spelt, item, Item, More, many_spelt, AllGood, Laid, list_spelt, unwrapped}
use Rattle.rw_printer.proofs.SpeltParts.{variable_spelt, GoodTerm, wider, term_starts, term_spelt, terms_spelt, open_token}
use Rattle.rw_program_reader.specs.Programs.{pin, pin_form, pin_in, pins, arguments, results, bracketed}
use Rattle.rw_program_printer.specs.Layout.{results_text, passed_text, pin_text, pins_text}
use Rattle.rw_program_printer.specs.Readable.{readable_names, readable_pin, some_of, named_names, named_pin, named_pins}
use Rattle.rw_program_printer.specs.ReadsBack.{PinsStayWithin}
use Rattle.rw_program_printer.proofs.Tokens.{IsBare, equals, comma, comma_space, passes, passes_none, closes, closes_here}

-- the first of a list and the others, before what follows
pub listed_first : (sep x : List ℕ) (xs : List (List ℕ)) (r : List ℕ) → listed sep [] (x ∷ xs) ++ r ≡ x ++ (listed sep sep xs ++ r)
listed_first sep x xs r = append_assoc x (listed sep sep xs) r

-- a formula, whatever its nest
pub formula_spelt : (most : ℕ) (f : Formula) (r : List ℕ) → most ≤ 512 → readable_formula f 0 ≡ true → named_formula f ≡ true → AreWithin most (nests 0 (formula_tree f 0)) → ends r ≡ true → Spelt (formula most) f (printed_formula f ++ r) (skip r)
unfolding formula
formula_spelt most f r h p n w e =
    let s = formula_prints f 0 p n in
    let k = s.kind in
    mapped (rest_of most 1 []) as_formula (parts.Formula f)
    (value_spelt most 1 (formula_tree f 0) (parts.Formula f) (lexed (formula_tree f 0) 0 0 s.plain (omega arith) (wider most (nests 0 (formula_tree f 0)) h w) r e) (fits_to 1 (level (formula_tree f 0)) k.0 (λ x. k.1)) s w)

-- terms

pub good_terms : (most : ℕ) (ts : List Term) → readable_terms ts ≡ true → named_terms ts ≡ true → TermsStayWithin most ts → AllGood (GoodTerm most) ts
good_terms most [] p n w = tt
good_terms most (t ∷ ts) p n w =
    let q = and_parts (readable_term t 0) (readable_terms ts) p in
    let m = and_parts (named_term t) (named_terms ts) n in
    (record { readable = q.0; named = m.0; within = w.0 }, good_terms most ts q.1 m.1 w.1)

pub terms_ok : (most : ℕ) (ts : List Term) (r : List ℕ) → most ≤ 512 → some_of ts ≡ true → AllGood (GoodTerm most) ts → ends r ≡ true → IsBare (terms_text ts ++ r) × Spelt (terms most) ts (terms_text ts ++ r) (skip r)
terms_ok most [] r h s g e = absurd (true≢false (sym s))
terms_ok most (t ∷ ts) r h s g e =
    let z = listed_first (codes ", ") (printed_term t) (map printed_term ts) r in
    (subst IsBare (sym z) (skip_start _ (starts_with (printed_term t) _ (term_starts most t g.0))), spelt_from z (terms_spelt most t ts h g.0 g.1 r e))

-- names

pub record GoodName (x : List ℕ) : Type 0 where
  pub lower : not (is_upper x) ≡ true
  pub name : is_name x ≡ true

pub good_names : (xs : List (List ℕ)) → readable_names xs ≡ true → named_names xs ≡ true → AllGood GoodName xs
good_names [] p n = tt
good_names (x ∷ xs) p n =
    let q = and_parts (not (is_upper x)) (readable_names xs) p in
    let m = and_parts (is_name x) (named_names xs) n in
    (record { lower = q.0; name = m.0 }, good_names xs q.1 m.1)

rest_stops : (xs : List (List ℕ)) (r : List ℕ) → stops r ≡ true → stops (listed (codes ",") (codes ",") xs ++ r) ≡ true
rest_stops [] r e = e
rest_stops (x ∷ xs) r e = refl

grouped_more : (x l r : List ℕ) → (codes "," ++ x ++ l) ++ r ≡ 44 ∷ (x ++ (l ++ r))
grouped_more x l r = simp append_assoc

-- how the names of a list are read, each as an item
record Names (f : Form) (Good : List ℕ → Type 0) : Type 0 where
  name : (x : List ℕ) → Good x → is_name x ≡ true
  one : (x : List ℕ) → Good x → (r : List ℕ) → stops r ≡ true → Item f (a_name x) (x ++ r) (skip r)

-- names behind commas
rest_names : (f : Form) (Good : List ℕ → Type 0) → Names f Good → (xs : List (List ℕ)) → AllGood Good xs → (r : List ℕ) → stops r ≡ true → More f (codes ",") (map a_name xs) (skip (listed (codes ",") (codes ",") xs ++ r)) (skip r)
rest_names f Good w [] g r e = record { tokens = []; leads = refl; are = λ n. refl }
rest_names f Good w (x ∷ xs) g r e =
    let l = listed (codes ",") (codes ",") xs in
    let y = x ++ (l ++ r) in
    let i = w.one x g.0 (l ++ r) (rest_stops xs r e) in
    let m = rest_names f Good w xs g.1 r e in
    subst (λ b. More f (codes ",") (map a_name (x ∷ xs)) (skip b) (skip r)) (sym (grouped_more x l r))
    (record {
      tokens = text (codes ",") ∷ (i.tokens ++ m.tokens);
      leads = (y, comma y (skip_start y (starts_with x (l ++ r) (name_starts x (w.name x g.0)))), leads_join y i.tokens (skip (l ++ r)) m.tokens (skip r) i.leads m.leads);
      are = λ n. (i.tokens, m.tokens, refl, i.is (fewer n), m.are (behind (fewer n) i.tokens));
    })

listed_ok : (f : Form) (Good : List ℕ → Type 0) → Names f Good → (xs : List (List ℕ)) (r : List ℕ) → some_of xs ≡ true → AllGood Good xs → stops r ≡ true → IsBare (names_text xs ++ r) × Spelt (λ k. many f (codes ",") (λ gs. k (map name_in gs))) xs (names_text xs ++ r) (skip r)
listed_ok f Good w [] r s g e = absurd (true≢false (sym s))
listed_ok f Good w (x ∷ xs) r s g e =
    let z = listed_first (codes ",") x xs r in
    let l = listed (codes ",") (codes ",") xs in (
      subst IsBare (sym z) (skip_start _ (starts_with x _ (name_starts x (w.name x g.0)))),
      spelt_from z (spelt_as (unwrapped a_name name_in (x ∷ xs) (λ y. refl))
          (mapped (λ k. many f (codes ",") k) (map name_in) (map a_name (x ∷ xs)) (many_spelt f (codes ",") (a_name x) (map a_name xs) (w.one x g.0 (l ++ r) (rest_stops xs r e)) (rest_names f Good w xs g.1 r e)))),
    )

name_item : (x : List ℕ) → GoodName x → (r : List ℕ) → stops r ≡ true → Item name_form (a_name x) (x ++ r) (skip r)
unfolding name_form
name_item x g r e = item (takes a_variable) a_name x (variable_spelt x r g.name g.lower e)

pub names_ok : (xs : List (List ℕ)) (r : List ℕ) → some_of xs ≡ true → AllGood GoodName xs → stops r ≡ true → IsBare (names_text xs ++ r) × Spelt names xs (names_text xs ++ r) (skip r)
unfolding names
names_ok xs r s g e = listed_ok name_form GoodName (record { name = λ x h. h.name; one = name_item }) xs r s g e

-- constants

not_lower : (b : ℕ) → leb b 90 ≡ true → not (leb 97 b) ≡ true
not_lower b u = grind (arith, nat_tests, u)

constant : (w : List ℕ) → is_name w ≡ true → is_upper w ≡ true → is_constant w ≡ true
unfolding is_constant
constant w n u =
    let p = name_parts w n in
    ap (λ b. b && not (is_lower w)) n ∙ subst (λ x. not (is_lower x) ≡ true) (sym p.is) (not_lower p.first (subst (λ x. is_upper x ≡ true) p.is u))

pub constant_spelt : (w r : List ℕ) → is_name w ≡ true → is_upper w ≡ true → stops r ≡ true → Spelt (takes a_constant) w (w ++ r) (skip r)
constant_spelt w r n u e = slot_spelt a_constant w (w ++ r) (skip r) (text w) (name_token w r n e) (ap (λ b. cond b (Some w) None) (constant w n u))

pub record GoodConstant (x : List ℕ) : Type 0 where
  pub upper : is_upper x ≡ true
  pub name : is_name x ≡ true

pub good_constants : (xs : List (List ℕ)) → all_of (map is_upper xs) ≡ true → named_names xs ≡ true → AllGood GoodConstant xs
good_constants [] p n = tt
good_constants (x ∷ xs) p n =
    let q = and_parts (is_upper x) (all_of (map is_upper xs)) p in
    let m = and_parts (is_name x) (named_names xs) n in
    (record { upper = q.0; name = m.0 }, good_constants xs q.1 m.1)

constant_item : (x : List ℕ) → GoodConstant x → (r : List ℕ) → stops r ≡ true → Item constant_form (a_name x) (x ++ r) (skip r)
unfolding constant_form
constant_item x g r e = item (takes a_constant) a_name x (constant_spelt x r g.name g.upper e)

pub constants_ok : (xs : List (List ℕ)) (r : List ℕ) → some_of xs ≡ true → AllGood GoodConstant xs → stops r ≡ true → IsBare (names_text xs ++ r) × Spelt constants xs (names_text xs ++ r) (skip r)
unfolding constants
constants_ok xs r s g e = listed_ok constant_form GoodConstant (record { name = λ x h. h.name; one = constant_item }) xs r s g e

-- pins

pub record GoodPin (most : ℕ) (p : Pin) : Type 0 where
  pub upper : is_upper p.name ≡ true
  pub name : is_name p.name ≡ true
  pub good : GoodTerm most p.term

pub good_pins : (most : ℕ) (ps : List Pin) → all_of (map readable_pin ps) ≡ true → named_pins ps ≡ true → PinsStayWithin most ps → AllGood (GoodPin most) ps
good_pins most [] p n w = tt
good_pins most (x ∷ xs) p n w =
    let q = and_parts (readable_pin x) (all_of (map readable_pin xs)) p in
    let a = and_parts (is_upper x.name) (readable_term x.term 0) q.0 in
    let m = and_parts (named_pin x) (named_pins xs) n in
    let b = and_parts (is_name x.name) (named_term x.term) m.0 in
    (record { upper = a.0; name = b.0; good = record { readable = a.1; named = b.1; within = w.0 } }, good_pins most xs q.1 m.1 w.1)

grouped_pin : (x t r : List ℕ) → (x ++ codes " = " ++ t) ++ r ≡ x ++ (32 ∷ 61 ∷ 32 ∷ (t ++ r))
grouped_pin x t r = simp append_assoc

pin_spelt : (most : ℕ) (p : Pin) (r : List ℕ) → most ≤ 512 → GoodPin most p → ends r ≡ true → Spelt (pin most) p (pin_text p ++ r) (skip r)
unfolding pin
pin_spelt most p r h g e =
    let y = printed_term p.term ++ r in
    spelt_from (grouped_pin p.name (printed_term p.term) r)
    (chain (takes a_constant) (λ x k. mark (codes "=") (term most (λ t. k (record { name = x; term = t })))) p.name p (constant_spelt p.name (32 ∷ 61 ∷ 32 ∷ y) g.name g.upper refl)
    (marked (codes "=") (λ k. term most (λ t. k (record { name = p.name; term = t }))) p (equals y (skip_start y (starts_with (printed_term p.term) r (term_starts most p.term g.good))))
    (mapped (term most) (λ t. record { name = p.name; term = t }) p.term (term_spelt most p.term r h g.good e))))

pin_item : (most : ℕ) → most ≤ 512 → (p : Pin) → GoodPin most p → (r : List ℕ) → ends r ≡ true → Item (pin_form most) (a_pin p) (pin_text p ++ r) (skip r)
unfolding pin_form
pin_item most h p g r e = item (pin most) a_pin p (pin_spelt most p r h g e)

pin_starts : (most : ℕ) (p : Pin) → GoodPin most p → Starts (pin_text p)
pin_starts most p g = starts_with (p.name ++ codes " = ") (printed_term p.term) (starts_with p.name (codes " = ") (name_starts p.name g.name))

pins_laid : (most : ℕ) → most ≤ 512 → Laid {A = Pin} (pin_form most) (codes ",") (codes ", ") a_pin pin_text (GoodPin most)
pins_laid most h = record { front = λ y s. comma_space y (skip_start y s); apart = λ y. refl; start = pin_starts most; one = pin_item most h }

pub pins_ok : (most : ℕ) (ps : List Pin) (r : List ℕ) → most ≤ 512 → some_of ps ≡ true → AllGood (GoodPin most) ps → ends r ≡ true → IsBare (pins_text ps ++ r) × Spelt (pins most) ps (pins_text ps ++ r) (skip r)
unfolding pins
pins_ok most [] r h s g e = absurd (true≢false (sym s))
pins_ok most (p ∷ ps) r h s g e =
    let z = listed_first (codes ", ") (pin_text p) (map pin_text ps) r in (
      subst IsBare (sym z) (skip_start _ (starts_with (pin_text p) _ (pin_starts most p g.0))),
      spelt_from z (spelt_as (unwrapped a_pin pin_in (p ∷ ps) (λ y. refl))
          (mapped (λ k. many (pin_form most) (codes ",") k) (map pin_in) (map a_pin (p ∷ ps)) (list_spelt (pin_form most) (codes ",") (codes ", ") a_pin pin_text (GoodPin most) (pins_laid most h) p ps g.0 g.1 r e))),
    )

-- what is passed

results_end : (xs : List (List ℕ)) (r : List ℕ) → ends (results_text xs ++ (41 ∷ r)) ≡ true
results_end [] r = refl
results_end (x ∷ xs) r = refl

-- what stands behind the semicolon
abbrev behind_semicolon : List (List ℕ) → List ℕ → List ℕ
behind_semicolon [] r = 41 ∷ r
behind_semicolon (x ∷ xs) r = names_text (x ∷ xs) ++ (41 ∷ r)

semicolon_here : (xs : List (List ℕ)) (r : List ℕ) → AllGood GoodName xs → token_at (skip (results_text xs ++ (41 ∷ r))) ≡ Some (text (codes ";"), behind_semicolon xs r)
semicolon_here [] r g = passes_none r
semicolon_here (x ∷ xs) r g = passes (names_text (x ∷ xs) ++ (41 ∷ r)) (names_ok (x ∷ xs) (41 ∷ r) refl g refl).0

arguments_ok : (most : ℕ) (ts : List Term) (xs : List (List ℕ)) (r : List ℕ) → most ≤ 512 → AllGood (GoodTerm most) ts → AllGood GoodName xs → Spelt (arguments most) ts (skip (terms_text ts ++ (results_text xs ++ (41 ∷ r)))) (behind_semicolon xs r)
unfolding arguments
arguments_ok most [] xs r h g n = word_alone (arguments most) [] (codes ";") (semicolon_here xs r n) (λ k m rest v i. inl (rest, refl, i))
arguments_ok most (t ∷ ts) xs r h g n =
    let a = terms_ok most (t ∷ ts) (results_text xs ++ (41 ∷ r)) h refl g (results_end xs r) in
    spelt_from a.0
    (within (λ k. terms most (λ us. mark (codes ";") (k us))) (arguments most) (t ∷ ts) (λ k m us v i. inr i)
    (chain (terms most) (λ us k. mark (codes ";") (k us)) (t ∷ ts) (t ∷ ts) a.1 (closed (codes ";") (t ∷ ts) (semicolon_here xs r n))))

results_ok : (xs : List (List ℕ)) (r : List ℕ) → AllGood GoodName xs → Spelt results xs (behind_semicolon xs r) (skip r)
unfolding results
results_ok [] r g = word_alone results [] (codes ")") (closes_here r) (λ k m rest v i. inl (rest, refl, i))
results_ok (x ∷ xs) r g =
    within (λ k. names (λ ys. mark (codes ")") (k ys))) results (x ∷ xs) (λ k m us v i. inr i)
    (chain names (λ ys k. mark (codes ")") (k ys)) (x ∷ xs) (x ∷ xs) (names_ok (x ∷ xs) (41 ∷ r) refl g refl).1 (closed (codes ")") (x ∷ xs) (closes r)))

grouped_passed : (t x r : List ℕ) → (codes "(" ++ t ++ x ++ codes ")") ++ r ≡ 40 ∷ (t ++ (x ++ (41 ∷ r)))
grouped_passed t x r = simp append_assoc

pub passed_ok : (most : ℕ) (ts : List Term) (xs : List (List ℕ)) (r : List ℕ) → most ≤ 512 → AllGood (GoodTerm most) ts → AllGood GoodName xs → Spelt (λ k. bracketed k most) (ts, xs) (passed_text ts xs ++ r) (skip r)
passed_ok most ts xs r h g n =
    let y = terms_text ts ++ (results_text xs ++ (41 ∷ r)) in
    spelt_from (grouped_passed (terms_text ts) (results_text xs) r)
    (marked (codes "(") (λ k. arguments most (λ us. results (λ ys. k (us, ys)))) (ts, xs) (open_token y)
    (chain (arguments most) (λ us k. results (λ ys. k (us, ys))) ts (ts, xs) (arguments_ok most ts xs r h g n) (mapped results (λ ys. (ts, ys)) xs (results_ok xs r n))))
