-- Numbers, names, terms and formulas as parts of a line.
use Rattle.std.proofs.Common.{◌≡◌, ℕ, ◌≤◌, true, false, cond, List, [], ◌∷◌, ◌++◌, Some, None, refl, sym, ap, ◌∙◌, subst, arith, map}
use Rattle.std.specs.Prelude.{leb, not, ◌&&◌, codes, decimal}
use Rattle.std.proofs.lemmas.Bool.Decides.{nat_tests}
use Rattle.std.proofs.lemmas.Bool.{not-true}
use Rattle.rw_terms.specs.Names.{is_letter, is_name}
use Rattle.rw_terms.specs.declared.term.Term.{Term}
use Rattle.rw_terms.specs.declared.term.Formula.{Formula}
use Rattle.rw_syntax.specs.declared.frame.Part.TheVariants as parts
use Rattle.rw_syntax.specs.Grammar.{level, nests, is_upper, as_term, as_formula}
use Rattle.rw_syntax.specs.Spelling.{AreWithin}
use Rattle.rw_syntax.proofs.Choices.{fits_to}
use Rattle.rw_tokens.specs.Tokens.{text, number, skip, token_at, front_token, doubles, singles}
use Rattle.rw_forms.specs.Forms.{a_variable, any_name, a_number, is_lower, is_variable, takes, a_term, Form, rest_of}
use Rattle.rw_forms.specs.Phrases.{mark, term, formula, term_form, term_in, terms}
use Rattle.rw_forms.specs.Certificates.{formula_number, any_number, two_terms}
use Rattle.rw_printer.specs.Trees.{term_tree, formula_tree}
use Rattle.rw_printer.specs.Layout.{printed_term, printed_formula, listed}
use Rattle.rw_printer.specs.Readable.{readable_term, named_term, readable_formula, named_formula, is_counted}
use Rattle.rw_printer.specs.ReadsBack.{StaysWithin}
use Rattle.rw_printer.proofs.Leading.{skip_none}
use Rattle.rw_printer.proofs.Lexed.{Starts, starts, starts_with, number_starts, lexed}
use Rattle.rw_printer.proofs.Fronts.{ends, stops, name_parts, name_token, number_token}
use Rattle.rw_printer.proofs.ShownTerms.{prints as term_prints}
use Rattle.rw_printer.proofs.ShownFormulas.{prints as formula_prints}
use Rattle.rw_printer.proofs.Spelling.{Spelt, spelt_from, spelt_as, slot_spelt, chain, mapped, marked, value_spelt, item, Item, AllGood, Laid, list_spelt, unwrapped, behind_space}

-- numbers

counted_fits : (n : ℕ) → leb n 4294967295 ≡ true → (leb 0 n && leb n 4294967295) ≡ true
counted_fits n h = grind (arith, nat_tests, h)

pub counted_known : (n : ℕ) → leb n 4294967295 ≡ true → leb n 170141183460469231731687303715884105727 ≡ true
counted_known n h = grind (arith, nat_tests, h)

known_fits : (n : ℕ) → leb n 170141183460469231731687303715884105727 ≡ true → (leb 0 n && leb n 170141183460469231731687303715884105727) ≡ true
known_fits n h = grind (arith, nat_tests, h)

pub number_spelt : (n : ℕ) (r : List ℕ) → is_counted n ≡ true → stops r ≡ true → Spelt formula_number n (decimal n ++ r) (skip r)
number_spelt n r h e = slot_spelt (a_number 0 4294967295) n (decimal n ++ r) (skip r) (number n) (number_token n r (counted_known n h) e) (ap (λ b. cond b (Some n) None) (counted_fits n h))

pub any_spelt : (n : ℕ) (r : List ℕ) → leb n 170141183460469231731687303715884105727 ≡ true → stops r ≡ true → Spelt any_number n (decimal n ++ r) (skip r)
any_spelt n r h e = slot_spelt (a_number 0 170141183460469231731687303715884105727) n (decimal n ++ r) (skip r) (number n) (number_token n r h e) (ap (λ b. cond b (Some n) None) (known_fits n h))

pub counted_starts : (n : ℕ) → is_counted n ≡ true → Starts (decimal n)
counted_starts n h = number_starts n (counted_known n h)

-- names

low : (b : ℕ) → is_letter b ≡ true → leb b 90 ≡ false → leb 97 b ≡ true
low b l u = grind (arith, nat_tests, l, u)

lower : (w : List ℕ) → is_name w ≡ true → is_upper w ≡ false → is_lower w ≡ true
lower w n u =
    let p = name_parts w n in
    subst (λ x. is_lower x ≡ true) (sym p.is) (low p.first p.letter (subst (λ x. is_upper x ≡ false) p.is u))

variable : (w : List ℕ) → is_name w ≡ true → is_upper w ≡ false → is_variable w ≡ true
unfolding is_variable
variable w n u = ap (λ b. b && is_lower w) n ∙ lower w n u

pub variable_spelt : (w r : List ℕ) → is_name w ≡ true → not (is_upper w) ≡ true → stops r ≡ true → Spelt (takes a_variable) w (w ++ r) (skip r)
variable_spelt w r n u e = slot_spelt a_variable w (w ++ r) (skip r) (text w) (name_token w r n e) (ap (λ b. cond b (Some w) None) (variable w n (not-true (is_upper w) u)))

pub name_spelt : (w r : List ℕ) → is_name w ≡ true → stops r ≡ true → Spelt (takes any_name) w (w ++ r) (skip r)
name_spelt w r n e = slot_spelt any_name w (w ++ r) (skip r) (text w) (name_token w r n e) (ap (λ b. cond b (Some w) None) n)

-- terms and formulas

pub wider : (most : ℕ) (ns : List ℕ) → most ≤ 512 → AreWithin most ns → StaysWithin ns
wider most [] h w = tt
wider most (n ∷ ns) h w = (let k = w.0 in omega arith, wider most ns h w.1)

-- a term that stands for itself
pub record GoodTerm (most : ℕ) (t : Term) : Type 0 where
  pub readable : readable_term t 0 ≡ true
  pub named : named_term t ≡ true
  pub within : AreWithin most (nests 0 (term_tree t 0))

pub term_starts : (most : ℕ) (t : Term) → GoodTerm most t → Starts (printed_term t)
term_starts most t g = starts (term_tree t 0) 0 (term_prints t 0 g.readable g.named).plain

pub term_spelt : (most : ℕ) (t : Term) (r : List ℕ) → most ≤ 512 → GoodTerm most t → ends r ≡ true → Spelt (term most) t (printed_term t ++ r) (skip r)
unfolding term
term_spelt most t r h g e =
    let s = term_prints t 0 g.readable g.named in
    mapped (rest_of most 6 []) as_term (parts.Term t)
    (value_spelt most 6 (term_tree t 0) (parts.Term t) (lexed (term_tree t 0) 0 0 s.plain (omega arith) (wider most (nests 0 (term_tree t 0)) h g.within) r e) (fits_to 6 (level (term_tree t 0)) s.kind (λ x. absurd (omega arith))) s g.within)

pub formula_spelt : (f : Formula) (r : List ℕ) → readable_formula f 0 ≡ true → named_formula f ≡ true → StaysWithin (nests 0 (formula_tree f 0)) → ends r ≡ true → Spelt (formula 512) f (printed_formula f ++ r) (skip r)
unfolding formula
formula_spelt f r p n w e =
    let s = formula_prints f 0 p n in
    let k = s.kind in
    mapped (rest_of 512 1 []) as_formula (parts.Formula f)
    (value_spelt 512 1 (formula_tree f 0) (parts.Formula f) (lexed (formula_tree f 0) 0 0 s.plain (omega arith) w r e) (fits_to 1 (level (formula_tree f 0)) k.0 (λ x. k.1)) s w)

pub formula_starts : (f : Formula) → readable_formula f 0 ≡ true → named_formula f ≡ true → Starts (printed_formula f)
formula_starts f p n = starts (formula_tree f 0) 0 (formula_prints f 0 p n).plain

-- `,` and a space
pub comma_token : (y : List ℕ) → Starts y → token_at (44 ∷ 32 ∷ y) ≡ Some (text (codes ","), y)
unfolding token_at front_token doubles singles
comma_token y s = behind_space (codes ",") (44 ∷ 32 ∷ y) y s refl

-- `)`
pub close_token : (r : List ℕ) → token_at (41 ∷ r) ≡ Some (text (codes ")"), skip r)
unfolding token_at front_token doubles singles
close_token r = refl

-- `(`
pub open_token : (y : List ℕ) → token_at (40 ∷ y) ≡ Some (text (codes "("), skip y)
unfolding token_at front_token doubles singles
open_token y = refl

-- a part behind a comma
pub behind_comma : {A : Type 0} (part : (A → Form) → Form) (x : A) (y c : List ℕ) → Starts y → Spelt part x y c → Spelt (λ k. mark (codes ",") (part k)) x (skip (44 ∷ 32 ∷ y)) c
behind_comma part x y c s p = spelt_from (skip_none 44 (32 ∷ y) refl) (marked (codes ",") part x (comma_token y s) p)

pub two_spelt : (a b : Term) (r : List ℕ) → GoodTerm 512 a → GoodTerm 512 b → ends r ≡ true → Spelt two_terms (a, b) (printed_term a ++ (44 ∷ 32 ∷ (printed_term b ++ r))) (skip r)
unfolding two_terms
two_spelt a b r g h e =
    chain (term 512) (λ x k. mark (codes ",") (term 512 (λ y. k (x, y)))) a (a, b) (term_spelt 512 a (44 ∷ 32 ∷ (printed_term b ++ r)) (omega arith) g refl)
    (behind_comma (λ k. term 512 (λ y. k (a, y))) (a, b) (printed_term b ++ r) (skip r) (starts_with (printed_term b) r (term_starts 512 b h)) (mapped (term 512) (λ y. (a, y)) b (term_spelt 512 b r (omega arith) h e)))

term_item : (most : ℕ) (t : Term) → most ≤ 512 → GoodTerm most t → (r : List ℕ) → ends r ≡ true → Item (term_form most) (a_term t) (printed_term t ++ r) (skip r)
unfolding term_form
term_item most t h g r e = item (term most) a_term t (term_spelt most t r h g e)

comma_front : (y : List ℕ) → Starts y → token_at (skip (44 ∷ 32 ∷ y)) ≡ Some (text (codes ","), y)
comma_front y s = ap token_at (skip_none 44 (32 ∷ y) refl) ∙ comma_token y s

terms_laid : (most : ℕ) → most ≤ 512 → Laid {A = Term} (term_form most) (codes ",") (codes ", ") a_term printed_term (GoodTerm most)
terms_laid most h = record { front = comma_front; apart = λ y. refl; start = term_starts most; one = λ t g r e. term_item most t h g r e }

pub terms_spelt : (most : ℕ) (t : Term) (ts : List Term) → most ≤ 512 → GoodTerm most t → AllGood (GoodTerm most) ts → (r : List ℕ) → ends r ≡ true → Spelt (terms most) (t ∷ ts) (printed_term t ++ (listed (codes ", ") (codes ", ") (map printed_term ts) ++ r)) (skip r)
unfolding terms
terms_spelt most t ts h g gs r e =
    spelt_as (unwrapped a_term term_in (t ∷ ts) (λ x. refl))
    (mapped (λ k. Rattle.rw_forms.specs.Forms.many (term_form most) (codes ",") k) (map term_in) (map a_term (t ∷ ts)) (list_spelt (term_form most) (codes ",") (codes ", ") a_term printed_term (GoodTerm most) (terms_laid most h) t ts g gs r e))
