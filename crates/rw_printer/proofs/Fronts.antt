-- The token at the front of what is printed.
use Rattle.std.proofs.Common.{◌≡◌, ℕ, suc, ◌+◌, ◌≤◌, ◌<◌, ◌^◌, Bool, true, false, cond, List, [], ◌∷◌, ◌++◌, length, take, drop, Some, None, refl, sym, ap, ◌∙◌, subst, arith}
use Rattle.std.specs.Prelude.{eqb, leb, nat_eq, ◌&&◌, ◌||◌, codes, decimal, option_map, not}
use Rattle.std.specs.List.{list_all, prefix_len}
use Rattle.std.proofs.Math.Seq.{take-append_seam, drop-append_seam}
use Rattle.std.proofs.lemmas.Bool.Decides.{nat_tests}
use Rattle.std.proofs.lemmas.Bool.{and_parts, or_parts, not-true}
use Rattle.rw_terms.specs.Names.{is_letter, is_digit, goes_on, is_word, is_name, ends_with_0}
use Rattle.rw_syntax.specs.declared.token.Infix.{Infix}
use Rattle.rw_syntax.specs.declared.token.Infix.TheVariants as infixes
use Rattle.rw_syntax.specs.declared.token.Token.TheVariants as classes
use Rattle.rw_tokens.specs.Tokens.{text, number, binder, skip, token_at, front_token, with_next, text_of, word_of, digits_of, binder_of, from_1, number_of, is_among, doubles, singles, symbol_of}
use Rattle.rw_tokens.specs.Classes.{class_of, text_class, mark_texts}
use Rattle.rw_printer.specs.Layout.{infix_text}
use Rattle.rw_printer.proofs.Leading.{Leads, one, to, skip_space}
use Rattle.rw_printer.proofs.Numerals.{decimal_digits, number_is}
use Rattle.rw_printer.proofs.Marks.{word_class, initial_class}

-- nothing, or a byte that ends words and numbers and makes no symbol with a bracket before it
abbrev pub ends : List ℕ → Bool
ends [] = true
ends (c ∷ cs) = eqb c 32 || eqb c 41 || eqb c 93 || eqb c 91 || eqb c 44 || eqb c 59 || eqb c 125

-- what a term or a formula begins with
abbrev pub begins : ℕ → Bool
begins c = is_letter c || is_digit c || eqb c 95 || eqb c 45 || eqb c 40

-- a word ends here
abbrev pub stops : List ℕ → Bool
stops [] = true
stops (c ∷ cs) = not (goes_on c)

abbrev goes_on_step : ℕ → List ℕ → Bool → ℕ
goes_on_step c cs b = cond b (1 + prefix_len goes_on cs) 0

pub ends_stops : (r : List ℕ) → ends r ≡ true → stops r ≡ true
ends_stops [] e = refl
ends_stops (c ∷ cs) e = ap not (let h : goes_on c ≡ false = grind (arith, nat_tests, e) in h)

no_more : (r : List ℕ) → stops r ≡ true → prefix_len goes_on r ≡ 0
no_more [] e = refl
no_more (c ∷ cs) e = ap (goes_on_step c cs) (not-true (goes_on c) e)

no_digits : (r : List ℕ) → stops r ≡ true → prefix_len is_digit r ≡ 0
no_digits [] e = refl
no_digits (c ∷ cs) e = ap (λ b. cond b (1 + prefix_len is_digit cs) 0) (or_parts (is_letter c) (is_digit c) (or_parts (is_letter c || is_digit c) (eqb c 95) (not-true (goes_on c) e)).0).1

prefix_all : (p : ℕ → Bool) (xs r : List ℕ) → list_all p xs ≡ true → prefix_len p r ≡ 0 → prefix_len p (xs ++ r) ≡ length xs
prefix_all p [] r h e = e
prefix_all p (x ∷ xs) r h e =
    let q = and_parts (p x) (list_all p xs) h in
    ap (λ b. cond b (1 + prefix_len p (xs ++ r)) 0) q.0 ∙ (let k = prefix_all p xs r q.1 e in omega arith)

text_is : (w r : List ℕ) (n : ℕ) → n ≡ length w → option_map (with_next (w ++ r)) (text_of n (w ++ r)) ≡ Some (text w, skip r)
text_is w r n e =
    ap (λ m. Some (text (take m (w ++ r)), skip (drop m (w ++ r)))) e
    ∙ ap (λ x. Some (text x, skip (drop (length w) (w ++ r)))) (take-append_seam w r)
    ∙ ap (λ x. Some (text w, skip x)) (drop-append_seam w r)

-- a word with what ends it
pub word_front : (b : ℕ) (bs r : List ℕ) → is_letter b ≡ true → list_all goes_on bs ≡ true → stops r ≡ true → token_at ((b ∷ bs) ++ r) ≡ Some (text (b ∷ bs), skip r)
unfolding token_at front_token
word_front b bs r l g e =
    let w = b ∷ bs in
    let h : list_all goes_on w ≡ true = ap (λ x. (x || is_digit b || eqb b 95) && list_all goes_on bs) l ∙ g in
    ap (λ x. option_map (with_next (w ++ r)) (cond x (word_of (w ++ r)) (cond (is_digit b) (digits_of (w ++ r)) (cond (eqb b 95) (binder_of (bs ++ r)) (symbol_of (w ++ r)))))) l
    ∙ text_is w r (prefix_len goes_on (w ++ r)) (prefix_all goes_on w r h (no_more r e))

-- the parts of a name
pub record NameParts (w : List ℕ) : Type 0 where
  pub first : ℕ
  pub rest : List ℕ
  pub is : w ≡ first ∷ rest
  pub letter : is_letter first ≡ true
  pub on : list_all goes_on rest ≡ true

pub name_parts : (w : List ℕ) → is_name w ≡ true → NameParts w
unfolding is_name
name_parts [] e = absurd (cc)
name_parts (b ∷ bs) e =
    let q = and_parts (is_letter b) (list_all goes_on bs) (and_parts (is_word (b ∷ bs)) (leb (length (b ∷ bs)) 32) (and_parts (is_word (b ∷ bs) && leb (length (b ∷ bs)) 32) _ (and_parts (is_word (b ∷ bs) && leb (length (b ∷ bs)) 32 && not (ends_with_0 (b ∷ bs))) _ e).0).0).0 in
    record { first = b; rest = bs; is = refl; letter = q.0; on = q.1 }

pub name_token : (w r : List ℕ) → is_name w ≡ true → stops r ≡ true → token_at (w ++ r) ≡ Some (text w, skip r)
name_token w r n e = let p = name_parts w n in subst (λ x. token_at (x ++ r) ≡ Some (text x, skip r)) (sym p.is) (word_front p.first p.rest r p.letter p.on e)

pub word_leads : (w r : List ℕ) → is_name w ≡ true → stops r ≡ true → Leads (w ++ r) (classes.Word w ∷ []) (skip r)
word_leads w r n e = one (w ++ r) (text w) (classes.Word w) (skip r) (name_token w r n e) (word_class w n)

on_more : (bs : List ℕ) → list_all goes_on bs ≡ true → list_all goes_on (bs ++ 48 ∷ []) ≡ true
on_more [] h = refl
on_more (c ∷ cs) h = let q = and_parts (goes_on c) (list_all goes_on cs) h in ap (λ x. x && list_all goes_on (cs ++ 48 ∷ [])) q.0 ∙ on_more cs q.1

pub initial_leads : (w r : List ℕ) → is_name w ≡ true → stops r ≡ true → Leads ((w ++ codes "0") ++ r) (classes.Initial w ∷ []) (skip r)
initial_leads w r n e =
    let p = name_parts w n in
    one ((w ++ codes "0") ++ r) (text (w ++ codes "0")) (classes.Initial w) (skip r) (subst (λ x. token_at ((x ++ codes "0") ++ r) ≡ Some (text (x ++ codes "0"), skip r)) (sym p.is) (word_front p.first (p.rest ++ codes "0") r p.letter (on_more p.rest p.on) e)) (initial_class w n)

-- numbers

pub small : (n : ℕ) → leb n 170141183460469231731687303715884105727 ≡ true → n < 10 ^ 64
small n h = grind (arith, nat_tests, h)

digits_are : (n : ℕ) (r : List ℕ) → leb n 170141183460469231731687303715884105727 ≡ true → stops r ≡ true → number_of (take (prefix_len is_digit (decimal n ++ r)) (decimal n ++ r)) ≡ Some n
digits_are n r h e =
    let s = decimal_digits n (small n h) in
    ap (λ k. number_of (take k (decimal n ++ r))) (prefix_all is_digit (decimal n) r s.digits (no_digits r e)) ∙ ap number_of (take-append_seam (decimal n) r) ∙ number_is n h (small n h)

digits_behind : (n : ℕ) (r : List ℕ) → leb n 170141183460469231731687303715884105727 ≡ true → stops r ≡ true → drop (prefix_len is_digit (decimal n ++ r)) (decimal n ++ r) ≡ r
digits_behind n r h e =
    let s = decimal_digits n (small n h) in
    ap (λ k. drop k (decimal n ++ r)) (prefix_all is_digit (decimal n) r s.digits (no_digits r e)) ∙ drop-append_seam (decimal n) r

-- what begins with a digit is a number
number_front : (c : ℕ) (cs : List ℕ) → is_digit c ≡ true → front_token (c ∷ cs) ≡ digits_of (c ∷ cs)
unfolding front_token
number_front c cs h =
    let l : is_letter c ≡ false = grind (arith, nat_tests, h) in
    ap (λ x. cond x (word_of (c ∷ cs)) (cond (is_digit c) (digits_of (c ∷ cs)) (cond (eqb c 95) (binder_of cs) (symbol_of (c ∷ cs))))) l
    ∙ ap (λ x. cond x (digits_of (c ∷ cs)) (cond (eqb c 95) (binder_of cs) (symbol_of (c ∷ cs)))) h

pub number_token : (n : ℕ) (r : List ℕ) → leb n 170141183460469231731687303715884105727 ≡ true → stops r ≡ true → token_at (decimal n ++ r) ≡ Some (number n, skip r)
unfolding token_at
number_token n r h e =
    let s = decimal_digits n (small n h) in
    let d : is_digit s.first ≡ true = (and_parts (is_digit s.first) (list_all is_digit s.rest) (subst (λ x. list_all is_digit x ≡ true) s.is s.digits)).0 in
    let f : front_token (decimal n ++ r) ≡ digits_of (decimal n ++ r) = subst (λ x. front_token (x ++ r) ≡ digits_of (x ++ r)) (sym s.is) (number_front s.first (s.rest ++ r) d) in
    ap (option_map (with_next (decimal n ++ r))) (f ∙ ap (option_map (λ v. (number v, prefix_len is_digit (decimal n ++ r)))) (digits_are n r h e)) ∙ ap (λ x. Some (number n, skip x)) (digits_behind n r h e)

pub number_leads : (n : ℕ) (r : List ℕ) → leb n 170141183460469231731687303715884105727 ≡ true → stops r ≡ true → Leads (decimal n ++ r) (classes.Number n ∷ []) (skip r)
unfolding class_of
number_leads n r h e = one (decimal n ++ r) (number n) (classes.Number n) (skip r) (number_token n r h e) refl

pub place_leads : (n : ℕ) (r : List ℕ) → 1 ≤ n → leb n 170141183460469231731687303715884105727 ≡ true → stops r ≡ true → Leads ((codes "_" ++ decimal n) ++ r) (classes.Place n ∷ []) (skip r)
unfolding token_at front_token class_of
place_leads n r low h e =
    let k = prefix_len is_digit (decimal n ++ r) in
    let l : leb 1 n ≡ true = grind (arith, nat_tests, low) in
    one (95 ∷ (decimal n ++ r)) (binder n) (classes.Place n) (skip r)
    (ap (λ o. option_map (with_next (95 ∷ (decimal n ++ r))) (from_1 k o)) (digits_are n r h e)
    ∙ ap (λ b. option_map (with_next (95 ∷ (decimal n ++ r))) (cond b (Some (binder n, k + 1)) None)) l
    ∙ ap (λ x. Some (binder n, skip x)) (ap (λ m. drop m (95 ∷ (decimal n ++ r))) (let z : k + 1 ≡ suc k = omega arith in z) ∙ digits_behind n r h e))
    refl

-- symbols

pub shut_bracket : (c : ℕ) → nat_eq c 124 ≡ false → is_among doubles (93 ∷ c ∷ []) ≡ false
unfolding doubles
shut_bracket c e = ap (λ z. (z && true) || false) e

pub open_bracket : (c : ℕ) → nat_eq c 93 ≡ false → is_among doubles (91 ∷ c ∷ []) ≡ false
unfolding doubles
open_bracket c e = ap (λ z. (z && true) || false) e

pub minus_sign : (c : ℕ) → nat_eq c 62 ≡ false → is_among doubles (45 ∷ c ∷ []) ≡ false
unfolding doubles
minus_sign c e = ap (λ z. (z && true) || false) e

pub open_leads : (x : List ℕ) → Leads (40 ∷ x) (classes.Open ∷ []) (skip x)
unfolding token_at front_token doubles singles class_of text_class mark_texts
open_leads x = one (40 ∷ x) (text (40 ∷ [])) classes.Open (skip x) refl refl

pub close_leads : (x : List ℕ) → Leads (41 ∷ x) (classes.Close ∷ []) (skip x)
unfolding token_at front_token doubles singles class_of text_class mark_texts
close_leads x = one (41 ∷ x) (text (41 ∷ [])) classes.Close (skip x) refl refl

pub comma_leads : (x : List ℕ) → Leads (44 ∷ 32 ∷ x) (classes.Comma ∷ []) (skip x)
unfolding token_at front_token doubles singles class_of text_class mark_texts
comma_leads x = to (skip_space x) (one (44 ∷ 32 ∷ x) (text (44 ∷ [])) classes.Comma (skip (32 ∷ x)) refl refl)

pub dot_leads : (x : List ℕ) → Leads (46 ∷ 32 ∷ x) (classes.Dot ∷ []) (skip x)
unfolding token_at front_token doubles singles class_of text_class mark_texts
dot_leads x = to (skip_space x) (one (46 ∷ 32 ∷ x) (text (46 ∷ [])) classes.Dot (skip (32 ∷ x)) refl refl)

pub open_square_leads : (c : ℕ) (x : List ℕ) → nat_eq c 93 ≡ false → Leads (91 ∷ c ∷ x) (classes.OpenSquare ∷ []) (skip (c ∷ x))
unfolding token_at front_token singles class_of text_class mark_texts
open_square_leads c x e = one (91 ∷ c ∷ x) (text (91 ∷ [])) classes.OpenSquare (skip (c ∷ x)) (ap (λ z. option_map (with_next (91 ∷ c ∷ x)) (cond z (text_of 2 (91 ∷ c ∷ x)) (text_of 1 (91 ∷ c ∷ x)))) (open_bracket c e)) refl

pub close_square_leads : (r : List ℕ) → ends r ≡ true → Leads (93 ∷ r) (classes.CloseSquare ∷ []) (skip r)
unfolding token_at front_token singles class_of text_class mark_texts doubles
close_square_leads [] e = one (93 ∷ []) (text (93 ∷ [])) classes.CloseSquare (skip []) refl refl
close_square_leads (c ∷ x) e =
    let h : nat_eq c 124 ≡ false = grind (arith, nat_tests, e) in
    one (93 ∷ c ∷ x) (text (93 ∷ [])) classes.CloseSquare (skip (c ∷ x)) (ap (λ z. option_map (with_next (93 ∷ c ∷ x)) (cond z (text_of 2 (93 ∷ c ∷ x)) (text_of 1 (93 ∷ c ∷ x)))) (shut_bracket c h)) refl

pub minus_leads : (c : ℕ) (x : List ℕ) → nat_eq c 62 ≡ false → Leads (45 ∷ c ∷ x) (classes.Infix infixes.Minus ∷ []) (skip (c ∷ x))
unfolding token_at front_token singles class_of text_class mark_texts
minus_leads c x e = one (45 ∷ c ∷ x) (text (45 ∷ [])) (classes.Infix infixes.Minus) (skip (c ∷ x)) (ap (λ z. option_map (with_next (45 ∷ c ∷ x)) (cond z (text_of 2 (45 ∷ c ∷ x)) (text_of 1 (45 ∷ c ∷ x)))) (minus_sign c e)) refl

-- an operator with a space on each side
pub infix_leads : (op : Infix) (x : List ℕ) → Leads (skip (32 ∷ (infix_text op ++ 32 ∷ x))) (classes.Infix op ∷ []) (skip x)
unfolding token_at front_token doubles singles class_of text_class mark_texts skip
infix_leads infixes.Implies x = to (skip_space x) (one (codes "=>" ++ 32 ∷ x) (text (codes "=>")) (classes.Infix infixes.Implies) (skip (32 ∷ x)) refl refl)
infix_leads infixes.Or x = to (skip_space x) (one (codes "or" ++ 32 ∷ x) (text (codes "or")) (classes.Infix infixes.Or) (skip (32 ∷ x)) refl refl)
infix_leads infixes.And x = to (skip_space x) (one (codes "and" ++ 32 ∷ x) (text (codes "and")) (classes.Infix infixes.And) (skip (32 ∷ x)) refl refl)
infix_leads infixes.Equal x = to (skip_space x) (one (codes "=" ++ 32 ∷ x) (text (codes "=")) (classes.Infix infixes.Equal) (skip (32 ∷ x)) refl refl)
infix_leads infixes.Unequal x = to (skip_space x) (one (codes "<>" ++ 32 ∷ x) (text (codes "<>")) (classes.Infix infixes.Unequal) (skip (32 ∷ x)) refl refl)
infix_leads infixes.Less x = to (skip_space x) (one (codes "<" ++ 32 ∷ x) (text (codes "<")) (classes.Infix infixes.Less) (skip (32 ∷ x)) refl refl)
infix_leads infixes.AtMost x = to (skip_space x) (one (codes "<=" ++ 32 ∷ x) (text (codes "<=")) (classes.Infix infixes.AtMost) (skip (32 ∷ x)) refl refl)
infix_leads infixes.Greater x = to (skip_space x) (one (codes ">" ++ 32 ∷ x) (text (codes ">")) (classes.Infix infixes.Greater) (skip (32 ∷ x)) refl refl)
infix_leads infixes.AtLeast x = to (skip_space x) (one (codes ">=" ++ 32 ∷ x) (text (codes ">=")) (classes.Infix infixes.AtLeast) (skip (32 ∷ x)) refl refl)
infix_leads infixes.Plus x = to (skip_space x) (one (codes "+" ++ 32 ∷ x) (text (codes "+")) (classes.Infix infixes.Plus) (skip (32 ∷ x)) refl refl)
infix_leads infixes.Minus x = to (skip_space x) (one (codes "-" ++ 32 ∷ x) (text (codes "-")) (classes.Infix infixes.Minus) (skip (32 ∷ x)) refl refl)
infix_leads infixes.Times x = to (skip_space x) (one (codes "*" ++ 32 ∷ x) (text (codes "*")) (classes.Infix infixes.Times) (skip (32 ∷ x)) refl refl)
infix_leads infixes.Div x = to (skip_space x) (one (codes "div" ++ 32 ∷ x) (text (codes "div")) (classes.Infix infixes.Div) (skip (32 ∷ x)) refl refl)
infix_leads infixes.Mod x = to (skip_space x) (one (codes "mod" ++ 32 ∷ x) (text (codes "mod")) (classes.Infix infixes.Mod) (skip (32 ∷ x)) refl refl)
