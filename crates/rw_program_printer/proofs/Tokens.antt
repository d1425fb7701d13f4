-- The words and symbols of a program's text, with what is behind them.
use Rattle.std.proofs.Common.{◌≡◌, ℕ, true, false, List, [], ◌∷◌, ◌++◌, Some, refl, ap, ◌∙◌, arith}
use Rattle.std.specs.Prelude.{codes, cond, nat_eq, option_map}
use Rattle.std.proofs.lemmas.Bool.Decides.{nat_tests}
use Rattle.std.specs.List.{list_all}
use Rattle.rw_terms.specs.Names.{is_letter, goes_on}
use Rattle.rw_tokens.specs.Tokens.{text, is_blank, skip, token_at, front_token, with_next, text_of, doubles, singles}
use Rattle.rw_printer.proofs.Leading.{skip_none, skip_space}
use Rattle.rw_printer.proofs.Fronts.{ends, ends_stops, word_front, shut_bracket}

-- a text without white space before it
abbrev pub IsBare : List ℕ → Type 0
IsBare y = skip y ≡ y

-- a byte and no white space
pub bare : (b : ℕ) (bs : List ℕ) → is_blank b ≡ false → IsBare (b ∷ bs)
bare b bs e = skip_none b bs e

bare_behind : (w here y : List ℕ) → IsBare y → token_at here ≡ Some (text w, skip (32 ∷ y)) → token_at here ≡ Some (text w, y)
bare_behind w here y s e = e ∙ ap (λ z. Some (text w, z)) (skip_space y ∙ s)

-- a word with a space behind it
pub keyword : (b : ℕ) (bs y : List ℕ) → is_letter b ≡ true → list_all goes_on bs ≡ true → IsBare y → token_at ((b ∷ bs) ++ 32 ∷ y) ≡ Some (text (b ∷ bs), y)
keyword b bs y l g s = bare_behind (b ∷ bs) ((b ∷ bs) ++ 32 ∷ y) y s (word_front b bs (32 ∷ y) l g refl)

-- a word with a space before it, which ends a program
pub last_word : (b : ℕ) (bs r : List ℕ) → is_letter b ≡ true → is_blank b ≡ false → list_all goes_on bs ≡ true → ends r ≡ true → token_at (skip (32 ∷ ((b ∷ bs) ++ r))) ≡ Some (text (b ∷ bs), skip r)
last_word b bs r l n g e = ap token_at (skip_space ((b ∷ bs) ++ r) ∙ skip_none b (bs ++ r) n) ∙ word_front b bs r l g (ends_stops r e)

-- a symbol with a space before it
before : (b : ℕ) (bs : List ℕ) → is_blank b ≡ false → skip (32 ∷ b ∷ bs) ≡ b ∷ bs
before b bs n = skip_space (b ∷ bs) ∙ skip_none b bs n

pub semicolon : (y : List ℕ) → IsBare y → token_at (skip (32 ∷ 59 ∷ 32 ∷ y)) ≡ Some (text (codes ";"), y)
unfolding token_at front_token doubles singles
semicolon y s = ap token_at (before 59 (32 ∷ y) refl) ∙ bare_behind (codes ";") (59 ∷ 32 ∷ y) y s refl

pub becomes : (y : List ℕ) → IsBare y → token_at (skip (32 ∷ 58 ∷ 61 ∷ 32 ∷ y)) ≡ Some (text (codes ":="), y)
unfolding token_at front_token doubles singles
becomes y s = ap token_at (before 58 (61 ∷ 32 ∷ y) refl) ∙ bare_behind (codes ":=") (58 ∷ 61 ∷ 32 ∷ y) y s refl

pub arrow : (y : List ℕ) → IsBare y → token_at (skip (32 ∷ 45 ∷ 62 ∷ 32 ∷ y)) ≡ Some (text (codes "->"), y)
unfolding token_at front_token doubles singles
arrow y s = ap token_at (before 45 (62 ∷ 32 ∷ y) refl) ∙ bare_behind (codes "->") (45 ∷ 62 ∷ 32 ∷ y) y s refl

pub box : (y : List ℕ) → IsBare y → token_at (skip (32 ∷ 91 ∷ 93 ∷ 32 ∷ y)) ≡ Some (text (codes "[]"), y)
unfolding token_at front_token doubles singles
box y s = ap token_at (before 91 (93 ∷ 32 ∷ y) refl) ∙ bare_behind (codes "[]") (91 ∷ 93 ∷ 32 ∷ y) y s refl

pub dot : (y : List ℕ) → IsBare y → token_at (skip (32 ∷ 46 ∷ 32 ∷ y)) ≡ Some (text (codes "."), y)
unfolding token_at front_token doubles singles
dot y s = ap token_at (before 46 (32 ∷ y) refl) ∙ bare_behind (codes ".") (46 ∷ 32 ∷ y) y s refl

pub colon : (y : List ℕ) → IsBare y → token_at (skip (32 ∷ 58 ∷ 32 ∷ y)) ≡ Some (text (codes ":"), y)
unfolding token_at front_token doubles singles
colon y s = ap token_at (before 58 (32 ∷ y) refl) ∙ bare_behind (codes ":") (58 ∷ 32 ∷ y) y s refl

pub equals : (y : List ℕ) → IsBare y → token_at (skip (32 ∷ 61 ∷ 32 ∷ y)) ≡ Some (text (codes "="), y)
unfolding token_at front_token doubles singles
equals y s = ap token_at (before 61 (32 ∷ y) refl) ∙ bare_behind (codes "=") (61 ∷ 32 ∷ y) y s refl

pub bar : (y : List ℕ) → IsBare y → token_at (skip (32 ∷ 124 ∷ 32 ∷ y)) ≡ Some (text (codes "|"), y)
unfolding token_at front_token doubles singles
bar y s = ap token_at (before 124 (32 ∷ y) refl) ∙ bare_behind (codes "|") (124 ∷ 32 ∷ y) y s refl

pub block_opens : (y : List ℕ) → IsBare y → token_at (124 ∷ 91 ∷ 32 ∷ y) ≡ Some (text (codes "|["), y)
unfolding token_at front_token doubles singles
block_opens y s = bare_behind (codes "|[") (124 ∷ 91 ∷ 32 ∷ y) y s refl

pub block_closes : (r : List ℕ) → token_at (skip (32 ∷ 93 ∷ 124 ∷ r)) ≡ Some (text (codes "]|"), skip r)
unfolding token_at front_token doubles singles
block_closes r = ap token_at (before 93 (124 ∷ r) refl) ∙ refl

pub opens : (y : List ℕ) → IsBare y → token_at (40 ∷ y) ≡ Some (text (codes "("), y)
unfolding token_at front_token doubles singles
opens y s = ap (λ z. Some (text (codes "("), z)) s

pub closes : (r : List ℕ) → token_at (skip (41 ∷ r)) ≡ Some (text (codes ")"), skip r)
unfolding token_at front_token doubles singles
closes r = ap token_at (skip_none 41 r refl) ∙ refl

pub brace : (y : List ℕ) → IsBare y → token_at (123 ∷ y) ≡ Some (text (codes "{"), y)
unfolding token_at front_token doubles singles
brace y s = ap (λ z. Some (text (codes "{"), z)) s

pub brace_closes : (y : List ℕ) → IsBare y → token_at (skip (125 ∷ 32 ∷ y)) ≡ Some (text (codes "}"), y)
unfolding token_at front_token doubles singles
brace_closes y s = ap token_at (skip_none 125 (32 ∷ y) refl) ∙ bare_behind (codes "}") (125 ∷ 32 ∷ y) y s refl

-- behind arguments: with names, and with none
pub passes : (y : List ℕ) → IsBare y → token_at (skip (59 ∷ 32 ∷ y)) ≡ Some (text (codes ";"), y)
unfolding token_at front_token doubles singles
passes y s = ap token_at (skip_none 59 (32 ∷ y) refl) ∙ bare_behind (codes ";") (59 ∷ 32 ∷ y) y s refl

pub passes_none : (r : List ℕ) → token_at (skip (59 ∷ 41 ∷ r)) ≡ Some (text (codes ";"), 41 ∷ r)
unfolding token_at front_token doubles singles
passes_none r = ap token_at (skip_none 59 (41 ∷ r) refl) ∙ ap (λ z. Some (text (codes ";"), z)) (skip_none 41 r refl)

pub colon_alone : (y : List ℕ) → token_at (skip (58 ∷ 91 ∷ y)) ≡ Some (text (codes ":"), 91 ∷ y)
unfolding token_at front_token doubles singles
colon_alone y = ap token_at (skip_none 58 (91 ∷ y) refl) ∙ ap (λ z. Some (text (codes ":"), z)) (skip_none 91 y refl)

pub dot_alone : (y : List ℕ) → IsBare y → token_at (skip (46 ∷ y)) ≡ Some (text (codes "."), y)
unfolding token_at front_token doubles singles
dot_alone y s = ap token_at (skip_none 46 y refl) ∙ ap (λ z. Some (text (codes "."), z)) s

pub comma : (y : List ℕ) → IsBare y → token_at (skip (44 ∷ y)) ≡ Some (text (codes ","), y)
unfolding token_at front_token doubles singles
comma y s = ap token_at (skip_none 44 y refl) ∙ ap (λ z. Some (text (codes ","), z)) s

pub comma_space : (y : List ℕ) → IsBare y → token_at (skip (44 ∷ 32 ∷ y)) ≡ Some (text (codes ","), y)
unfolding token_at front_token doubles singles
comma_space y s = ap token_at (skip_none 44 (32 ∷ y) refl) ∙ bare_behind (codes ",") (44 ∷ 32 ∷ y) y s refl

pub closes_here : (r : List ℕ) → token_at (41 ∷ r) ≡ Some (text (codes ")"), skip r)
unfolding token_at front_token doubles singles
closes_here r = refl

square : (r : List ℕ) → ends r ≡ true → token_at (93 ∷ r) ≡ Some (text (codes "]"), skip r)
unfolding token_at front_token singles doubles
square [] e = refl
square (c ∷ x) e =
    let h : nat_eq c 124 ≡ false = grind (arith, nat_tests, e) in
    ap (λ z. option_map (with_next (93 ∷ c ∷ x)) (cond z (text_of 2 (93 ∷ c ∷ x)) (text_of 1 (93 ∷ c ∷ x)))) (shut_bracket c h)

pub square_closes : (r : List ℕ) → ends r ≡ true → token_at (skip (93 ∷ r)) ≡ Some (text (codes "]"), skip r)
square_closes r e = ap token_at (skip_none 93 r refl) ∙ square r e
