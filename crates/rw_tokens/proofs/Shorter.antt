-- A token takes bytes, so that reading ends.
use Rattle.std.proofs.Common.{◌≡◌, ℕ, ◌+◌, ◌≤◌, ◌<◌, Bool, true, false, cond, List, [], ◌∷◌, length, drop, take, Option, Some, None, refl, ap, arith, length-drop}
use Rattle.std.specs.Prelude.{leb, eqb, ◌||◌, option_map}
use Rattle.std.specs.List.{prefix_len}
use Rattle.rw_terms.specs.Names.{is_letter, is_digit, goes_on}
use Rattle.rw_tokens.specs.Tokens.{Token, text, number, binder, skip, number_of, is_among, doubles, singles, word_of, digits_of, binder_of, from_1, symbol_of, front_token, with_next, token_at, is_blank}
use Rattle.rw_syntax.proofs.Choices.{some_is}

abbrev sized : Token → ℕ → Option (Token × ℕ)
sized t n = Some (t, n)

same_size : (t u : Token) (n m : ℕ) → sized t n ≡ sized u m → n ≡ m
same_size t u n m e = ap (λ p. p.1) (some_is e)

abbrev number_sized : ℕ → ℕ → Token × ℕ
number_sized n k = (number k, n)

one_of : (p : ℕ → Bool) (b : ℕ) (bs : List ℕ) → p b ≡ true → 1 ≤ prefix_len p (b ∷ bs)
one_of p b bs e = let k : prefix_len p (b ∷ bs) ≡ 1 + prefix_len p bs = ap (λ x. cond x (1 + prefix_len p bs) 0) e in omega arith

word_takes : (b : ℕ) (bs : List ℕ) (t : Token) (n : ℕ) → is_letter b ≡ true → word_of (b ∷ bs) ≡ sized t n → 1 ≤ n
word_takes b bs t n l e = let h = one_of goes_on b bs (ap (λ x. x || is_digit b || eqb b 95) l) in let k : prefix_len goes_on (b ∷ bs) ≡ n = same_size (text (take (prefix_len goes_on (b ∷ bs)) (b ∷ bs))) t _ n e in omega arith

digits_take : (b : ℕ) (bs : List ℕ) (t : Token) (n : ℕ) → is_digit b ≡ true → digits_of (b ∷ bs) ≡ sized t n → 1 ≤ n
digits_take b bs t n d e = go (number_of (take (prefix_len is_digit (b ∷ bs)) (b ∷ bs))) e
  where
    go : (o : Option ℕ) → option_map (number_sized (prefix_len is_digit (b ∷ bs))) o ≡ sized t n → 1 ≤ n
    go None h = absurd (cc)
    go (Some v) h = let x = one_of is_digit b bs d in let k : prefix_len is_digit (b ∷ bs) ≡ n = same_size (number v) t _ n h in omega arith

binder_takes : (k : ℕ) (o : Option ℕ) (t : Token) (n : ℕ) → from_1 k o ≡ sized t n → 1 ≤ n
binder_takes k None t n e = absurd (cc)
binder_takes k (Some v) t n e = go (leb 1 v) e
  where
    go : (b : Bool) → cond b (sized (binder v) (k + 1)) None ≡ sized t n → 1 ≤ n
    go true h = let x : k + 1 ≡ n = same_size (binder v) t _ n h in omega arith
    go false h = absurd (cc)

symbol_takes : (l : List ℕ) (t : Token) (n : ℕ) (a b : Bool) → cond a (sized (text (take 2 l)) 2) (cond b (sized (text (take 1 l)) 1) None) ≡ sized t n → 1 ≤ n
symbol_takes l t n true b e = let x : 2 ≡ n = same_size (text (take 2 l)) t 2 n e in omega arith
symbol_takes l t n false true e = let x : 1 ≡ n = same_size (text (take 1 l)) t 1 n e in omega arith
symbol_takes l t n false false e = absurd (cc)

front_takes : (l : List ℕ) (t : Token) (n : ℕ) → front_token l ≡ sized t n → (1 ≤ length l) × (1 ≤ n)
unfolding front_token
front_takes [] t n e = absurd (cc)
front_takes (b ∷ bs) t n e = (omega arith, go (is_letter b) refl (is_digit b) refl (eqb b 95) e)
  where
    go : (x : Bool) → is_letter b ≡ x → (y : Bool) → is_digit b ≡ y → (z : Bool) → cond x (word_of (b ∷ bs)) (cond y (digits_of (b ∷ bs)) (cond z (binder_of bs) (symbol_of (b ∷ bs)))) ≡ sized t n → 1 ≤ n
    go true p y q z h = word_takes b bs t n p h
    go false p true q z h = digits_take b bs t n q h
    go false p false q true h = binder_takes (prefix_len is_digit bs) (number_of (take (prefix_len is_digit bs) bs)) t n h
    go false p false q false h = symbol_takes (b ∷ bs) t n (is_among doubles (take 2 (b ∷ bs))) (is_among singles (take 1 (b ∷ bs))) h

pub skip_less : (l : List ℕ) → length (skip l) ≤ length l
unfolding skip
skip_less l = omega (arith, length-drop (prefix_len is_blank l) l)

pub shortens : (here : List ℕ) (t : Token) (behind : List ℕ) → token_at here ≡ Some (t, behind) → length behind < length here
unfolding token_at
shortens here t behind e = go (front_token here) refl e
  where
    go : (o : Option (Token × ℕ)) → front_token here ≡ o → option_map (with_next here) o ≡ Some (t, behind) → length behind < length here
    go None z h = absurd (cc)
    go (Some p) z h =
        let k = front_takes here p.0 p.1 z in
        let same : skip (drop p.1 here) ≡ behind = ap (λ q. q.1) (some_is h) in
        let a = skip_less (drop p.1 here) in
        let b = length-drop p.1 here in
        let c : length (skip (drop p.1 here)) ≡ length behind = ap length same in
        omega arith

-- the next token stands further on
pub moves_on : (line : List ℕ) (at next : ℕ) (t : Token) → token_at (drop at line) ≡ Some (t, drop next line) → at < next
moves_on line at next t e = let a = shortens (drop at line) t (drop next line) e in let b = length-drop at line in let c = length-drop next line in omega arith

-- and so further on than an earlier place
pub further : (line : List ℕ) (start at next : ℕ) (t : Token) → start ≤ at → token_at (drop at line) ≡ Some (t, drop next line) → start ≤ next
further line start at next t h e = let m = moves_on line at next t e in omega arith
