-- The digits of a number are read as it.
use Rattle.std.proofs.Common.{◌≡◌, ℕ, ◌+◌, ◌-◌, ◌*◌, ◌/◌, ◌%◌, ◌^◌, ◌≤◌, ◌<◌, true, false, cond, List, [], ◌∷◌, ◌++◌, Some, None, refl, sym, ap, ◌∙◌, subst, arith}
use Rattle.std.specs.Prelude.{leb, eqb, decimal}
use Rattle.std.specs.List.{list_all}
use Rattle.std.proofs.lemmas.Bool.Decides.{nat_tests}
use Rattle.std.proofs.lemmas.Fmt.{decimal_by_steps_wide}
use Rattle.std.proofs.lemmas.Bool.{and_parts, and_from, ne_eqb}
use Rattle.rw_terms.specs.Names.{is_digit}
use Rattle.rw_tokens.specs.Tokens.{value, leads_with_0, number_of}

pub record Digits (n : ℕ) (ds : List ℕ) : Type 0 where
  pub first : ℕ
  pub rest : List ℕ
  pub is : ds ≡ first ∷ rest
  pub digits : list_all is_digit ds ≡ true
  pub valued : value 0 ds ≡ n
  pub leads : leads_with_0 ds ≡ false
  pub nonzero : 1 ≤ n → eqb first 48 ≡ false

digit : (n : ℕ) → n < 10 → is_digit (48 + n) ≡ true
digit n h = grind (arith, nat_tests, h)

all_more : (ds : List ℕ) (d : ℕ) → list_all is_digit ds ≡ true → is_digit d ≡ true → list_all is_digit (ds ++ d ∷ []) ≡ true
all_more [] d h e = and_from (is_digit d) true e refl
all_more (c ∷ cs) d h e =
    let q = and_parts (is_digit c) (list_all is_digit cs) h in
    and_from (is_digit c) (list_all is_digit (cs ++ d ∷ [])) q.0 (all_more cs d q.1 e)

value_more : (n : ℕ) (ds : List ℕ) (d : ℕ) → value n (ds ++ d ∷ []) ≡ value n ds * 10 + (d - 48)
unfolding value
value_more n [] d = refl
value_more n (c ∷ cs) d = value_more (n * 10 + (c - 48)) cs d

leads_more : (c : ℕ) (cs : List ℕ) (d : ℕ) → eqb c 48 ≡ false → leads_with_0 (c ∷ (cs ++ d ∷ [])) ≡ false
leads_more c [] d e = e
leads_more c (b ∷ bs) d e = e

one_digit : (n : ℕ) → n < 10 → Digits n ((48 + n) ∷ [])
unfolding value
one_digit n h = record { first = 48 + n; rest = []; is = refl; digits = and_from (is_digit (48 + n)) true (digit n h) refl; valued = omega arith; leads = refl; nonzero = λ h. ne_eqb (48 + n) 48 (λ e. omega (arith, h, e)) }

one_more : (n : ℕ) (ds : List ℕ) → 10 ≤ n → Digits (n / 10) ds → Digits n (ds ++ ((48 + n % 10) ∷ []))
one_more n ds h s =
    let up : 1 ≤ n / 10 = omega arith in
    let low : n % 10 < 10 = omega arith in
    record {
      first = s.first;
      rest = s.rest ++ (48 + n % 10) ∷ [];
      is = ap (λ x. x ++ (48 + n % 10) ∷ []) s.is;
      digits = all_more ds (48 + n % 10) s.digits (digit (n % 10) low);
      valued = value_more 0 ds (48 + n % 10) ∙ ap (λ x. x * 10 + ((48 + n % 10) - 48)) s.valued ∙ omega arith;
      leads = subst (λ x. leads_with_0 (x ++ (48 + n % 10) ∷ []) ≡ false) (sym s.is) (leads_more s.first s.rest (48 + n % 10) (s.nonzero up));
      nonzero = λ _. s.nonzero up;
    }

pub decimal_digits : (n : ℕ) → n < 10 ^ 64 → Digits n (decimal n)
decimal_digits = decimal_by_steps_wide Digits one_digit one_more

-- and so a number that is not too large is a token
pub number_is : (n : ℕ) → leb n 170141183460469231731687303715884105727 ≡ true → n < 10 ^ 64 → number_of (decimal n) ≡ Some n
unfolding number_of
number_is n h k =
    let s = decimal_digits n k in
    ap (λ b. cond b None (cond (leb (value 0 (decimal n)) 170141183460469231731687303715884105727) (Some (value 0 (decimal n))) None)) s.leads
    ∙ ap (λ v. cond (leb v 170141183460469231731687303715884105727) (Some v) None) s.valued
    ∙ ap (λ b. cond b (Some n) None) h
