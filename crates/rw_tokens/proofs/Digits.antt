-- The value of digits.
use Rattle.std.proofs.Common.{◌≡◌, ℕ, ◌+◌, ◌-◌, ◌*◌, ◌/◌, ◌<◌, ◌≤◌, true, false, cond, List, [], ◌∷◌, length, get_or, drop, Some, None, arith, sym, ap, ◌∙◌}
use Rattle.std.specs.Prelude.{leb}
use Rattle.std.proofs.lemmas.List.{drop_more, drop_all}
use Rattle.std.proofs.lemmas.Bool.{le-leb, lt-leb}
use Rattle.rw_tokens.specs.Tokens.{value}

pub value_least : (n : ℕ) (ds : List ℕ) → n ≤ value n ds
unfolding value
value_least n [] = omega arith
value_least n (b ∷ bs) = let h = value_least (n * 10 + (b - 48)) bs in omega (arith, h)

pub too_large : (n d most v : ℕ) (rest : List ℕ) → value (n * 10 + d) rest ≡ v → (most - d) / 10 < n → leb v most ≡ false
too_large n d most v rest e h = lt-leb v most (let k = value_least (n * 10 + d) rest in omega (arith, k))

-- one more digit
pub value_step : (n d : ℕ) (ds : List ℕ) (i : ℕ) → i < length ds → d ≡ get_or ds i 0 - 48 → value n (drop i ds) ≡ value (n * 10 + d) (drop (i + 1) ds)
unfolding value
value_step n d ds i h e = ap (value n) (drop_more ds i 0 h) ∙ ap (λ x. value (n * 10 + x) (drop (i + 1) ds)) (sym e)

-- no more digits
pub value_end : (n : ℕ) (ds : List ℕ) (i : ℕ) → length ds ≤ i → value n (drop i ds) ≡ n
unfolding value
value_end n ds i h = ap (value n) (drop_all i ds h)

pub fits : (n v most : ℕ) → n ≡ v → n ≤ most → Some n ≡ cond (leb v most) (Some v) None
fits n v most e h = ap Some e ∙ ap (λ b. cond b (Some v) None) {x = true} {y = leb v most} (sym (le-leb v most (let k : v ≤ most = omega arith in k)))
