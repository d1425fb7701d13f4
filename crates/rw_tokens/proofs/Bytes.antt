-- Slices of a line.
use Rattle.std.proofs.Common.{◌≡◌, ℕ, ◌-◌, ◌≤◌, Bool, List, length, take, drop, arith, length-drop}
use Rattle.std.specs.List.{prefix_len}
use Rattle.std.proofs.lemmas.List.{take_all}
use Rattle.std.proofs.lemmas.List.Sums.{prefix_len-le-length}

pub front_within : (p : ℕ → Bool) (xs : List ℕ) → prefix_len p xs ≤ length xs
front_within p xs = prefix_len-le-length p xs

-- what `&xs[n..]` is
pub behind_is : (xs : List ℕ) (n : ℕ) → take (length xs - n) (drop n xs) ≡ drop n xs
behind_is xs n = take_all (length xs - n) (drop n xs) (omega (arith, length-drop {A = ℕ}))
