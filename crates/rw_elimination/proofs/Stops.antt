-- Rows up to the first that ends the elimination.
use Rattle.std.proofs.Common.{◌≡◌, ℕ, ◌+◌, ◌≤◌, leb, Bool, true, false, cond, ◌||◌, List, [], ◌∷◌, ◌++◌, length, refl, sym, ap, ◌∙◌, true≢false, arith}
use Rattle.std.proofs.lemmas.List.{append-nil, append_assoc, length-append}
use Rattle.rw_arith.specs.Lines.{is_contradiction}
use Rattle.rw_elimination.specs.declared.row.Row.{Row}
use Rattle.rw_elimination.specs.declared.row.Row.TheVariants.{Wide, Long, Fits}
use Rattle.rw_elimination.specs.Elimination.{ends, some_ends, until}

until_case : (b : Bool) (n : ℕ) (r : Row) (xs ys more : List Row) → ends n r ≡ b → (some_ends (n + 1) xs ≡ false → until (n + 1) (xs ++ ys) ≡ xs ++ more) → (some_ends (n + 1) xs ≡ true → until (n + 1) (xs ++ ys) ≡ until (n + 1) xs) →
    ((b || some_ends (n + 1) xs) ≡ false → (r ∷ cond b [] (until (n + 1) (xs ++ ys))) ≡ r ∷ (xs ++ more)) × ((b || some_ends (n + 1) xs) ≡ true → (r ∷ cond b [] (until (n + 1) (xs ++ ys))) ≡ r ∷ cond b [] (until (n + 1) xs))
until_case true n r xs ys more e goes stops = ((λ k. absurd (true≢false k)), (λ k. refl))
until_case false n r xs ys more e goes stops = ((λ k. ap (λ zs. r ∷ zs) (goes k)), (λ k. ap (λ zs. r ∷ zs) (stops k)))

abbrev Splits : ℕ → List Row → List Row → Type 0
Splits n xs ys = (some_ends n xs ≡ false → until n (xs ++ ys) ≡ xs ++ until (n + length xs) ys) × (some_ends n xs ≡ true → until n (xs ++ ys) ≡ until n xs)

until_splits : (xs ys : List Row) (n : ℕ) → Splits n xs ys
until_splits [] ys n = ((λ k. ap (λ m. until m ys) (no_more n)), (λ k. absurd (true≢false (sym k))))
  where
    no_more : (n : ℕ) → n ≡ n + 0
    no_more n = omega arith
until_splits (r ∷ xs) ys n =
    let ih = until_splits xs ys (n + 1) in
    until_case (ends n r) n r xs ys (until (n + length (r ∷ xs)) ys) refl (λ k. ih.0 k ∙ ap (λ m. xs ++ until m ys) (one_on n xs)) ih.1
  where
    one_on : (n : ℕ) (xs : List Row) → (n + 1) + length xs ≡ n + length (r ∷ xs)
    one_on n xs = omega arith

-- where none of the first rows ends it, all of them are there
pub all_there : (n : ℕ) (xs : List Row) → some_ends n xs ≡ false → until n xs ≡ xs
all_there n xs k = ap (until n) (sym (append-nil xs)) ∙ (until_splits xs [] n).0 k ∙ append-nil xs

or_case : (a b c : Bool) → (a || (b || c)) ≡ ((a || b) || c)
or_case true b c = refl
or_case false b c = refl

pub ends_split : (xs ys : List Row) (n : ℕ) → some_ends n (xs ++ ys) ≡ (some_ends n xs || some_ends (n + length xs) ys)
ends_split [] ys n = ap (λ m. some_ends m ys) (no_more n)
  where
    no_more : (n : ℕ) → n ≡ n + 0
    no_more n = omega arith
ends_split (r ∷ xs) ys n =
    ap (λ b. ends n r || b) (ends_split xs ys (n + 1) ∙ ap (λ m. some_ends (n + 1) xs || some_ends m ys) (one_on n xs)) ∙ or_case (ends n r) (some_ends (n + 1) xs) (some_ends (n + length (r ∷ xs)) ys)
  where
    one_on : (n : ℕ) (xs : List Row) → (n + 1) + length xs ≡ n + length (r ∷ xs)
    one_on n xs = omega arith

module _ (n : ℕ) (made next xs ys rest : List Row) (called : next ≡ made ++ until n xs) (is : rest ≡ xs ++ ys) where
  -- one of the next rows ends it
  pub stop_rows : (all : List Row) → some_ends n xs ≡ true → made ++ until n rest ≡ all → next ≡ all
  stop_rows all k h = called ∙ ap (λ zs. made ++ zs) (sym (ap (until n) is ∙ (until_splits xs ys n).1 k)) ∙ h

  pub stop_ended : (b : Bool) → some_ends n xs ≡ true → some_ends n rest ≡ b → true ≡ b
  stop_ended b k h = ap (λ a. a || some_ends (n + length xs) ys) (sym k) ∙ sym (ends_split xs ys n) ∙ ap (some_ends n) (sym is) ∙ h

  -- none of them does
  pub longer : some_ends n xs ≡ false → length next ≡ length made + length xs
  longer k = ap length (called ∙ ap (λ zs. made ++ zs) (all_there n xs k)) ∙ length-append made xs

  pub go_rows : (all : List Row) (m : ℕ) → m ≡ n + length xs → some_ends n xs ≡ false → made ++ until n rest ≡ all → next ++ until m ys ≡ all
  go_rows all m e k h =
      (λ i. (called ∙ ap (λ zs. made ++ zs) (all_there n xs k)) i ++ until (e i) ys) ∙ append_assoc made xs (until (n + length xs) ys)
      ∙ ap (λ zs. made ++ zs) (sym (ap (until n) is ∙ (until_splits xs ys n).0 k)) ∙ h

  pub go_ended : (b : Bool) (m : ℕ) → m ≡ n + length xs → some_ends n xs ≡ false → some_ends n rest ≡ b → some_ends m ys ≡ b
  go_ended b m e k h =
      ap (λ z. some_ends z ys) e ∙ ap (λ a. a || some_ends (n + length xs) ys) (sym k) ∙ sym (ends_split xs ys n) ∙ ap (some_ends n) (sym is) ∙ h

room_left : (b : Bool) (n : ℕ) → leb 4096 n ≡ b → b ≡ false → n + 1 ≤ 4096
room_left b n e k = let f : leb 4096 n ≡ false = e ∙ k in grind (arith, f)

row_room : (r : Row) (n : ℕ) → ends n r ≡ false → leb 4096 n ≡ false
row_room Wide n k = absurd (true≢false k)
row_room Long n k = absurd (true≢false k)
row_room (Fits i) n k = by_case (leb 4096 n) k
  where
    by_case : (b : Bool) → (b || is_contradiction i.summands) ≡ false → b ≡ false
    by_case true h = h
    by_case false h = refl

both_false : (a b : Bool) → (a || b) ≡ false → (a ≡ false) × (b ≡ false)
both_false true b h = absurd (true≢false h)
both_false false b h = (refl, h)

-- rows none of which ends it are at most 4096
pub few_rows : (xs : List Row) (n : ℕ) → n ≤ 4096 → some_ends n xs ≡ false → n + length xs ≤ 4096
few_rows [] n h k = omega arith
few_rows (r ∷ xs) n h k =
    let parts = both_false (ends n r) (some_ends (n + 1) xs) k in
    let ih = few_rows xs (n + 1) (room_left (leb 4096 n) n refl (row_room r n parts.0)) parts.1 in omega arith

pub until_goes : (xs ys : List Row) (n : ℕ) → some_ends n xs ≡ false → until n (xs ++ ys) ≡ xs ++ until (n + length xs) ys
until_goes xs ys n = (until_splits xs ys n).0

pub until_stops : (xs ys : List Row) (n : ℕ) → some_ends n xs ≡ true → until n (xs ++ ys) ≡ until n xs
until_stops xs ys n = (until_splits xs ys n).1

-- at most one row more than that is looked at
pub until_few : (xs : List Row) (n : ℕ) → n ≤ 4096 → n + length (until n xs) ≤ 4097
until_few [] n h = omega arith
until_few (r ∷ xs) n h = by_case (ends n r) refl (λ room. until_few xs (n + 1) room)
  where
    by_case : (b : Bool) → ends n r ≡ b → (n + 1 ≤ 4096 → (n + 1) + length (until (n + 1) xs) ≤ 4097) → n + length (r ∷ cond b [] (until (n + 1) xs)) ≤ 4097
    by_case true e ih = omega arith
    by_case false e ih = let more = ih (room_left (leb 4096 n) n refl (row_room r n e)) in omega arith
