-- Rounds of taking what is reached from what was taken before: as many as there are names settle it.
use Rattle.std.proofs.Common.{◌≡◌, ℕ, zero, suc, ◌+◌, ◌-◌, ◌<◌, ◌≤◌, Bool, true, false, ◌||◌, if◌then◌else◌, length, List, [], ◌∷◌, filter, refl, sym, ap, ◌∙◌, arith, inl, inr, ◌⊎◌, ⊎_elim}
use Rattle.std.specs.List.{list_any}
use Rattle.std.proofs.lemmas.Bool.{or_left, or_right}
use Rattle.rw_terms.specs.Validity.{Each}
use Rattle.rw_uses.specs.Rounds.{is_reached, taken_after}

-- what passes the one test passes the other
abbrev More : (List ℕ → Bool) → (List ℕ → Bool) → Type 0
More p q = (x : List ℕ) → p x ≡ true → q x ≡ true

or_true : (a b : Bool) → (a || b) ≡ true → (a ≡ true) ⊎ (b ≡ true)
or_true true b e = inl refl
or_true false b e = inr e

any_passed : (f q : List ℕ → Bool) (x : List ℕ) (xs : List (List ℕ)) (b : Bool) → list_any f (filter q xs) ≡ true → list_any f (if b then x ∷ filter q xs else filter q xs) ≡ true
any_passed f q x xs true e = or_right (f x) (list_any f (filter q xs)) e
any_passed f q x xs false e = e

pub any_more : (f p q : List ℕ → Bool) → More p q → (xs : List (List ℕ)) → list_any f (filter p xs) ≡ true → list_any f (filter q xs) ≡ true
any_more f p q h [] e = e
any_more f p q h (x ∷ xs) e = go (p x) refl e (any_more f p q h xs) where
  go : (b : Bool) → p x ≡ b → list_any f (if b then x ∷ filter p xs else filter p xs) ≡ true → (list_any f (filter p xs) ≡ true → list_any f (filter q xs) ≡ true) → list_any f (if q x then x ∷ filter q xs else filter q xs) ≡ true
  go true is g rest =
      ap (λ b. list_any f (if b then x ∷ filter q xs else filter q xs)) (h x is)
      ∙ ⊎_elim (λ (a : f x ≡ true). or_left (f x) (list_any f (filter q xs)) a) (λ (b : list_any f (filter p xs) ≡ true). or_right (f x) (list_any f (filter q xs)) (rest b)) (or_true (f x) (list_any f (filter p xs)) g)
  go false is g rest = any_passed f q x xs (q x) (rest g)

at_most : (p q : List ℕ → Bool) (x : List ℕ) (xs : List (List ℕ)) (b c : Bool) → (b ≡ true → c ≡ true) → length (filter p xs) ≤ length (filter q xs) →
    length (if b then x ∷ filter p xs else filter p xs) ≤ length (if c then x ∷ filter q xs else filter q xs)
at_most p q x xs true true h few = omega (arith, few)
at_most p q x xs true false h few = absurd (let f : false ≡ true = h refl in cc)
at_most p q x xs false true h few = omega (arith, few)
at_most p q x xs false false h few = few

-- more pass a weaker test
pub fewer : (p q : List ℕ → Bool) → More p q → (xs : List (List ℕ)) → length (filter p xs) ≤ length (filter q xs)
fewer p q h [] = omega arith
fewer p q h (x ∷ xs) = at_most p q x xs (p x) (q x) (h x) (fewer p q h xs)

same_by : (p q : List ℕ → Bool) (x : List ℕ) (xs : List (List ℕ)) (b c : Bool) → (b ≡ true → c ≡ true) → length (filter p xs) ≤ length (filter q xs) →
    (length (filter p xs) ≡ length (filter q xs) → filter p xs ≡ filter q xs) →
    length (if b then x ∷ filter p xs else filter p xs) ≡ length (if c then x ∷ filter q xs else filter q xs) → (if b then x ∷ filter p xs else filter p xs) ≡ (if c then x ∷ filter q xs else filter q xs)
same_by p q x xs true true h few rest e = let one : length (filter p xs) ≡ length (filter q xs) = omega (arith, e) in ap (λ ys. x ∷ ys) (rest one)
same_by p q x xs true false h few rest e = absurd (let f : false ≡ true = h refl in cc)
same_by p q x xs false true h few rest e = absurd (omega (arith, few, e))
same_by p q x xs false false h few rest e = rest e

-- where as many pass, the same pass
pub same : (p q : List ℕ → Bool) → More p q → (xs : List (List ℕ)) → length (filter p xs) ≡ length (filter q xs) → filter p xs ≡ filter q xs
same p q h [] e = refl
same p q h (x ∷ xs) e = same_by p q x xs (p x) (q x) (h x) (fewer p q h xs) (same p q h xs) e

-- no more pass than there are
pub at_most_all : (p : List ℕ → Bool) (xs : List (List ℕ)) → length (filter p xs) ≤ length xs
at_most_all p [] = omega arith
at_most_all p (x ∷ xs) = go (p x) (at_most_all p xs) where
  go : (b : Bool) → length (filter p xs) ≤ length xs → length (if b then x ∷ filter p xs else filter p xs) ≤ suc (length xs)
  go true h = omega (arith, h)
  go false h = omega (arith, h)

module _ (main : List ℕ → Bool) (entry : List ℕ → List ℕ → Bool) (order : List (List ℕ)) where
  abbrev reached : List (List ℕ) → List ℕ → Bool
  reached = is_reached main entry

  abbrev taken : ℕ → List (List ℕ)
  taken = taken_after main entry order

  -- what a round reaches, the next one does
  grows : (k : ℕ) → More (reached (taken k)) (reached (taken (suc k)))
  grows zero x e = ⊎_elim (λ (a : main x ≡ true). or_left (main x) (list_any (entry x) (taken 1)) a) (λ (b : false ≡ true). absurd (cc)) (or_true (main x) false e)
  grows (suc k) x e =
      ⊎_elim (λ (a : main x ≡ true). or_left (main x) (list_any (entry x) (taken (suc (suc k)))) a)
      (λ (b : list_any (entry x) (taken (suc k)) ≡ true). or_right (main x) (list_any (entry x) (taken (suc (suc k)))) (any_more (entry x) (reached (taken k)) (reached (taken (suc k))) (grows k) order b))
      (or_true (main x) (list_any (entry x) (taken (suc k))) e)

  no_more : (xs : List (List ℕ)) → length xs ≡ 0 → xs ≡ []
  no_more [] e = refl
  no_more (x ∷ xs) e = absurd (omega (arith, e))

  -- a round that takes as many as the one before takes the same
  pub same_taken : (k : ℕ) → length (taken (suc k)) ≡ length (taken k) → taken (suc k) ≡ taken k
  same_taken zero e = no_more (taken 1) e
  same_taken (suc k) e = sym (same (reached (taken k)) (reached (taken (suc k))) (grows k) order (sym e))

  more_taken : (k : ℕ) → length (taken k) ≤ length (taken (suc k))
  more_taken zero = omega arith
  more_taken (suc k) = fewer (reached (taken k)) (reached (taken (suc k))) (grows k) order

  settled_from : (k j : ℕ) → taken (suc k) ≡ taken k → taken (j + k) ≡ taken k
  settled_from k zero is = let e : 0 + k ≡ k = omega arith in ap taken e
  settled_from k (suc j) is = let e : suc j + k ≡ suc (j + k) = omega arith in ap taken e ∙ ap (λ names. filter (reached names) order) (settled_from k j is) ∙ is

  -- then all rounds that are left do
  pub settled : (k n : ℕ) → k ≤ n → length (taken (suc k)) ≡ length (taken k) → taken k ≡ taken n
  settled k n few is = let all : n - k + k ≡ n = omega (arith, few) in sym (settled_from k (n - k) (same_taken k is)) ∙ ap taken all

  -- before that each round takes one more
  many_or_settled : (k : ℕ) → (k ≤ length (taken k)) ⊎ (taken (suc k) ≡ taken k)
  many_or_settled zero = inl (omega arith)
  many_or_settled (suc k) =
      ⊎_elim (λ (h : k ≤ length (taken k)). by_length (length (taken (suc k))) h refl (more_taken k)) (λ (is : taken (suc k) ≡ taken k). inr (ap (λ names. filter (reached names) order) is)) (many_or_settled k)
    where
      one_more : (m n : ℕ) → m ≤ n → (n ≡ m) ⊎ (suc m ≤ n)
      one_more zero zero h = inl refl
      one_more zero (suc n) h = inr (omega arith)
      one_more (suc m) zero h = absurd (omega (arith, h))
      one_more (suc m) (suc n) h = ⊎_elim (λ (e : n ≡ m). inl (ap suc e)) (λ (l : suc m ≤ n). inr (omega (arith, l))) (one_more m n (omega (arith, h)))

      by_length : (n : ℕ) → k ≤ length (taken k) → length (taken (suc k)) ≡ n → length (taken k) ≤ n → (suc k ≤ length (taken (suc k))) ⊎ (taken (suc (suc k)) ≡ taken (suc k))
      by_length n h is more =
          ⊎_elim (λ (e : n ≡ length (taken k)). inr (ap (λ names. filter (reached names) order) (same_taken k (is ∙ e)))) (λ (l : suc (length (taken k)) ≤ n). inl (omega (arith, h, l, is))) (one_more (length (taken k)) n more)

  -- after as many rounds as there are names, a further one takes the same
  pub settled_at_last : taken (suc (length order)) ≡ taken (length order)
  settled_at_last =
      ⊎_elim (λ (h : length order ≤ length (taken (length order))). same_taken (length order) (let more = more_taken (length order) in let all = at_most_all (reached (taken (length order))) order in omega (arith, h, more, all)))
      (λ (is : taken (suc (length order)) ≡ taken (length order)). is) (many_or_settled (length order))

  -- where a round takes no more, what was taken is all that the rounds take
  pub stopped : (k n : ℕ) (names next : List (List ℕ)) → names ≡ taken k → next ≡ filter (reached names) order → length next ≡ length names → k < n → names ≡ taken n
  stopped k n names next is made same less =
      let again : length (taken (suc k)) ≡ length (taken k) = sym (ap length (made ∙ ap (λ ns. filter (reached ns) order) is)) ∙ same ∙ ap length is in
      is ∙ settled k n (omega (arith, less)) again

  -- a test that all pass which the project's own tree or what passes it uses is passed by all that are taken
  module _ (p : List ℕ → Bool) (own : (x : List ℕ) → main x ≡ true → p x ≡ true) (turn : (x y : List ℕ) → p y ≡ true → entry x y ≡ true → p x ≡ true) where
    from_entries : (x : List ℕ) (names : List (List ℕ)) → Each (λ y. p y ≡ true) names → list_any (entry x) names ≡ true → p x ≡ true
    from_entries x [] all e = absurd (cc)
    from_entries x (y ∷ names) all e = ⊎_elim (λ (a : entry x y ≡ true). turn x y all.0 a) (λ (b : list_any (entry x) names ≡ true). from_entries x names all.1 b) (or_true (entry x y) (list_any (entry x) names) e)

    reached_passes : (names : List (List ℕ)) → Each (λ y. p y ≡ true) names → (x : List ℕ) → reached names x ≡ true → p x ≡ true
    reached_passes names all x e = ⊎_elim (λ (a : main x ≡ true). own x a) (λ (b : list_any (entry x) names ≡ true). from_entries x names all b) (or_true (main x) (list_any (entry x) names) e)

    all_pass : (f : List ℕ → Bool) → ((x : List ℕ) → f x ≡ true → p x ≡ true) → (xs : List (List ℕ)) → Each (λ y. p y ≡ true) (filter f xs)
    all_pass f h [] = tt
    all_pass f h (x ∷ xs) = go (f x) refl (all_pass f h xs) where
      go : (b : Bool) → f x ≡ b → Each (λ y. p y ≡ true) (filter f xs) → Each (λ y. p y ≡ true) (if b then x ∷ filter f xs else filter f xs)
      go true is rest = (h x is, rest)
      go false is rest = rest

    pub taken_pass : (k : ℕ) → Each (λ y. p y ≡ true) (taken k)
    taken_pass zero = tt
    taken_pass (suc k) = all_pass (reached (taken k)) (reached_passes (taken k) (taken_pass k)) order
