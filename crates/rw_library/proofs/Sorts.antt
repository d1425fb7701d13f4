-- The test of sorts of parameters tells whether they are the same.
use Rattle.std.proofs.Common.{◌≡◌, suc, ◌==◌, ◌&&◌, true, false, List, [], ◌∷◌, length, refl, sym, ap, ◌∙◌, true≢false}
use Rattle.std.proofs.lemmas.Bool.{eqb-true, eqb-false, eq-eqb, and_parts, and_right}
use Rattle.rw_terms.specs.declared.term.Sort.{Sort}
use Rattle.rw_terms.specs.declared.term.Sort.TheVariants.{Int, Array}
use Rattle.rw_terms.specs.Formed.{same_sort}
use Rattle.rw_terms.specs.Named.{Named}
use Rattle.rw_library.specs.Entries.{sorts_of}
use Rattle.rw_library.specs.Parameters.{same_sorts}

sorts_differ : (one other : List Named) → (length one ≡ length other → ⊥) → same_sorts (sorts_of one) (sorts_of other) ≡ false
sorts_differ [] [] h = absurd (h refl)
sorts_differ [] (q ∷ other) h = refl
sorts_differ (p ∷ one) [] h = refl
sorts_differ (p ∷ one) (q ∷ other) h = and_right (same_sort p.1 q.1) _ (sorts_differ one other (λ e. h (ap suc e)))

-- lists of different lengths have not the same sorts
pub lengths_differ : (one other : List Named) → (length one == length other) ≡ false → same_sorts (sorts_of one) (sorts_of other) ≡ false
lengths_differ one other e = sorts_differ one other (eqb-false (length one) (length other) e)

sort_same : (s t : Sort) → same_sort s t ≡ true → s ≡ t
sort_same Int Int e = refl
sort_same (Array m) (Array n) e = ap Array (eqb-true m n e)
sort_same Int (Array n) e = absurd (true≢false (sym e))
sort_same (Array m) Int e = absurd (true≢false (sym e))

sort_itself : (s : Sort) → same_sort s s ≡ true
sort_itself Int = refl
sort_itself (Array n) = eq-eqb n n refl

-- sorts that are found the same are the same
pub sorts_same : (ss ts : List Sort) → same_sorts ss ts ≡ true → ss ≡ ts
sorts_same [] [] e = refl
sorts_same [] (t ∷ ts) e = absurd (true≢false (sym e))
sorts_same (s ∷ ss) [] e = absurd (true≢false (sym e))
sorts_same (s ∷ ss) (t ∷ ts) e = let p = and_parts (same_sort s t) (same_sorts ss ts) e in λ i. sort_same s t p.0 i ∷ sorts_same ss ts p.1 i

sorts_themselves : (ss : List Sort) → same_sorts ss ss ≡ true
sorts_themselves [] = refl
sorts_themselves (s ∷ ss) = λ i. (sort_itself s i && sorts_themselves ss i)

-- the same sorts are found the same
pub sorts_found : (ss ts : List Sort) → ss ≡ ts → same_sorts ss ts ≡ true
sorts_found ss ts e = ap (same_sorts ss) (sym e) ∙ sorts_themselves ss
