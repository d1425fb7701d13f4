-- Lists gone through from the last item to the first.
use Rattle.std.proofs.Common.{◌≡◌, sym, ap, ◌∙◌, ℕ, suc, ◌+◌, ◌-◌, ◌<◌, List, ◌∷◌, drop, length, arith, Option, Some}
use Rattle.std.specs.Prelude.{Result, Ok}
use Rattle.std.proofs.Math.Seq.{drop-cons}
use Rattle.std.proofs.Math.ListN.{get_or}
use Rattle.rw_terms.specs.declared.term.Term.{Term}
use Rattle.rw_terms.specs.State.{Value, State as Map}
use Rattle.rw_evaluation.specs.declared.stop.Stop.{Stop}
use Rattle.rw_evaluation.specs.Evaluation.{Seen, seen, all_seen, two}

-- one item more
pub back_cons : {A : Type 0} (xs : List A) (b : ℕ) (x : A) → b < length xs → x ≡ get_or xs (length xs - 1 - b) x → drop (length xs - (b + 1)) xs ≡ x ∷ drop (length xs - b) xs
back_cons xs b x l e =
    let i : length xs - (b + 1) ≡ length xs - 1 - b = omega (arith, l) in
    let j : suc (length xs - 1 - b) ≡ length xs - b = omega (arith, l) in
    let k : length xs - 1 - b < length xs = omega (arith, l) in
    ap (λ n. drop n xs) i ∙ drop-cons xs (length xs - 1 - b) x k ∙ ap (λ y. y ∷ drop (suc (length xs - 1 - b)) xs) (sym e) ∙ ap (λ n. x ∷ drop n xs) j

-- one term more is seen
pub seen_before : (m : Map) (ts : List Term) (b : ℕ) (t : Term) → b < length ts → t ≡ get_or ts (length ts - 1 - b) t → (a : Seen) → a ≡ seen m t
    → (r : Result (List (Option Value)) Stop) → r ≡ all_seen m (drop (length ts - b) ts) → two a r (λ v vs. Ok (Some v ∷ vs)) ≡ all_seen m (drop (length ts - (b + 1)) ts)
seen_before m ts b t l e a i r j =
    ap (λ a. two a r (λ v vs. Ok (Some v ∷ vs))) i ∙ ap (λ r. two (seen m t) r (λ v vs. Ok (Some v ∷ vs))) j ∙ sym (ap (all_seen m) (back_cons ts b t l e))
