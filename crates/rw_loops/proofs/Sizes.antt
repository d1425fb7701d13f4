-- A comparison with a term that passes a limit passes it.
use Rattle.std.proofs.Common.{◌≡◌, ℕ, ◌+◌, ◌<◌, ◌≤◌, ◌⊎◌, inl, inr, max, false, sym, ap, ◌∙◌, subst, arith, leb-true}
use Rattle.std.proofs.lemmas.Bool.{and_parts, false_from_ne_true}
use Rattle.rw_terms.specs.declared.term.Term.{Term}
use Rattle.rw_terms.specs.declared.term.Formula.TheVariants as formula
use Rattle.rw_terms.specs.declared.term.Formula.TheOpen.{Formula-F}
use Rattle.rw_terms.specs.declared.term.Formula.TheFolds.{fold-roll-Formula}
use Rattle.rw_terms.specs.Size.{term_weight, term_depth, weight_step, depth_step, formula_weight, formula_depth}
use Rattle.rw_subst.specs.declared.error.SubstError.{SubstError}
use Rattle.rw_subst.specs.declared.error.SubstError.TheVariants.{TooLarge}
use Rattle.rw_subst.specs.Limits.{IsTermRefusal}
use Rattle.rw_faults.specs.Limits.{is_light, is_shallow, is_small}

less_weight : (t u : Term) → formula_weight (formula.Less t u) ≡ term_weight t + term_weight u + 1
less_weight t u = ap formula_weight (sym (formula.rolls-Less t u)) ∙ fold-roll-Formula _ weight_step (Formula-F.Less t u)

less_depth : (t u : Term) → formula_depth (formula.Less t u) ≡ max (term_depth t) (term_depth u) + 1
less_depth t u = ap formula_depth (sym (formula.rolls-Less t u)) ∙ fold-roll-Formula _ depth_step (Formula-F.Less t u)

passed : (t u : Term) → formula_weight (formula.Less t u) ≤ 1024 → formula_depth (formula.Less t u) ≤ 64 → (1024 < term_weight u) ⊎ (64 < term_depth u) → ⊥
passed t u light shallow (inl h) = let w = less_weight t u in omega (arith, w, light, h)
passed t u light shallow (inr h) = let d = less_depth t u in omega (arith, d, shallow, h)

less_large : (t u : Term) → (1024 < term_weight u) ⊎ (64 < term_depth u) → is_small (formula.Less t u) ≡ false
less_large t u h =
    let l = formula.Less t u in
    false_from_ne_true (is_small l) (λ e. passed t u (leb-true _ _ (and_parts (is_light l) (is_shallow l) e).0) (leb-true _ _ (and_parts (is_light l) (is_shallow l) e).1) h)

-- a comparison with a term that is refused as too large
pub refused : (t u : Term) (e : SubstError) (n : ℕ) → e ≡ TooLarge n → IsTermRefusal u e → is_small (formula.Less t u) ≡ false
refused t u e n is r = less_large t u (subst (λ e. IsTermRefusal u e) is r).1
