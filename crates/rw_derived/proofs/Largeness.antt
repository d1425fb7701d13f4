-- A formula with a part that passes a limit passes it.
use Rattle.std.proofs.Common.{◌≡◌, ℕ, ◌+◌, ◌≤◌, max, true, false, inl, inr, sym, ap, ◌∙◌, arith, true≢false, leb-true, le-leb}
use Rattle.std.proofs.lemmas.Bool.{and_from, and_parts, false_from_ne_true}
use Rattle.rw_terms.specs.declared.term.Formula.{Formula}
use Rattle.rw_terms.specs.declared.term.Formula.TheVariants as formula
use Rattle.rw_terms.specs.declared.term.Formula.TheOpen.{Formula-F}
use Rattle.rw_terms.specs.declared.term.Formula.TheFolds.{fold-roll-Formula}
use Rattle.rw_terms.specs.Size.{weight_step, depth_step, formula_weight, formula_depth}
use Rattle.rw_faults.specs.Limits.{is_light, is_shallow, is_small}
use Rattle.rw_programs.specs.declared.applied.ApplyError.{ApplyError}
use Rattle.rw_derived.specs.Making.{IsLargeRefusal}

-- both parts are within the limits where what they make is
parts_small : (f g : Formula) → is_small (formula.And f g) ≡ true → (is_small f ≡ true) × (is_small g ≡ true)
parts_small f g e =
    let rolls = formula.rolls-And f g in
    let w : formula_weight (formula.And f g) ≡ formula_weight f + formula_weight g + 1 = ap formula_weight (sym rolls) ∙ fold-roll-Formula ℕ weight_step (Formula-F.And f g) in
    let d : formula_depth (formula.And f g) ≡ max (formula_depth f) (formula_depth g) + 1 = ap formula_depth (sym rolls) ∙ fold-roll-Formula ℕ depth_step (Formula-F.And f g) in
    let light : formula_weight (formula.And f g) ≤ 1024 = leb-true _ _ (and_parts (is_light (formula.And f g)) (is_shallow (formula.And f g)) e).0 in
    let shallow : formula_depth (formula.And f g) ≤ 64 = leb-true _ _ (and_parts (is_light (formula.And f g)) (is_shallow (formula.And f g)) e).1 in (
      and_from (is_light f) (is_shallow f) (le-leb _ _ (omega (arith, w, light))) (le-leb _ _ (omega (arith, d, shallow))),
      and_from (is_light g) (is_shallow g) (le-leb _ _ (omega (arith, w, light))) (le-leb _ _ (omega (arith, d, shallow))),
    )

pub left_large : (f g : Formula) (e : ApplyError) → IsLargeRefusal f e → IsLargeRefusal (formula.And f g) e
left_large f g e (inl m) = inl m
left_large f g e (inr h) = inr (false_from_ne_true _ (λ s. true≢false (sym (parts_small f g s).0 ∙ h.0)), h.1)

pub right_large : (f g : Formula) (e : ApplyError) → IsLargeRefusal g e → IsLargeRefusal (formula.And f g) e
right_large f g e (inl m) = inl m
right_large f g e (inr h) = inr (false_from_ne_true _ (λ s. true≢false (sym (parts_small f g s).1 ∙ h.0)), h.1)
