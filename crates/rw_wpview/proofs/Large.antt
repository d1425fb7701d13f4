-- A formula with a part that passes a limit passes it.
use Rattle.std.proofs.Common.{◌≡◌, ℕ, ◌+◌, ◌≤◌, max, Bool, true, false, Some, None, refl, sym, ap, ◌∙◌, arith, true≢false, leb-true, le-leb}
use Rattle.std.proofs.lemmas.Bool.{and_from, and_parts}
use Rattle.rw_terms.specs.declared.term.Formula.{Formula}
use Rattle.rw_terms.specs.declared.term.Formula.TheVariants as formula
use Rattle.rw_terms.specs.declared.term.Formula.TheOpen.{Formula-F}
use Rattle.rw_terms.specs.declared.term.Formula.TheFolds.{fold-roll-Formula}
use Rattle.rw_terms.specs.declared.term.Sort.{Sort}
use Rattle.rw_terms.specs.Size.{weight_step, depth_step, formula_weight, formula_depth}
use Rattle.rw_subst.specs.Leaves.{Leaves, rebuilt_formula}
use Rattle.rw_subst.proofs.Sizes.{formula_as_deep}
use Rattle.rw_faults.specs.Limits.{is_light, is_shallow, is_small}
use Rattle.rw_wpview.specs.Kept.{kept_if, kept}
use Rattle.rw_wpview.proofs.Weights.{formula_as_heavy}

-- what is neither heavier nor deeper than what is within the limits is so too
smaller : (f g : Formula) → formula_weight f ≤ formula_weight g → formula_depth f ≤ formula_depth g → is_small g ≡ true → is_small f ≡ true
smaller f g w d e =
    let light : formula_weight g ≤ 1024 = leb-true _ _ (and_parts (is_light g) (is_shallow g) e).0 in
    let shallow : formula_depth g ≤ 64 = leb-true _ _ (and_parts (is_light g) (is_shallow g) e).1 in
    and_from (is_light f) (is_shallow f) (le-leb _ _ (omega (arith, w, light))) (le-leb _ _ (omega (arith, d, shallow)))

-- so what is larger than what is given up is given up
larger : (f g : Formula) → formula_weight f ≤ formula_weight g → formula_depth f ≤ formula_depth g → None ≡ kept f → None ≡ kept g
larger f g w d none = go (is_small f) refl (is_small g) refl none
  where
    go : (a : Bool) → is_small f ≡ a → (b : Bool) → is_small g ≡ b → None ≡ kept_if a f → None ≡ kept_if b g
    go true i b j e = absurd (cc)
    go false i true j e = absurd (true≢false (sym (smaller f g w d j) ∙ i))
    go false i false j e = refl

-- what is kept is the formula
pub kept_is : (f g : Formula) → Some f ≡ kept g → f ≡ g
kept_is f g e = go (is_small g) e
  where
    go : (b : Bool) → Some f ≡ kept_if b g → f ≡ g
    go true e = cc
    go false e = absurd (cc)

-- a formula that passes a limit is given up
pub large_none : (f : Formula) → is_small f ≡ false → None ≡ kept f
large_none f e = ap (λ b. kept_if b f) (sym e)

pub and_left : (f g : Formula) → None ≡ kept f → None ≡ kept (formula.And f g)
and_left f g =
    let rolls = formula.rolls-And f g in
    let w : formula_weight (formula.And f g) ≡ formula_weight f + formula_weight g + 1 = ap formula_weight (sym rolls) ∙ fold-roll-Formula ℕ weight_step (Formula-F.And f g) in
    let d : formula_depth (formula.And f g) ≡ max (formula_depth f) (formula_depth g) + 1 = ap formula_depth (sym rolls) ∙ fold-roll-Formula ℕ depth_step (Formula-F.And f g) in
    larger f (formula.And f g) (omega (arith, w)) (omega (arith, d))

pub and_right : (f g : Formula) → None ≡ kept g → None ≡ kept (formula.And f g)
and_right f g =
    let rolls = formula.rolls-And f g in
    let w : formula_weight (formula.And f g) ≡ formula_weight f + formula_weight g + 1 = ap formula_weight (sym rolls) ∙ fold-roll-Formula ℕ weight_step (Formula-F.And f g) in
    let d : formula_depth (formula.And f g) ≡ max (formula_depth f) (formula_depth g) + 1 = ap formula_depth (sym rolls) ∙ fold-roll-Formula ℕ depth_step (Formula-F.And f g) in
    larger g (formula.And f g) (omega (arith, w)) (omega (arith, d))

pub imp_right : (f g : Formula) → None ≡ kept g → None ≡ kept (formula.Imp f g)
imp_right f g =
    let rolls = formula.rolls-Imp f g in
    let w : formula_weight (formula.Imp f g) ≡ formula_weight f + formula_weight g + 1 = ap formula_weight (sym rolls) ∙ fold-roll-Formula ℕ weight_step (Formula-F.Imp f g) in
    let d : formula_depth (formula.Imp f g) ≡ max (formula_depth f) (formula_depth g) + 1 = ap formula_depth (sym rolls) ∙ fold-roll-Formula ℕ depth_step (Formula-F.Imp f g) in
    larger g (formula.Imp f g) (omega (arith, w)) (omega (arith, d))

pub not_part : (f : Formula) → None ≡ kept f → None ≡ kept (formula.Not f)
not_part f =
    let rolls = formula.rolls-Not f in
    let w : formula_weight (formula.Not f) ≡ formula_weight f + 1 = ap formula_weight (sym rolls) ∙ fold-roll-Formula ℕ weight_step (Formula-F.Not f) in
    let d : formula_depth (formula.Not f) ≡ formula_depth f + 1 = ap formula_depth (sym rolls) ∙ fold-roll-Formula ℕ depth_step (Formula-F.Not f) in
    larger f (formula.Not f) (omega (arith, w)) (omega (arith, d))

pub all_part : (sort : Sort) (f : Formula) → None ≡ kept f → None ≡ kept (formula.All sort f)
all_part sort f =
    let rolls = formula.rolls-All sort f in
    let w : formula_weight (formula.All sort f) ≡ formula_weight f + 1 = ap formula_weight (sym rolls) ∙ fold-roll-Formula ℕ weight_step (Formula-F.All sort f) in
    let d : formula_depth (formula.All sort f) ≡ formula_depth f + 1 = ap formula_depth (sym rolls) ∙ fold-roll-Formula ℕ depth_step (Formula-F.All sort f) in
    larger f (formula.All sort f) (omega (arith, w)) (omega (arith, d))

pub rebuilt_large : (leaves : Leaves) (f : Formula) → None ≡ kept f → None ≡ kept (rebuilt_formula leaves f 0)
rebuilt_large leaves f = larger f (rebuilt_formula leaves f 0) (formula_as_heavy leaves f 0) (formula_as_deep leaves f 0)
