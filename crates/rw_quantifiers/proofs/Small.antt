-- The limits of an instance.
use Rattle.std.proofs.Common.{◌≡◌, Some, None, ap, ◌<◌, ◌⊎◌, inl, inr}
use Rattle.std.proofs.lemmas.Bool.{lt-ltb, le-ltb, or_from, or_left, or_right}
use Rattle.rw_terms.specs.declared.term.Formula.{Formula}
use Rattle.rw_terms.specs.Size.{formula_weight, formula_depth}
use Rattle.rw_terms.specs.WellFormed.{IsSmallFormula}
use Rattle.rw_goals.specs.Cut.{is_large}
use Rattle.rw_quantifiers.specs.Quantified.{if_small}

-- a formula within the limits is there
pub instance_found : (f : Formula) → IsSmallFormula f → if_small (is_large f) f ≡ Some f
instance_found f h = ap (λ b. if_small b f) (or_from _ _ (le-ltb 1024 (formula_weight f) h.0) (le-ltb 64 (formula_depth f) h.1))

-- and one past a limit is not
pub instance_large : (f : Formula) → (1024 < formula_weight f) ⊎ (64 < formula_depth f) → if_small (is_large f) f ≡ None
instance_large f (inl h) = ap (λ b. if_small b f) (or_left _ _ (lt-ltb 1024 (formula_weight f) h))
instance_large f (inr h) = ap (λ b. if_small b f) (or_right _ _ (lt-ltb 64 (formula_depth f) h))
