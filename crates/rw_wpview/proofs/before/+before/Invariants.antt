use Rattle.std.proofs.Common.{◌≡◌, map, drop}
use Rattle.rw_terms.specs.declared.term.Formula.{Formula}
use Rattle.rw_subst.specs.Conj.{conj_with}
use Rattle.rw_wpview.specs.Kept.{kept}
use Rattle.rw_wpview.specs.Arms.{choice}
use Rattle.rw_wpview.proofs.before.+before.Given as goal

-- what is joined so far, and what is left makes the whole of it
abbrev pub invariant-before_arms-loop-arm : goal.invariant-before_arms-loop-arm
invariant-before_arms-loop-arm l = (f g : Formula) → l.after ≡ kept f → l.fn.so_far ≡ kept g → (h : Formula) × (l.so_far ≡ kept h) × (conj_with h (map (choice l.scope f) (drop l.arm-index l.arms)) ≡ conj_with g (map (choice l.scope f) l.arms))
