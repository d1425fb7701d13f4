-- Many formulas joined are past the limit of depth.
use Rattle.std.proofs.Common.{◌≡◌, ℕ, suc, ◌+◌, ◌<◌, ◌≤◌, inl, inr, max, List, [], ◌∷◌, map, length, None, sym, ap, ◌∙◌, arith}
use Rattle.rw_terms.specs.declared.term.Term.{Term}
use Rattle.rw_terms.specs.declared.term.Formula.{Formula}
use Rattle.rw_terms.specs.declared.term.Formula.TheVariants as formula
use Rattle.rw_terms.specs.declared.term.Formula.TheOpen.{Formula-F}
use Rattle.rw_terms.specs.declared.term.Formula.TheFolds.{fold-roll-Formula}
use Rattle.rw_terms.specs.declared.sequent.Sequent.{Sequent}
use Rattle.rw_terms.specs.Named.{Named}
use Rattle.rw_terms.specs.Rules.{are_of}
use Rattle.rw_terms.specs.Size.{depth_step, formula_depth}
use Rattle.rw_subst.specs.Conj.{conj_with, conj, disj_with, disj}
use Rattle.rw_subst.specs.Leaves.{rebuilt_formula_step}
use Rattle.rw_subst.specs.Replaced.{changed_leaves, replaced_formula}
use Rattle.rw_subst.specs.declared.slot.Change.{Change}
use Rattle.rw_goals.specs.Sorting.{sort_of}
use Rattle.rw_quantifiers.specs.Quantified.{typed_left}
use Rattle.rw_quantifiers.proofs.Small.{instance_large}
use Rattle.rw_citations.specs.Conj.{statement, IsLong}
use Rattle.rw_citations.specs.Cited.{changes_for, for_terms, said_left}

-- how deep a formula is after a replacement
module _ (changes : List Change) where
  abbrev depth_after : Formula → ℕ
  depth_after f = formula_depth (replaced_formula changes f)

  and_after : (f g : Formula) → depth_after (formula.And f g) ≡ max (depth_after f) (depth_after g) + 1
  and_after f g =
      ap (λ x. depth_after x) (sym (formula.rolls-And f g))
      ∙ ap (λ h. formula_depth (h 0)) (fold-roll-Formula (ℕ → Formula) (rebuilt_formula_step (changed_leaves changes)) (Formula-F.And f g))
      ∙ ap formula_depth (sym (formula.rolls-And (replaced_formula changes f) (replaced_formula changes g)))
      ∙ fold-roll-Formula ℕ depth_step (Formula-F.And (replaced_formula changes f) (replaced_formula changes g))

  or_after : (f g : Formula) → depth_after (formula.Or f g) ≡ max (depth_after f) (depth_after g) + 1
  or_after f g =
      ap (λ x. depth_after x) (sym (formula.rolls-Or f g))
      ∙ ap (λ h. formula_depth (h 0)) (fold-roll-Formula (ℕ → Formula) (rebuilt_formula_step (changed_leaves changes)) (Formula-F.Or f g))
      ∙ ap formula_depth (sym (formula.rolls-Or (replaced_formula changes f) (replaced_formula changes g)))
      ∙ fold-roll-Formula ℕ depth_step (Formula-F.Or (replaced_formula changes f) (replaced_formula changes g))

  imp_after : (f g : Formula) → depth_after (formula.Imp f g) ≡ max (depth_after f) (depth_after g) + 1
  imp_after f g =
      ap (λ x. depth_after x) (sym (formula.rolls-Imp f g))
      ∙ ap (λ h. formula_depth (h 0)) (fold-roll-Formula (ℕ → Formula) (rebuilt_formula_step (changed_leaves changes)) (Formula-F.Imp f g))
      ∙ ap formula_depth (sym (formula.rolls-Imp (replaced_formula changes f) (replaced_formula changes g)))
      ∙ fold-roll-Formula ℕ depth_step (Formula-F.Imp (replaced_formula changes f) (replaced_formula changes g))

  one_more : (n a b d : ℕ) → d ≡ max a b + 1 → n ≤ a → suc n ≤ d
  one_more n a b d e h = omega arith

  conj_deep : (n : ℕ) (f : Formula) (fs : List Formula) → n ≤ depth_after f → n + length fs ≤ depth_after (conj_with f fs)
  conj_deep n f [] h = omega arith
  conj_deep n f (g ∷ gs) h = let r = conj_deep (suc n) (formula.And f g) gs (one_more n _ (depth_after g) _ (and_after f g) h) in omega arith

  disj_deep : (n : ℕ) (f : Formula) (fs : List Formula) → n ≤ depth_after f → n + length fs ≤ depth_after (disj_with f fs)
  disj_deep n f [] h = omega arith
  disj_deep n f (g ∷ gs) h = let r = disj_deep (suc n) (formula.Or f g) gs (one_more n _ (depth_after g) _ (or_after f g) h) in omega arith

  left_deep : (fs : List Formula) → 64 < length fs → 64 ≤ depth_after (conj fs)
  left_deep [] h = absurd (omega (arith, h))
  left_deep (f ∷ fs) h = let r = conj_deep 0 f fs (omega arith) in omega arith

  right_deep : (fs : List Formula) → 64 < length fs → 64 ≤ depth_after (disj fs)
  right_deep [] h = absurd (omega (arith, h))
  right_deep (f ∷ fs) h = let r = disj_deep 0 f fs (omega arith) in omega arith

  left_past : (a b d : ℕ) → d ≡ max a b + 1 → 64 ≤ a → 64 < d
  left_past a b d e h = omega arith

  right_past : (a b d : ℕ) → d ≡ max a b + 1 → 64 ≤ b → 64 < d
  right_past a b d e h = omega arith

  too_deep : (q : Sequent) → IsLong q → 64 < depth_after (statement q)
  too_deep q (inl h) = left_past _ (depth_after (disj q.right)) _ (imp_after (conj q.left) (disj q.right)) (left_deep q.left h)
  too_deep q (inr h) = right_past (depth_after (conj q.left)) _ _ (imp_after (conj q.left) (disj q.right)) (right_deep q.right h)

-- such a statement is past the limits for any terms
pub long_said : (names params : List Named) (ts : List Term) (q : Sequent) → IsLong q → said_left names params ts (statement q) ≡ typed_left (are_of (map (λ p. p.1) params) (map (sort_of names []) ts)) None
long_said names params ts q h = ap (typed_left (are_of (map (λ p. p.1) params) (map (sort_of names []) ts))) (instance_large (for_terms params ts (statement q)) (inr (too_deep (changes_for params ts) q h)))
