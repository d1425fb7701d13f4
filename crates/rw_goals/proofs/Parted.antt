-- The rules of the connectives, cut and dropping are sound.
use Rattle.std.proofs.Common.{ℕ, Bool, true, false, List, [], ◌∷◌}
use Rattle.rw_terms.specs.declared.term.Formula.{Formula}
use Rattle.rw_terms.specs.declared.term.Formula.TheOpen.{Formula-F}
use Rattle.rw_terms.specs.declared.sequent.Sequent.{Sequent}
use Rattle.rw_terms.specs.Truth.{Definition}
use Rattle.rw_terms.specs.Validity.{Valid}
use Rattle.rw_goals.specs.declared.connectives.Connective.{Connective}
use Rattle.rw_goals.specs.declared.connectives.Connective.TheVariants.{Not, And, Or, Imp}
use Rattle.rw_goals.specs.declared.library.Library.{Library}
use Rattle.rw_goals.specs.Premises.{effect, on_left, on_right, at_left, at_right}
use Rattle.rw_goals.specs.Connectives.{not_left, not_right, and_left, and_right, or_left, or_right, imp_left, imp_right, left_rule, right_rule}
use Rattle.rw_goals.specs.Cut.{cut_parts, cut, leave_out}
use Rattle.rw_goals.proofs.Sound.{AllValid, two_valid, refuted, one_refuted, LeftSound, RightSound, LeftLayer, RightLayer, by_left, by_right, at_left_sound, at_right_sound}

module _ (library : List Definition) where
  not_left_sound : LeftLayer library not_left
  not_left_sound (Formula-F.Not a) q v s0 s i j h left right = one_refuted library q [] (a ∷ []) v s0 s i j left right tt (h, tt)
  not_left_sound _ q v s0 s i j h left right = absurd v

  not_right_sound : RightLayer library not_right
  not_right_sound (Formula-F.Not a) q v s0 s i j deny left right =
      deny (λ h. one_refuted library q (a ∷ []) [] v s0 s i j left right (h, tt) tt)
  not_right_sound _ q v s0 s i j deny left right = absurd v

  and_left_sound : LeftLayer library and_left
  and_left_sound (Formula-F.And a b) q v s0 s i j h left right =
      one_refuted library q (a ∷ b ∷ []) [] v s0 s i j left right (h.0, (h.1, tt)) tt
  and_left_sound _ q v s0 s i j h left right = absurd v

  and_right_sound : RightLayer library and_right
  and_right_sound (Formula-F.And a b) q v s0 s i j deny left right =
      let p = two_valid library q (on_right (a ∷ [])) (on_right (b ∷ [])) v in
      refuted library q [] (a ∷ []) p.0 s0 s i j left right tt
      (λ h. refuted library q [] (b ∷ []) p.1 s0 s i j left right tt (λ k. deny (h, k), tt), tt)
  and_right_sound _ q v s0 s i j deny left right = absurd v

  or_left_sound : LeftLayer library or_left
  or_left_sound (Formula-F.Or a b) q v s0 s i j h left right =
      let p = two_valid library q (on_left (a ∷ [])) (on_left (b ∷ [])) v in
      h (
        λ k. refuted library q (a ∷ []) [] p.0 s0 s i j left right (k, tt) tt,
        λ k. refuted library q (b ∷ []) [] p.1 s0 s i j left right (k, tt) tt,
      )
  or_left_sound _ q v s0 s i j h left right = absurd v

  or_right_sound : RightLayer library or_right
  or_right_sound (Formula-F.Or a b) q v s0 s i j deny left right =
      deny (λ p. one_refuted library q [] (a ∷ b ∷ []) v s0 s i j left right tt (p.0, (p.1, tt)))
  or_right_sound _ q v s0 s i j deny left right = absurd v

  imp_left_sound : LeftLayer library imp_left
  imp_left_sound (Formula-F.Imp a b) q v s0 s i j h left right =
      let p = two_valid library q (on_right (a ∷ [])) (on_left (b ∷ [])) v in
      refuted library q [] (a ∷ []) p.0 s0 s i j left right tt
      (λ k. refuted library q (b ∷ []) [] p.1 s0 s i j left right (h k, tt) tt, tt)
  imp_left_sound _ q v s0 s i j h left right = absurd v

  imp_right_sound : RightLayer library imp_right
  imp_right_sound (Formula-F.Imp a b) q v s0 s i j deny left right =
      deny (λ h. absurd (one_refuted library q (a ∷ []) (b ∷ []) v s0 s i j left right (h, tt) (λ k. deny (λ _. k), tt)))
  imp_right_sound _ q v s0 s i j deny left right = absurd v

  left_rule_sound : (c : Connective) → LeftSound library (left_rule c)
  left_rule_sound Not = by_left library not_left not_left_sound
  left_rule_sound And = by_left library and_left and_left_sound
  left_rule_sound Or = by_left library or_left or_left_sound
  left_rule_sound Imp = by_left library imp_left imp_left_sound

  right_rule_sound : (c : Connective) → RightSound library (right_rule c)
  right_rule_sound Not = by_right library not_right not_right_sound
  right_rule_sound And = by_right library and_right and_right_sound
  right_rule_sound Or = by_right library or_right or_right_sound
  right_rule_sound Imp = by_right library imp_right imp_right_sound

  pub parted_left : (c : Connective) (q : Sequent) (n : ℕ) → AllValid library (at_left q n (left_rule c)) → Valid library q
  parted_left c = at_left_sound library (left_rule c) (left_rule_sound c)

  pub parted_right : (c : Connective) (q : Sequent) (n : ℕ) → AllValid library (at_right q n (right_rule c)) → Valid library q
  parted_right c = at_right_sound library (right_rule c) (right_rule_sound c)

  pub dropped_left : (q : Sequent) (n : ℕ) → AllValid library (at_left q n leave_out) → Valid library q
  dropped_left = at_left_sound library leave_out
      (λ f q v s0 s i j h left right. one_refuted library q [] [] v s0 s i j left right tt tt)

  pub dropped_right : (q : Sequent) (n : ℕ) → AllValid library (at_right q n leave_out) → Valid library q
  dropped_right = at_right_sound library leave_out
      (λ f q v s0 s i j h left right. one_refuted library q [] [] v s0 s i j left right tt tt)

  cut_at : (kept large : Bool) (f : Formula) (q : Sequent) → AllValid library (effect (cut_parts kept large f) q) → Valid library q
  cut_at false large f q v = absurd v
  cut_at true true f q v = absurd v
  cut_at true false f q v = λ s0 s i j left right.
      let p = two_valid library q (on_right (f ∷ [])) (on_left (f ∷ [])) v in
      refuted library q [] (f ∷ []) p.0 s0 s i j left right tt
      (λ h. refuted library q (f ∷ []) [] p.1 s0 s i j left right (h, tt) tt, tt)

  pub cut_sound : (l : Library) (f : Formula) (q : Sequent) → AllValid library (cut l f q) → Valid library q
  cut_sound l f q v = cut_at _ _ f q v
