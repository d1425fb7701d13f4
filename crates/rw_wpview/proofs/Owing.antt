-- What is answered of conditions.
use Rattle.std.proofs.Common.{◌≡◌, Bool, true, false, ◌&&◌, List, [], ◌∷◌, ◌++◌, Some, None, inl, inr, refl, ap, ◌∙◌}
use Rattle.rw_terms.specs.declared.term.Formula.{Formula}
use Rattle.rw_terms.specs.declared.scope.Entry.{Entry}
use Rattle.rw_terms.specs.declared.sequent.Sequent.{Sequent}
use Rattle.rw_faults.specs.Limits.{is_small}
use Rattle.rw_programs.specs.declared.applied.ApplyError.{ApplyError}
use Rattle.rw_programs.specs.declared.applied.ApplyError.TheVariants as apply_error
use Rattle.rw_programs.specs.declared.applied.Misfit.TheVariants as cause
use Rattle.rw_loops.specs.Limits.{sequent_within}
use Rattle.rw_wpview.specs.Conditions.{condition}
use Rattle.rw_wpview.specs.Kept.{kept_if, kept, are_within, Owes, OwesNot}

-- what is kept is within the limits
kept_small : (f g : Formula) → Some f ≡ kept g → (f ≡ g) × (is_small g ≡ true)
kept_small f g e = go (is_small g) refl e
  where
    go : (b : Bool) → is_small g ≡ b → Some f ≡ kept_if b g → (f ≡ g) × (is_small g ≡ true)
    go true i e = (cc, i)
    go false i e = absurd (cc)

given_up : (g : Formula) → None ≡ kept g → is_small g ≡ false
given_up g e = go (is_small g) refl e
  where
    go : (b : Bool) → is_small g ≡ b → None ≡ kept_if b g → is_small g ≡ false
    go true i e = absurd (cc)
    go false i e = i

one_of : (scope : List Entry) (f g : Formula) (a b : Bool) → is_small f ≡ a → is_small g ≡ b → are_within (condition scope f g ∷ []) ≡ (a && b)
one_of scope f g true true i j = rw (i, j) refl
one_of scope f g true false i j = rw (i, j) refl
one_of scope f g false b i j = rw i refl

pub owes_one : (scope : List Entry) (x y f g : Formula) (qs : List Sequent) → Some x ≡ kept f → Some y ≡ kept g → qs ≡ condition scope x y ∷ [] → Owes (condition scope f g ∷ []) qs
owes_one scope x y f g qs one other is =
    let l = kept_small x f one in let r = kept_small y g other in
    (is ∙ (λ i. condition scope (l.0 i) (r.0 i) ∷ []), one_of scope f g true true l.1 r.1)

pub left_past : (scope : List Entry) (f g : Formula) → None ≡ kept f → OwesNot (condition scope f g ∷ []) (apply_error.Misfit cause.TooLarge)
left_past scope f g none = inr (one_of scope f g false (is_small g) (given_up f none) refl, refl)

and_false : (a : Bool) → (a && false) ≡ false
and_false true = refl
and_false false = refl

pub right_past : (scope : List Entry) (f g : Formula) → None ≡ kept g → OwesNot (condition scope f g ∷ []) (apply_error.Misfit cause.TooLarge)
right_past scope f g none = inr (one_of scope f g (is_small f) false refl (given_up g none) ∙ and_false (is_small f), refl)

within_both : (v w : List Sequent) → are_within (v ++ w) ≡ (are_within v && are_within w)
within_both [] w = refl
within_both (q ∷ v) w = go (sequent_within q) (within_both v w)
  where
    go : (b : Bool) → are_within (v ++ w) ≡ (are_within v && are_within w) → (b && are_within (v ++ w)) ≡ ((b && are_within v) && are_within w)
    go true e = e
    go false e = refl

pub owes_both : (v w q r s : List Sequent) → Owes v q → Owes w r → s ≡ q ++ r → Owes (v ++ w) s
owes_both v w q r s one other is = (is ∙ (λ i. one.0 i ++ other.0 i), within_both v w ∙ ((λ i. one.1 i && other.1 i)))

pub not_first : (v w : List Sequent) (e : ApplyError) → OwesNot v e → OwesNot (v ++ w) e
not_first v w e (inl m) = inl m
not_first v w e (inr h) = inr (within_both v w ∙ ap (λ b. b && are_within w) h.0, h.1)

pub not_second : (v w : List Sequent) (e : ApplyError) → OwesNot w e → OwesNot (v ++ w) e
not_second v w e (inl m) = inl m
not_second v w e (inr h) = inr (within_both v w ∙ (ap (λ b. are_within v && b) h.0 ∙ and_false (are_within v)), h.1)
