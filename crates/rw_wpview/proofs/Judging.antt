-- What is answered of a program, from what is answered of its conditions.
use Rattle.std.proofs.Common.{◌≡◌, Bool, true, false, List, Option, Some, None, inl, inr, Result, Ok, Err, refl, sym, ap, ◌∙◌, subst}
use Rattle.rw_terms.specs.declared.sequent.Sequent.{Sequent}
use Rattle.rw_programs.specs.declared.applied.Misfit.{Misfit}
use Rattle.rw_programs.specs.declared.applied.Misfit.TheVariants as cause
use Rattle.rw_programs.specs.declared.applied.ApplyError.{ApplyError}
use Rattle.rw_programs.specs.declared.applied.ApplyError.TheVariants as apply_error
use Rattle.rw_wpview.specs.Kept.{are_within, Owes, OwesNot}
use Rattle.rw_wpview.specs.Misfits.{or_behind, last_misfit, Views}

module _ (wanted : List Sequent) where
  pub judged_not : (twice : Bool) (e : ApplyError) → OwesNot wanted e → Views (last_misfit (are_within wanted) twice) wanted (Err e)
  judged_not twice e (inl m) = inl m
  judged_not twice e (inr h) = inr (cause.TooLarge, ap (λ b. last_misfit b twice) h.0, h.1)

  pub judged_twice : (qs : List Sequent) → Owes wanted qs → Views (last_misfit (are_within wanted) true) wanted (Err (apply_error.Misfit cause.Alias))
  judged_twice qs h = inr (cause.Alias, ap (λ b. last_misfit b true) h.1, refl)

  pub judged_good : (qs : List Sequent) → Owes wanted qs → Views (last_misfit (are_within wanted) false) wanted (Ok qs)
  judged_good qs h = (ap (λ b. last_misfit b false) h.1, h.0)

  pub first_is : (o : Option Misfit) (m : Misfit) (behind : Option Misfit) → o ≡ Some m → Views (or_behind o behind) wanted (Err (apply_error.Misfit m))
  first_is o m behind is = inr (m, ap (λ p. or_behind p behind) is, refl)

  pub none_first : (o behind last : Option Misfit) (r : Result (List Sequent) ApplyError) → o ≡ None → last ≡ behind → Views last wanted r → Views (or_behind o behind) wanted r
  none_first o behind last r none is = subst (λ p. Views p wanted r) (is ∙ ap (λ p. or_behind p behind) (sym none))
