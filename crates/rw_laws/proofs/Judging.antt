-- What a law says, from its tests.
use Rattle.std.proofs.Common.{◌≡◌, Bool, true, false, Option, Some, None, inr, sym, ap, subst}
use Rattle.rw_programs.specs.declared.prog.Prog.{Prog}
use Rattle.rw_programs.specs.declared.applied.Misfit.{Misfit}
use Rattle.rw_programs.specs.declared.applied.Misfit.TheVariants as cause
use Rattle.rw_programs.specs.declared.applied.ApplyError.{ApplyError}
use Rattle.rw_programs.specs.declared.applied.ApplyError.TheVariants as apply_error
use Rattle.rw_laws.specs.declared.premises.Premises.{Premises}
use Rattle.rw_laws.specs.Laws.{Law, fits, misfit, applied, law_with, FitsWith, MisfitsBy, Makes, IsRefusal}

module _ (first : Option Misfit) (small twice : Bool) (s : Prog) (p : Premises) where
  abbrev law : Law
  law = law_with first small twice s p

  pub fits_when : first ≡ None → small ≡ true → twice ≡ false → law ≡ fits (applied s p)
  fits_when e f g = (λ i. law_with (e i) (f i) (g i) s p)

  pub makes : first ≡ None → small ≡ true → twice ≡ false → (q : Premises) → q ≡ p → Makes law q
  makes e f g q is = subst (λ l. Makes l q) (sym (fits_when e f g)) (ap (λ r. r.children) is, ap (λ r. r.obligations) is)

  pub refused_first : (e : ApplyError) → (m : Misfit) × (first ≡ Some m) × (e ≡ apply_error.Misfit m) → IsRefusal law e
  refused_first e h = inr (subst (λ o. MisfitsBy (law_with o small twice s p) (λ m. e ≡ apply_error.Misfit m)) (sym h.1) h.2)

  pub refused_large : (e : ApplyError) → first ≡ None → small ≡ false → e ≡ apply_error.Misfit cause.TooLarge → IsRefusal law e
  refused_large e n f is = inr (subst (λ o. MisfitsBy (law_with o small twice s p) (λ m. e ≡ apply_error.Misfit m)) (sym n)
      (subst (λ b. MisfitsBy (law_with None b twice s p) (λ m. e ≡ apply_error.Misfit m)) (sym f) is))

  pub refused_twice : (e : ApplyError) → first ≡ None → small ≡ true → twice ≡ true → e ≡ apply_error.Misfit cause.Alias → IsRefusal law e
  refused_twice e n f t is = inr (subst (λ l. MisfitsBy l (λ m. e ≡ apply_error.Misfit m)) (sym (λ i. law_with (n i) (f i) (t i) s p)) is)

pub obligations_of : (law : Law) (q : Premises) → Makes law q → FitsWith law (λ a. q.obligations ≡ a.obligations)
obligations_of (fits a) q h = h.1
obligations_of (misfit m) q h = h
