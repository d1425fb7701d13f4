-- What the law of a call says, from its tests.
use Rattle.std.proofs.Common.{◌≡◌, Bool, true, false, Option, Some, None, inl, inr, sym, ◌∙◌, subst}
use Rattle.rw_programs.specs.declared.applied.Applied.{Applied}
use Rattle.rw_programs.specs.declared.applied.Misfit.{Misfit}
use Rattle.rw_programs.specs.declared.applied.Misfit.TheVariants as cause
use Rattle.rw_programs.specs.declared.applied.ApplyError.{ApplyError}
use Rattle.rw_programs.specs.declared.applied.ApplyError.TheVariants as apply_error
use Rattle.rw_laws.specs.Laws.{Law, FitsWith, MisfitsBy, IsRefusal}
use Rattle.rw_procs.specs.Laws.{law_with, IsLimitRefusal}

pub refused_first : (first found : Option Misfit) (small earlier twice : Bool) (made : Applied) (e : ApplyError) → found ≡ first → (m : Misfit) × (found ≡ Some m) × (e ≡ apply_error.Misfit m) → IsRefusal (law_with first small earlier twice made) e
refused_first first found small earlier twice made e is h = inr (subst (λ o. MisfitsBy (law_with o small earlier twice made) (λ m. e ≡ apply_error.Misfit m)) (sym h.1 ∙ is) h.2)

pub refused_limit : (first : Option Misfit) (small earlier twice : Bool) (made : Applied) (e : ApplyError) → first ≡ None → IsLimitRefusal small e → IsRefusal (law_with first small earlier twice made) e
refused_limit first small earlier twice made e none (inl memory) = inl memory
refused_limit first small earlier twice made e none (inr past) =
    inr (subst (λ o. MisfitsBy (law_with o small earlier twice made) (λ m. e ≡ apply_error.Misfit m)) (sym none)
    (subst (λ b. MisfitsBy (law_with None b earlier twice made) (λ m. e ≡ apply_error.Misfit m)) (sym past.0) past.1))

pub refused_order : (first : Option Misfit) (small earlier twice : Bool) (made : Applied) (e : ApplyError) → first ≡ None → small ≡ true → (earlier ≡ false) × (e ≡ apply_error.Misfit cause.Order) → IsRefusal (law_with first small earlier twice made) e
refused_order first small earlier twice made e none is later =
    inr (subst (λ l. MisfitsBy l (λ m. e ≡ apply_error.Misfit m)) (sym (λ i. law_with (none i) (is i) (later.0 i) twice made)) later.1)

pub refused_twice : (first : Option Misfit) (small earlier twice : Bool) (made : Applied) (e : ApplyError) → first ≡ None → small ≡ true → earlier ≡ true → (twice ≡ true) × (e ≡ apply_error.Misfit cause.Alias) → IsRefusal (law_with first small earlier twice made) e
refused_twice first small earlier twice made e none is before two =
    inr (subst (λ l. MisfitsBy l (λ m. e ≡ apply_error.Misfit m)) (sym (λ i. law_with (none i) (is i) (before i) (two.0 i) made)) two.1)

pub makes : (first : Option Misfit) (small earlier twice : Bool) (made a : Applied) → first ≡ None → small ≡ true → earlier ≡ true → twice ≡ false → a ≡ made → FitsWith (law_with first small earlier twice made) (λ b. a ≡ b)
makes first small earlier twice made a none is before once same =
    subst (λ l. FitsWith l (λ b. a ≡ b)) (sym (λ i. law_with (none i) (is i) (before i) (once i) made)) same
