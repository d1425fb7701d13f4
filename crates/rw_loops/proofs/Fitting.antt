-- When a law fits.
use Rattle.std.proofs.Common.{◌≡◌, Bool, true, false, if◌then◌else◌, Option, Some, None, refl}
use Rattle.rw_programs.specs.declared.applied.Applied.{Applied}
use Rattle.rw_programs.specs.declared.applied.Misfit.{Misfit}
use Rattle.rw_programs.specs.declared.applied.Misfit.TheVariants as cause
use Rattle.rw_laws.specs.Laws.{fits, misfit}
use Rattle.rw_loops.specs.Limits.{is_within}
use Rattle.rw_loops.specs.Laws.{law_with}

-- a law that fits has no cause against it, and what it makes is within the limits
pub fitting : (m : Option Misfit) (made a : Applied) → law_with m made ≡ fits a → (m ≡ None) × (is_within made ≡ true) × (made ≡ a)
fitting (Some x) made a e = absurd (cc)
fitting None made a e = go (is_within made) refl e
  where
    go : (b : Bool) → is_within made ≡ b → (if b then fits made else misfit cause.TooLarge) ≡ fits a → (◌≡◌ {A = Option Misfit} None None) × (is_within made ≡ true) × (made ≡ a)
    go true i e = (refl, i, cc)
    go false i e = absurd (cc)
