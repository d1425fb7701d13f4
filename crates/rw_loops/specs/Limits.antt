-- The limits of what a law makes.
use Rattle.std.specs.Prelude.{◌≡◌, ◌⊎◌, Bool, false, ◌&&◌, nat_le, length}
use Rattle.std.specs.List.{list_all}
use Rattle.rw_terms.specs.declared.sequent.Sequent.{Sequent}
use Rattle.rw_faults.specs.Limits.{is_small}
use Rattle.rw_programs.specs.declared.prog.Spec.{Spec}
use Rattle.rw_programs.specs.declared.applied.Child.{Child}
use Rattle.rw_programs.specs.declared.applied.Applied.{Applied}
use Rattle.rw_programs.specs.declared.applied.Misfit.TheVariants as cause
use Rattle.rw_programs.specs.declared.applied.ApplyError.{ApplyError}
use Rattle.rw_programs.specs.declared.applied.ApplyError.TheVariants as apply_error
use Rattle.rw_laws.specs.declared.premises.Premises.{Premises}

-- a frame of at most 64 names, and formulas within the limits
abbrev pub spec_within : Spec → Bool
spec_within w = nat_le (length w.frame) 64 && (is_small w.pre && is_small w.post)

abbrev pub child_within : Child → Bool
child_within k = spec_within k.spec

abbrev pub sequent_within : Sequent → Bool
sequent_within q = list_all is_small q.left && list_all is_small q.right

-- each kid's specification and each obligation is within the limits
unfoldable pub is_within : Applied → Bool
is_within a = list_all sequent_within a.obligations && list_all child_within a.children

-- the same, of the kids and the obligations alone
abbrev pub are_within : Premises → Bool
are_within p = list_all sequent_within p.obligations && list_all child_within p.children

-- want of memory, or a limit that is passed
abbrev pub IsLimitRefusal : Bool → ApplyError → Type 0
IsLimitRefusal within e = (e ≡ apply_error.Memory) ⊎ ((within ≡ false) × (e ≡ apply_error.Misfit cause.TooLarge))
