-- Formulas within the limits.
use Rattle.std.specs.Prelude.{◌≡◌, ◌⊎◌, Bool, true, false, List, Option, Some, None, Result, Ok, Err}
use Rattle.std.specs.List.{list_all}
use Rattle.rw_terms.specs.declared.term.Formula.{Formula}
use Rattle.rw_terms.specs.declared.sequent.Sequent.{Sequent}
use Rattle.rw_faults.specs.Limits.{is_small}
use Rattle.rw_programs.specs.declared.applied.Misfit.TheVariants as cause
use Rattle.rw_programs.specs.declared.applied.ApplyError.{ApplyError}
use Rattle.rw_programs.specs.declared.applied.ApplyError.TheVariants as apply_error
use Rattle.rw_loops.specs.Limits.{sequent_within}

abbrev pub kept_if : Bool → Formula → Option Formula
kept_if true f = Some f
kept_if false f = None

-- the formula where it is within the limits
abbrev pub kept : Formula → Option Formula
kept f = kept_if (is_small f) f

-- each formula of the conditions is within the limits
abbrev pub are_within : List Sequent → Bool
are_within qs = list_all sequent_within qs

-- these conditions, each within the limits
abbrev pub Owes : List Sequent → List Sequent → Type 0
Owes wanted qs = (qs ≡ wanted) × (are_within wanted ≡ true)

-- want of memory, or a condition that passes a limit
abbrev pub OwesNot : List Sequent → ApplyError → Type 0
OwesNot wanted e = (e ≡ apply_error.Memory) ⊎ ((are_within wanted ≡ false) × (e ≡ apply_error.Misfit cause.TooLarge))

-- what is answered of conditions that are wanted
abbrev pub Answers : List Sequent → Result (List Sequent) ApplyError → Type 0
Answers wanted (Ok qs) = Owes wanted qs
Answers wanted (Err e) = OwesNot wanted e
