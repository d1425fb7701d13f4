-- Why there is no such specification.
use Rattle.std.specs.Prelude.{◌≡◌, ◌⊎◌, Bool, true, false, ◌&&◌, min, Option, Some, None}
use Rattle.rw_terms.specs.declared.term.Formula.{Formula}
use Rattle.rw_terms.specs.Size.{formula_weight}
use Rattle.rw_faults.specs.Limits.{is_small}
use Rattle.rw_programs.specs.declared.prog.Spec.{Spec}
use Rattle.rw_programs.specs.declared.applied.Child.{Child}
use Rattle.rw_modules.specs.declared.error.ModError.{ModError}
use Rattle.rw_modules.specs.declared.error.ModError.TheVariants.{NoOperation, TooLarge, Memory}

-- both formulas are within the limits
abbrev pub is_small_spec : Spec → Bool
is_small_spec w = is_small w.pre && is_small w.post

-- the formula passes a limit, and the refusal tells its weight, as far as a `u32` does
abbrev pub IsLarge : Formula → ModError → Type 0
IsLarge f e = (is_small f ≡ false) × (e ≡ TooLarge (min (formula_weight f) 4294967295))

-- want of memory, or the first formula that passes a limit, the precondition before the postcondition
abbrev pub IsSpecRefusal : Spec → ModError → Type 0
IsSpecRefusal w e = (e ≡ Memory) ⊎ (IsLarge w.pre e ⊎ ((is_small w.pre ≡ true) × IsLarge w.post e))

-- the same of a concrete head; or there is none, since the module has no such operation
abbrev pub IsHeadRefusal : Option Child → ModError → Type 0
IsHeadRefusal None e = (e ≡ Memory) ⊎ (e ≡ NoOperation)
IsHeadRefusal (Some c) e = IsSpecRefusal c.spec e
