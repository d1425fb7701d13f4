-- What is made for a kid and for an obligation, and when a derived formula is refused.
use Rattle.std.specs.Prelude.{◌≡◌, ℕ, false, ◌⊎◌, List}
use Rattle.rw_terms.specs.declared.term.Term.{Term}
use Rattle.rw_terms.specs.declared.term.Formula.{Formula}
use Rattle.rw_terms.specs.declared.scope.Entry.{Entry}
use Rattle.rw_terms.specs.declared.sequent.Sequent.{Sequent}
use Rattle.rw_terms.specs.Naming.{names_of}
use Rattle.rw_faults.specs.Limits.{is_small}
use Rattle.rw_programs.specs.declared.prog.Pin.{Pin}
use Rattle.rw_programs.specs.declared.applied.Context.{Context}
use Rattle.rw_programs.specs.declared.applied.Child.{Child}
use Rattle.rw_programs.specs.declared.applied.Misfit.TheVariants as cause
use Rattle.rw_programs.specs.declared.applied.ApplyError.{ApplyError}
use Rattle.rw_programs.specs.declared.applied.ApplyError.TheVariants as apply_error

-- a sequent over a scope, with the names that are free in it
abbrev pub sequent_over : List Entry → List Formula → List Formula → Sequent
sequent_over scope left right = record { names = names_of scope left right; left = left; right = right }

-- a specification where its parent stands, with the parent's frame
abbrev pub kid : Context → List (List ℕ) → Formula → Formula → Child
kid context frame pre post = record { context = context; spec = record { frame = frame; pre = pre; post = post } }

-- a constant with the value of a term
abbrev pub pin : List ℕ → Term → Pin
pin x t = record { name = x; term = t }

-- want of memory, or a derived formula that passes a limit
abbrev pub IsLargeRefusal : Formula → ApplyError → Type 0
IsLargeRefusal f e = (e ≡ apply_error.Memory) ⊎ ((is_small f ≡ false) × (e ≡ apply_error.Misfit cause.TooLarge))
