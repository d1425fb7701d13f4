-- Contexts: those in which no module is opened, and what refines beside the parts of the opened modules.
use mathlib.Core.Path.{fun_ext}
use Rattle.std.proofs.Common.{◌≡◌, ℕ, refl, sym, subst, ap, Bool, true, false, List, [], ◌↔◌}
use Rattle.rw_terms.specs.declared.scope.Entry.{Entry}
use Rattle.rw_terms.specs.State.{State as Map}
use Rattle.rw_programs.specs.declared.prog.ModCode.{ModCode}
use Rattle.rw_programs.specs.declared.prog.Prog.{Prog}
use Rattle.rw_programs.specs.State.{Name, State, Fits, Within, no_parts}
use Rattle.rw_programs.specs.Tables.{Table}
use Rattle.rw_programs.specs.Refine.{RefinesGiven}
use Rattle.rw_programs.proofs.Beside.{FitsBeside, RefinesBeside}
use Rattle.rw_programs.proofs.Frames.{within_fits}
use Rattle.rw_meaning.specs.Filling.{PartsFit, FitsIn, RefinesIn}
use Rattle.rw_meaning.proofs.Ending.{own_fits}

no_part : (b : Bool) (modules : List ModCode) (parts : Name → Map) → PartsFit b modules [] parts ↔ (parts ≡ no_parts)
no_part false modules parts = (λ h. h, λ h. h)
no_part true modules parts = (λ h. fun_ext h, λ h m. ap (λ f. f m) h)

-- with no module opened the states are those that fit the scope
pub outermost : (E : Table) (scope : List Entry) (s : State) → FitsIn E [] scope s ↔ Fits scope s
outermost E scope s = (
  λ f. record { names = f.names; parts = (no_part E.is_concrete E.modules s.part).0 f.parts },
  λ f. record { names = f.names; parts = (no_part E.is_concrete E.modules s.part).1 f.parts },
)

-- so is refinement there
pub outermost_refines : (fixed : Map) (scope : List Entry) (E : Table) (p k : ℕ) (c d : Prog) → RefinesIn fixed [] scope E p k c d ↔ RefinesGiven fixed scope E p k c E p k d
outermost_refines fixed scope E p k c d = (λ refines s fits. refines s ((outermost E scope s).1 fits), λ refines s fits. refines s ((outermost E scope s).0 fits))

-- a state within a frame of one that fits a context, fits it
pub within_fits_in : (E : Table) (opened : List Name) (scope : List Entry) (w : List Name) (s t : State) → FitsIn E opened scope s → Within w s t → FitsIn E opened scope t
within_fits_in E opened scope w s t fits i = own_fits E opened scope s t fits (within_fits {others = s.part} scope w s t (record { names = fits.names; parts = refl }) i).names i.parts

-- these parts fit the opened modules
abbrev pub AreParts : Table → List Name → (Name → Map) → Type 0
AreParts E = PartsFit E.is_concrete E.modules

pub beside : (E : Table) (opened : List Name) (scope : List Entry) (s : State) → FitsIn E opened scope s → FitsBeside s.part scope s
beside E opened scope s fits = record { names = fits.names; parts = refl }

module _ (fixed : Map) (opened : List Name) (scope : List Entry) (E : Table) (p k : ℕ) (c d : Prog) where
  -- what refines in a context does so beside any parts that fit
  pub refines_beside : RefinesIn fixed opened scope E p k c d → (others : Name → Map) → AreParts E opened others → RefinesBeside fixed others scope E p k c d
  refines_beside refines others are s fits = refines s (record { names = fits.names; parts = subst (AreParts E opened) (sym fits.parts) are })

  -- and what refines beside any such parts does so in the context
  pub refines_in : ((others : Name → Map) → AreParts E opened others → RefinesBeside fixed others scope E p k c d) → RefinesIn fixed opened scope E p k c d
  refines_in refines s fits = refines s.part fits.parts s (beside E opened scope s fits)
