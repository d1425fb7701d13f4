-- States that fit a scope and hold given parts: the laws keep a state's parts, whatever modules are opened.
use Rattle.std.proofs.Common.{◌≡◌, refl, ℕ, List}
use Rattle.rw_terms.specs.declared.scope.Entry.{Entry}
use Rattle.rw_terms.specs.State.{State as Map, Fits as FitsMap}
use Rattle.rw_programs.specs.declared.prog.Prog.{Prog}
use Rattle.rw_programs.specs.State.{Name, State, Fits, no_parts, alone}
use Rattle.rw_programs.specs.Tables.{Table}
use Rattle.rw_programs.specs.Refine.{BetterAt, HasValues}

-- s gives each name of the scope a value of its sort and gives no other name one, and has these parts
pub record FitsBeside (others : Name → Map) (scope : List Entry) (s : State) : Type 0 where
  pub names : FitsMap scope s.own
  pub parts : s.part ≡ others

-- d refines c at the states that fit the scope, with these parts and these values of the names of kind value
abbrev pub RefinesBeside : Map → (Name → Map) → List Entry → Table → (p k : ℕ) → Prog → Prog → Type 0
RefinesBeside fixed others scope E p k c d = (s : State) → FitsBeside others scope s → HasValues scope fixed s → BetterAt E p k c E p k d s

-- the values alone fit where they do beside parts
pub alone_fits : (scope : List Entry) (m : Map) → FitsMap scope m → Fits scope (alone m)
alone_fits scope m names = record { names = names; parts = refl }

-- with no parts these are the states that fit the scope
pub with_no_parts : (scope : List Entry) (s : State) → Fits scope s → FitsBeside no_parts scope s
with_no_parts scope s fits = record { names = fits.names; parts = fits.parts }

pub without_parts : (scope : List Entry) (s : State) → FitsBeside no_parts scope s → Fits scope s
without_parts scope s fits = record { names = fits.names; parts = fits.parts }
