-- What is sound beside any parts is sound at the states of a context.
use Rattle.std.proofs.Common.{◌≡◌, ℕ, suc, refl, sym, subst, List, [], ◌∷◌}
use Rattle.rw_terms.specs.State.{State as Map}
use Rattle.rw_terms.specs.Validity.{Each}
use Rattle.rw_programs.specs.declared.prog.Spec.{Spec}
use Rattle.rw_programs.specs.declared.prog.Prog.{Prog}
use Rattle.rw_programs.specs.declared.applied.Context.{Context}
use Rattle.rw_programs.specs.declared.applied.Applied.{Applied}
use Rattle.rw_programs.specs.declared.applied.Child.{Child}
use Rattle.rw_programs.specs.State.{Name}
use Rattle.rw_programs.specs.Tables.{Table}
use Rattle.rw_meaning.proofs.Contexts.{AreParts}
use Rattle.rw_soundness.specs.Sound.{FitsContext, FitsWith, KidsMeet, KidsMeetWhere, IsSoundWhere}

-- each kid opens the same modules
abbrev pub OpenSame : List Name → List Child → Type 0
OpenSame opened = Each (λ c. c.context.opened ≡ opened)

-- what refines in contexts which open the same modules does so beside parts that fit these
pub kids_beside : (fixed : Map) (E : Table) (p k : ℕ) (kids : ℕ → Prog) (opened : List Name) (others : Name → Map) → AreParts E opened others → (n : ℕ) (children : List Child)
    → OpenSame opened children → KidsMeet fixed E p k kids n children → KidsMeetWhere (FitsWith others) fixed E p k kids n children
kids_beside fixed E p k kids opened others are n [] same meet = tt
kids_beside fixed E p k kids opened others are n (c ∷ more) same meet = (
  λ s fits. meet.0 s (record { names = fits.0; parts = subst (AreParts E c.context.opened) (sym fits.1) (subst (λ o. AreParts E o others) (sym same.0) are) }),
  kids_beside fixed E p k kids opened others are (suc n) more same.1 meet.1,
)

pub in_context : (context : Context) (w : Spec) (a : Applied) → OpenSame context.opened a.children → ((others : Name → Map) → IsSoundWhere (FitsWith others) context w a) → IsSoundWhere FitsContext context w a
in_context context w a same sound fixed E p k kids valid meet s fits =
    sound s.part fixed E p k kids valid (kids_beside fixed E p k kids context.opened s.part fits.parts 1 a.children same meet) s (fits.names, refl)
