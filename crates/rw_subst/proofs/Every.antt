-- A fact of every layer of a term is the fact of its own layer, and of every layer of its parts. So for formulas.
use Rattle.std.proofs.Common.{◌≡◌, ◌↔◌, List, [], ◌∷◌, map, refl, ◌∙◌, subst, ap}
use Rattle.rw_terms.specs.declared.term.Term.{Term}
use Rattle.rw_terms.specs.declared.term.Term.TheOpen.{Term-F}
use Rattle.rw_terms.specs.declared.term.Term.TheViews.{roll-Term, out-roll-Term}
use Rattle.rw_terms.specs.declared.term.Term.TheFolds.{map-Term, every-Term, every_here-Term, every_held-Term, every_made-Term}
use Rattle.rw_terms.specs.declared.term.Formula.{Formula}
use Rattle.rw_terms.specs.declared.term.Formula.TheOpen.{Formula-F}
use Rattle.rw_terms.specs.declared.term.Formula.TheViews.{roll-Formula, out-roll-Formula}
use Rattle.rw_terms.specs.declared.term.Formula.TheFolds.{map-Formula, every-Formula, every_here-Formula, every_held-Formula, every_made-Formula}
use Rattle.rw_terms.specs.Validity.{Each}

module _ (P : Term → Type 0) where
  -- P of each part
  abbrev pub OfParts : Term-F Term → Type 0
  OfParts (Term-F.Lit _) = Unit {0}
  OfParts (Term-F.Var _) = Unit {0}
  OfParts (Term-F.Init _) = Unit {0}
  OfParts (Term-F.Const _) = Unit {0}
  OfParts (Term-F.Bound _) = Unit {0}
  OfParts (Term-F.Neg a) = P a
  OfParts (Term-F.Add a b) = P a × P b
  OfParts (Term-F.Sub a b) = P a × P b
  OfParts (Term-F.Mul a b) = P a × P b
  OfParts (Term-F.Div a b) = P a × P b
  OfParts (Term-F.Mod a b) = P a × P b
  OfParts (Term-F.Read a i) = P a × P i
  OfParts (Term-F.Put a i e) = P a × P i × P e
  OfParts (Term-F.Fun _ args) = Each P args

  abbrev Held : Type 0
  Held = (t : Term) × P t

  abbrev bare : Term-F Held → Term-F Term
  bare = map-Term Held Term (λ e. e.0)

  held_each : (ts : List Held) → Each P (map (λ e. e.0) ts)
  held_each [] = tt
  held_each (t ∷ ts) = (t.1, held_each ts)

  of_parts : (x : Term-F Held) → OfParts (bare x)
  of_parts (Term-F.Lit _) = tt
  of_parts (Term-F.Var _) = tt
  of_parts (Term-F.Init _) = tt
  of_parts (Term-F.Const _) = tt
  of_parts (Term-F.Bound _) = tt
  of_parts (Term-F.Neg a) = a.1
  of_parts (Term-F.Add a b) = (a.1, b.1)
  of_parts (Term-F.Sub a b) = (a.1, b.1)
  of_parts (Term-F.Mul a b) = (a.1, b.1)
  of_parts (Term-F.Div a b) = (a.1, b.1)
  of_parts (Term-F.Mod a b) = (a.1, b.1)
  of_parts (Term-F.Read a i) = (a.1, i.1)
  of_parts (Term-F.Put a i e) = (a.1, i.1, e.1)
  of_parts (Term-F.Fun _ args) = held_each args

  each_held : (ts : List Term) → Each P ts → (hs : List Held) × (map (λ e. e.0) hs ≡ ts)
  each_held [] h = ([], refl)
  each_held (t ∷ ts) h = let more = each_held ts h.1 in ((t, h.0) ∷ more.0, ap (λ us. t ∷ us) more.1)

  with_parts : (z : Term-F Term) → OfParts z → (x : Term-F Held) × (bare x ≡ z)
  with_parts (Term-F.Lit n) h = (Term-F.Lit n, refl)
  with_parts (Term-F.Var n) h = (Term-F.Var n, refl)
  with_parts (Term-F.Init n) h = (Term-F.Init n, refl)
  with_parts (Term-F.Const n) h = (Term-F.Const n, refl)
  with_parts (Term-F.Bound n) h = (Term-F.Bound n, refl)
  with_parts (Term-F.Neg a) h = (Term-F.Neg (a, h), refl)
  with_parts (Term-F.Add a b) h = (Term-F.Add (a, h.0) (b, h.1), refl)
  with_parts (Term-F.Sub a b) h = (Term-F.Sub (a, h.0) (b, h.1), refl)
  with_parts (Term-F.Mul a b) h = (Term-F.Mul (a, h.0) (b, h.1), refl)
  with_parts (Term-F.Div a b) h = (Term-F.Div (a, h.0) (b, h.1), refl)
  with_parts (Term-F.Mod a b) h = (Term-F.Mod (a, h.0) (b, h.1), refl)
  with_parts (Term-F.Read a i) h = (Term-F.Read (a, h.0) (i, h.1), refl)
  with_parts (Term-F.Put a i e) h = (Term-F.Put (a, h.0) (i, h.1) (e, h.2), refl)
  with_parts (Term-F.Fun f args) h = let held = each_held args h in (Term-F.Fun f held.0, ap (λ us. Term-F.Fun f us) held.1)

pub every_term : (Q : Term-F Term → Type 0) (z : Term-F Term) → every-Term Q (roll-Term z) ↔ (Q z × OfParts (every-Term Q) z)
every_term Q z = (
  λ h. let held = every_held-Term Q (roll-Term z) h in (
    subst Q (out-roll-Term z) (every_here-Term Q (roll-Term z) h),
    subst (OfParts (every-Term Q)) (held.1 ∙ out-roll-Term z) (of_parts (every-Term Q) held.0),
  ),
  λ h. let held = with_parts (every-Term Q) z h.1 in every_made-Term Q z held.0 held.1 h.0,
)

module _ (P : Formula → Type 0) where
  abbrev pub OfFormulaParts : Formula-F Formula → Type 0
  OfFormulaParts Formula-F.True = Unit {0}
  OfFormulaParts Formula-F.False = Unit {0}
  OfFormulaParts (Formula-F.Eq _ _) = Unit {0}
  OfFormulaParts (Formula-F.Less _ _) = Unit {0}
  OfFormulaParts (Formula-F.AtMost _ _) = Unit {0}
  OfFormulaParts (Formula-F.Not f) = P f
  OfFormulaParts (Formula-F.And f g) = P f × P g
  OfFormulaParts (Formula-F.Or f g) = P f × P g
  OfFormulaParts (Formula-F.Imp f g) = P f × P g
  OfFormulaParts (Formula-F.All _ f) = P f
  OfFormulaParts (Formula-F.Any _ f) = P f
  OfFormulaParts (Formula-F.App _ _) = Unit {0}

  abbrev HeldFormula : Type 0
  HeldFormula = (f : Formula) × P f

  abbrev bare_formula : Formula-F HeldFormula → Formula-F Formula
  bare_formula = map-Formula HeldFormula Formula (λ e. e.0)

  of_formula_parts : (x : Formula-F HeldFormula) → OfFormulaParts (bare_formula x)
  of_formula_parts Formula-F.True = tt
  of_formula_parts Formula-F.False = tt
  of_formula_parts (Formula-F.Eq _ _) = tt
  of_formula_parts (Formula-F.Less _ _) = tt
  of_formula_parts (Formula-F.AtMost _ _) = tt
  of_formula_parts (Formula-F.Not f) = f.1
  of_formula_parts (Formula-F.And f g) = (f.1, g.1)
  of_formula_parts (Formula-F.Or f g) = (f.1, g.1)
  of_formula_parts (Formula-F.Imp f g) = (f.1, g.1)
  of_formula_parts (Formula-F.All _ f) = f.1
  of_formula_parts (Formula-F.Any _ f) = f.1
  of_formula_parts (Formula-F.App _ _) = tt

  with_formula_parts : (z : Formula-F Formula) → OfFormulaParts z → (x : Formula-F HeldFormula) × (bare_formula x ≡ z)
  with_formula_parts Formula-F.True h = (Formula-F.True, refl)
  with_formula_parts Formula-F.False h = (Formula-F.False, refl)
  with_formula_parts (Formula-F.Eq t u) h = (Formula-F.Eq t u, refl)
  with_formula_parts (Formula-F.Less t u) h = (Formula-F.Less t u, refl)
  with_formula_parts (Formula-F.AtMost t u) h = (Formula-F.AtMost t u, refl)
  with_formula_parts (Formula-F.Not f) h = (Formula-F.Not (f, h), refl)
  with_formula_parts (Formula-F.And f g) h = (Formula-F.And (f, h.0) (g, h.1), refl)
  with_formula_parts (Formula-F.Or f g) h = (Formula-F.Or (f, h.0) (g, h.1), refl)
  with_formula_parts (Formula-F.Imp f g) h = (Formula-F.Imp (f, h.0) (g, h.1), refl)
  with_formula_parts (Formula-F.All s f) h = (Formula-F.All s (f, h), refl)
  with_formula_parts (Formula-F.Any s f) h = (Formula-F.Any s (f, h), refl)
  with_formula_parts (Formula-F.App p args) h = (Formula-F.App p args, refl)

pub every_formula : (Q : Formula-F Formula → Type 0) (z : Formula-F Formula) → every-Formula Q (roll-Formula z) ↔ (Q z × OfFormulaParts (every-Formula Q) z)
every_formula Q z = (
  λ h. let held = every_held-Formula Q (roll-Formula z) h in (
    subst Q (out-roll-Formula z) (every_here-Formula Q (roll-Formula z) h),
    subst (OfFormulaParts (every-Formula Q)) (held.1 ∙ out-roll-Formula z) (of_formula_parts (every-Formula Q) held.0),
  ),
  λ h. let held = with_formula_parts (every-Formula Q) z h.1 in every_made-Formula Q z held.0 held.1 h.0,
)
