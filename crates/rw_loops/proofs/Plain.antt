-- A guard of code has no quantifier and no predicate.
use Rattle.std.proofs.Common.{◌≡◌, Bool, true, false, ◌&&◌, refl, sym, ap, ◌∙◌, subst, true≢false}
use Rattle.rw_terms.specs.declared.term.Formula.{Formula}
use Rattle.rw_terms.specs.declared.term.Formula.TheOpen.{Formula-F}
use Rattle.rw_terms.specs.declared.term.Formula.TheViews.{roll-Formula}
use Rattle.rw_terms.specs.declared.term.Formula.TheFolds.{map-Formula, ind-Formula, fold-roll-Formula}
use Rattle.rw_subst.specs.Guards as plain
use Rattle.rw_programs.specs.CodeTest as code

abbrev Claim : Formula → Type 0
Claim f = code.is_guard f ≡ true → plain.is_guard f ≡ true

abbrev Layer : Type 0
Layer = Formula-F ((f : Formula) × Claim f)

abbrev parts : Layer → Formula-F Formula
parts = map-Formula ((f : Formula) × Claim f) Formula (λ e. e.0)

both : (a b c d : Bool) → (a ≡ true → c ≡ true) → (b ≡ true → d ≡ true) → (a && b) ≡ true → (c && d) ≡ true
both true b c d f g e = ap (λ x. x && d) (f refl) ∙ g e
both false b c d f g e = absurd (true≢false (sym e))

layer : (y : Layer) → code.guard_step (map-Formula Formula Bool code.is_guard (parts y)) ≡ true → plain.guard_step (map-Formula Formula Bool plain.is_guard (parts y)) ≡ true
layer Formula-F.True h = refl
layer Formula-F.False h = refl
layer (Formula-F.Eq t u) h = refl
layer (Formula-F.Less t u) h = refl
layer (Formula-F.AtMost t u) h = refl
layer (Formula-F.Not f) h = f.1 h
layer (Formula-F.And f g) h = both (code.is_guard f.0) (code.is_guard g.0) (plain.is_guard f.0) (plain.is_guard g.0) f.1 g.1 h
layer (Formula-F.Or f g) h = both (code.is_guard f.0) (code.is_guard g.0) (plain.is_guard f.0) (plain.is_guard g.0) f.1 g.1 h
layer (Formula-F.Imp f g) h = both (code.is_guard f.0) (code.is_guard g.0) (plain.is_guard f.0) (plain.is_guard g.0) f.1 g.1 h
layer (Formula-F.All s f) h = absurd (true≢false (sym h))
layer (Formula-F.Any s f) h = absurd (true≢false (sym h))
layer (Formula-F.App p args) h = absurd (true≢false (sym h))

at : (y : Layer) → Claim (roll-Formula (parts y))
at y h = fold-roll-Formula Bool plain.guard_step (parts y) ∙ layer y (sym (fold-roll-Formula Bool code.guard_step (parts y)) ∙ h)

pub guard_of_code : (f : Formula) → Claim f
guard_of_code = ind-Formula Claim (λ u y is. subst (λ z. Claim (roll-Formula z)) is (at y))
