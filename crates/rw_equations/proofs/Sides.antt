-- An equation that keeps the rules of sorts has its sides.
use Rattle.std.proofs.Common.{◌≡◌, ◌&&◌, Bool, true, false, List, [], Option, Some, None, refl, sym, ap, ◌∙◌, true≢false}
use Rattle.std.specs.Prelude.{is_some}
use Rattle.rw_terms.specs.declared.term.Sort.{Sort}
use Rattle.rw_terms.specs.declared.term.Term.{Term}
use Rattle.rw_terms.specs.declared.term.Formula.TheVariants as formula
use Rattle.rw_terms.specs.declared.term.Formula.TheOpen.{Formula-F}
use Rattle.rw_terms.specs.declared.term.Formula.TheViews.{out-Formula, out-roll-Formula}
use Rattle.rw_terms.specs.declared.term.Formula.TheFolds.{fold-roll-Formula}
use Rattle.rw_terms.specs.Named.{Named}
use Rattle.rw_terms.specs.Rules.{is_of, may_equal_of}
use Rattle.rw_goals.specs.declared.library.Item.{Item}
use Rattle.rw_goals.specs.Sorting.{sort_of, keeps_step, keeps_rules}
use Rattle.rw_equations.specs.Equality.{sides_if, sides}
use Rattle.rw_equations.specs.Laws.{EquationsHaveSides}

both_known : (o p : Option Sort) → may_equal_of o p ≡ true → (is_some o && is_some p) ≡ true
both_known None p e = absurd (true≢false (sym e))
both_known (Some s) None e = absurd (true≢false (sym e))
both_known (Some s) (Some t) e = refl

keeps_equation : (names : List Named) (entries : List Item) (s t : Term) → keeps_rules names entries (formula.Eq s t) [] ≡ may_equal_of (sort_of names [] s) (sort_of names [] t)
keeps_equation names entries s t =
    ap (λ f. keeps_rules names entries f []) (sym (formula.rolls-Eq s t))
    ∙ ap (λ g. g []) (fold-roll-Formula (List Sort → Bool) (keeps_step names entries) (Formula-F.Eq s t))

pub equations_have_sides : EquationsHaveSides
equations_have_sides names entries s t k =
    ap (sides names) (ap out-Formula (sym (formula.rolls-Eq s t)) ∙ out-roll-Formula (Formula-F.Eq s t))
    ∙ ap (λ b. sides_if b s t) (both_known (sort_of names [] s) (sort_of names [] t) (sym (keeps_equation names entries s t) ∙ k))
