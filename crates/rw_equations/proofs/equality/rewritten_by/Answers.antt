use Rattle.std.proofs.Common.{◌≡◌, true, List, [], Some, sym, ap, ◌∙◌, subst, IfOk}
use Rattle.std.specs.Prelude.{is_some}
use Rattle.std.proofs.lemmas.Bool.{and_from}
use Rattle.rw_terms.specs.declared.term.Term.{Term}
use Rattle.rw_terms.specs.declared.term.Formula.{Formula}
use Rattle.rw_terms.specs.declared.term.Formula.TheVariants as formula
use Rattle.rw_terms.specs.declared.term.Formula.TheOpen.{Formula-F}
use Rattle.rw_terms.specs.declared.term.Formula.TheViews.{out-Formula, out-roll-Formula}
use Rattle.rw_terms.specs.Named.{Named}
use Rattle.rw_goals.specs.Sorting.{sort_of}
use Rattle.rw_equations.specs.Equality.{sides_if, sides, rewritten_by}
use Rattle.rw_equations.proofs.equality.rewritten_by.Goals as goal

-- the sides of an equation of terms that have sorts
sides_are : (names : List Named) (f : Formula) (s t : Term) → f ≡ formula.Eq s t → true ≡ is_some (sort_of names [] s) → true ≡ is_some (sort_of names [] t) →
    sides names (out-Formula f) ≡ Some (s, t)
sides_are names f s t e p q =
    ap (sides names) (ap out-Formula (e ∙ sym (formula.rolls-Eq s t)) ∙ out-roll-Formula (Formula-F.Eq s t))
    ∙ ap (λ b. sides_if b s t) (and_from _ _ (sym p) (sym q))

pub returns-else-not-is_sorted-2 : goal.returns-else-not-is_sorted-2
returns-else-not-is_sorted-2 c =
    subst (λ o. IfOk c.rewritten_with.result (λ r. r ≡ rewritten_by o c.args.formula.now))
    (sym (sides_are c.args.names.now c.args.equation.now c.in-Eq.s c.in-Eq.t c.in-Eq.is c.if-not-is_sorted.ensures c.if-not-is_sorted-2.ensures))
    c.rewritten_with.ensures
