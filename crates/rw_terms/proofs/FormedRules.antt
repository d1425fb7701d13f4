-- A report on a formula has no fault exactly where the formula keeps the rules.
use Rattle.std.proofs.Common.{◌≡◌, ℕ, ◌+◌, Bool, true, false, ◌&&◌, List, [], ◌∷◌, map, find, length, Option, Some, None, refl, sym, ap, ◌∙◌, subst, true≢false}
use Rattle.std.proofs.lemmas.Bool.{and_from, and_parts}
use Rattle.std.specs.Prelude.{is_some, nat_eq}
use Rattle.std.proofs.Math.Dec.{eqb-suc-suc, eqb-suc-zero, eqb-zero-suc}
use Rattle.rw_terms.specs.declared.error.TermError.{TermError}
use Rattle.rw_terms.specs.declared.scope.Entry.{Entry}
use Rattle.rw_terms.specs.declared.scope.Head.{Head}
use Rattle.rw_terms.specs.declared.term.Sort.{Sort}
use Rattle.rw_terms.specs.declared.term.Term.{Term}
use Rattle.rw_terms.specs.declared.term.Formula.{Formula}
use Rattle.rw_terms.specs.declared.term.Formula.TheOpen.{Formula-F}
use Rattle.rw_terms.specs.declared.term.Formula.TheViews.{roll-Formula}
use Rattle.rw_terms.specs.declared.term.Formula.TheFolds.{map-Formula, ind-Formula, fold-roll-Formula}
use Rattle.rw_terms.specs.Sorts.{SortReport, sort_report, first_of, unless, binary}
use Rattle.rw_terms.specs.Formed.{FormulaReport, formula_report_step, formula_report, may_be, may_equal, is_sort, is_head, pairs_fit, takes, first_fault, equation, application}
use Rattle.rw_terms.specs.Rules.{of_ints, is_of, are_of, may_equal_of, applies, sort_in, keeps_step, keeps_rules}
use Rattle.rw_terms.proofs.Reported.{Tells, first_none, second_none, none_none, rule_kept, keeps_rule, tells_binary, told}

-- no fault, at any number, exactly where the test passes
pub record Agrees (fault : ℕ → Option TermError) (b : Bool) : Type 0 where
  pub given : (place : ℕ) → fault place ≡ None → b ≡ true
  pub kept : (place : ℕ) → b ≡ true → fault place ≡ None

is_some_given : (o : Option Sort) (s : Sort) → o ≡ Some s → is_some o ≡ true
is_some_given o s e = ap is_some e

some_of : (o : Option Sort) → is_some o ≡ true → (s : Sort) × (o ≡ Some s)
some_of None e = absurd (true≢false (sym e))
some_of (Some s) e = (s, refl)

agrees_order : (l m : SortReport) (o p : Option Sort) → Tells l o → Tells m p → Agrees (binary l m).fault (is_some (of_ints o p))
agrees_order l m o p t u =
    let b = tells_binary l m o p t u in record {
      given = λ place e. let g = b.given place e in is_some_given _ g.0 g.1;
      kept = λ place e. let s = some_of (of_ints o p) e in b.kept place s.0 s.1;
    }

may_be_of : (s t : Sort) (p : Option Sort) → p ≡ Some t → may_be s p ≡ is_of s p
may_be_of s t p e = ap (may_be s) e ∙ sym (ap (is_of s) e)

may_equal_given : (o p q r : Option Sort) (s t : Sort) → o ≡ Some s → p ≡ Some t → q ≡ Some s → r ≡ Some t → may_equal q r ≡ may_equal_of o p
may_equal_given o p q r s t a b c d = (λ i. may_equal (c i) (d i)) ∙ sym (λ i. may_equal_of (a i) (b i))

equal_sorts : (o p : Option Sort) → may_equal_of o p ≡ true → (s : Sort) × (t : Sort) × ((o ≡ Some s) × (p ≡ Some t))
equal_sorts None p e = absurd (true≢false (sym e))
equal_sorts (Some s) None e = absurd (true≢false (sym e))
equal_sorts (Some s) (Some t) e = (s, t, (refl, refl))

agrees_equation : (l m : SortReport) (o p : Option Sort) → Tells l o → Tells m p → Agrees (equation l m) (may_equal_of o p)
agrees_equation l m o p t u = record {
  given = λ place e.
      let rest = second_none _ _ e in
      let g = t.given (place + 1) (first_none _ _ rest) in
      let h = u.given (place + 1 + l.parts) (second_none _ _ rest) in
      sym (may_equal_given o p l.sort m.sort g.0 h.0 g.1 h.1 (t.same g.0 g.1) (u.same h.0 h.1)) ∙ rule_kept _ place (first_none _ _ e);
  kept = λ place e.
      let s = equal_sorts o p e in
      none_none _ _ (keeps_rule _ place (may_equal_given o p l.sort m.sort s.0 s.1 s.2.0 s.2.1 (t.same s.0 s.2.0) (u.same s.1 s.2.1) ∙ e))
      (none_none _ _ (t.kept (place + 1) s.0 s.2.0) (u.kept (place + 1 + l.parts) s.1 s.2.1));
}

swapped : (a b c : Bool) → (a && (b && c)) ≡ (b && (a && c))
swapped true b c = refl
swapped false true c = refl
swapped false false c = refl

-- one sort and one report more
takes_more : (s : Sort) (ss : List Sort) (l : SortReport) (ls : List SortReport) → takes (s ∷ ss) (l ∷ ls) ≡ (may_be s l.sort && takes ss ls)
takes_more s ss l ls =
    ap (λ b. b && (may_be s l.sort && pairs_fit ss ls)) (eqb-suc-suc (length ss) (length ls))
    ∙ swapped (nat_eq (length ss) (length ls)) (may_be s l.sort) (pairs_fit ss ls)

there_is : (s : Sort) (o : Option Sort) → is_of s o ≡ true → (t : Sort) × (o ≡ Some t)
there_is s None e = absurd (true≢false (sym e))
there_is s (Some t) e = (t, refl)

module _ (scope : List Entry) (binders : List Sort) where
  abbrev report : Term → SortReport
  report = sort_report scope binders

  abbrev sort : Term → Option Sort
  sort = sort_in scope binders

  -- terms without fault are taken where the rules give them the sorts
  takes_given : (args : List Term) (ss : List Sort) (place : ℕ) → first_fault (map report args) place ≡ None → takes ss (map report args) ≡ are_of ss (map sort args)
  takes_given [] [] place e = refl
  takes_given [] (s ∷ ss) place e = ap (λ b. b && true) (eqb-suc-zero (length ss))
  takes_given (a ∷ args) [] place e = ap (λ b. b && true) (eqb-zero-suc (length (map report args)))
  takes_given (a ∷ args) (s ∷ ss) place e =
      let t = told scope binders a in
      let g = t.given place (first_none _ _ e) in
      let first = ap (may_be s) (t.same g.0 g.1) ∙ sym (ap (is_of s) g.1) in
      let rest = takes_given args ss _ (second_none _ _ e) in
      takes_more s ss (report a) (map report args) ∙ (λ i. first i && rest i)

  -- terms that have the sorts are without fault
  none_at_fault : (args : List Term) (ss : List Sort) (place : ℕ) → are_of ss (map sort args) ≡ true → first_fault (map report args) place ≡ None
  none_at_fault [] ss place e = refl
  none_at_fault (a ∷ args) [] place e = absurd (true≢false (sym e))
  none_at_fault (a ∷ args) (s ∷ ss) place e =
      let t = told scope binders a in
      let g = there_is s (sort a) (and_parts _ _ e).0 in
      none_none _ _ (t.kept place g.0 g.1) (none_at_fault args ss (place + (report a).parts) (and_parts (is_of s (sort a)) _ e).1)

  agrees_application : (head : Option Head) (p : List ℕ) (args : List Term) → Agrees (application head p (map report args)) (applies head (map sort args))
  agrees_application None p args = record { given = λ place e. absurd (cc); kept = λ place e. absurd (true≢false (sym e)) }
  agrees_application (Some head) p args = record {
    given = λ place e. sym (takes_given args head.sorts (place + 1) (second_none _ _ e)) ∙ rule_kept _ place (first_none _ _ e);
    kept = λ place e.
        let free = none_at_fault args head.sorts (place + 1) e in
        none_none _ _ (keeps_rule _ place (takes_given args head.sorts (place + 1) free ∙ e)) free;
  }

agrees_both : (f g : ℕ → Option TermError) (a b : Bool) → Agrees f a → Agrees g b → (next : ℕ → ℕ) → Agrees (λ place. first_of (f (place + 1)) (g (next place))) (a && b)
agrees_both f g a b t u next = record {
  given = λ place e. and_from a b (t.given (place + 1) (first_none _ _ e)) (u.given (next place) (second_none _ _ e));
  kept = λ place e. none_none _ _ (t.kept (place + 1) (and_parts a b e).0) (u.kept (next place) (and_parts a b e).1);
}

agrees_bound : (c : Bool) (f : ℕ → Option TermError) (b : Bool) → Agrees f b → Agrees (λ place. first_of (unless c place) (f (place + 1))) (c && b)
agrees_bound c f b t = record {
  given = λ place e. and_from c b (rule_kept c place (first_none _ _ e)) (t.given (place + 1) (second_none _ _ e));
  kept = λ place e. none_none _ _ (keeps_rule c place (and_parts c b e).0) (t.kept (place + 1) (and_parts c b e).1);
}

module _ (scope : List Entry) (heads : List Head) where
  abbrev Told : Formula → Type 0
  Told f = (binders : List Sort) → Agrees ((formula_report scope heads f).fault binders) (keeps_rules scope heads f binders)

  abbrev Layer : Type 0
  Layer = Formula-F ((f : Formula) × Told f)

  abbrev under : Layer → Formula-F Formula
  under = map-Formula ((f : Formula) × Told f) Formula (λ e. e.0)

  always : (binders : List Sort) → Agrees (λ place. None) true
  always binders = record { given = λ place e. refl; kept = λ place e. refl }

  told_layer : (y : Layer) (binders : List Sort) →
      Agrees ((formula_report_step scope heads (map-Formula Formula FormulaReport (formula_report scope heads) (under y))).fault binders) (keeps_step scope heads (map-Formula Formula (List Sort → Bool) (keeps_rules scope heads) (under y)) binders)
  told_layer Formula-F.True binders = always binders
  told_layer Formula-F.False binders = always binders
  told_layer (Formula-F.Eq t u) binders = agrees_equation _ _ _ _ (told scope binders t) (told scope binders u)
  told_layer (Formula-F.Less t u) binders = agrees_order _ _ _ _ (told scope binders t) (told scope binders u)
  told_layer (Formula-F.AtMost t u) binders = agrees_order _ _ _ _ (told scope binders t) (told scope binders u)
  told_layer (Formula-F.Not f) binders = let a = f.1 binders in record { given = λ place e. a.given (place + 1) e; kept = λ place e. a.kept (place + 1) e }
  told_layer (Formula-F.And f g) binders = agrees_both _ _ _ _ (f.1 binders) (g.1 binders) _
  told_layer (Formula-F.Or f g) binders = agrees_both _ _ _ _ (f.1 binders) (g.1 binders) _
  told_layer (Formula-F.Imp f g) binders = agrees_both _ _ _ _ (f.1 binders) (g.1 binders) _
  told_layer (Formula-F.All s f) binders = agrees_bound (is_sort s) _ _ (f.1 (s ∷ binders))
  told_layer (Formula-F.Any s f) binders = agrees_bound (is_sort s) _ _ (f.1 (s ∷ binders))
  told_layer (Formula-F.App p args) binders = agrees_application scope binders (find (is_head p) heads) p args

  told_at : (y : Layer) → Told (roll-Formula (under y))
  told_at y binders =
      subst (λ t. Agrees ((formula_report scope heads (roll-Formula (under y))).fault binders) (t binders)) (sym (fold-roll-Formula (List Sort → Bool) (keeps_step scope heads) (under y)))
      (subst (λ l. Agrees (l.fault binders) (keeps_step scope heads (map-Formula Formula (List Sort → Bool) (keeps_rules scope heads) (under y)) binders)) (sym (fold-roll-Formula FormulaReport (formula_report_step scope heads) (under y))) (told_layer y binders))

  pub formula_told : (f : Formula) → Told f
  formula_told = ind-Formula Told (λ x y is. subst (λ z. Told (roll-Formula z)) is (told_at y))

pub formed_rules : (scope : List Entry) (heads : List Head) (f : Formula) (place : ℕ) → (formula_report scope heads f).fault [] place ≡ None → keeps_rules scope heads f [] ≡ true
formed_rules scope heads f place e = (formula_told scope heads f []).given place e
