-- A formula keeps the rules exactly where it has no unknown name and no part with a sort that its rule does not take.
use Rattle.std.proofs.Common.{◌≡◌, ℕ, ◌+◌, Bool, true, false, ◌||◌, List, [], ◌∷◌, map, find, length, suc, Option, Some, None, refl, sym, ap, ◌∙◌, subst, true≢false}
use Rattle.std.proofs.lemmas.Bool.{not-false, not_from_true, or_from, or_parts}
use Rattle.std.specs.Prelude.{not, nat_eq, ◌&&◌}
use Rattle.rw_terms.specs.declared.error.TermError.{TermError}
use Rattle.rw_terms.specs.declared.scope.Entry.{Entry}
use Rattle.rw_terms.specs.declared.scope.Head.{Head}
use Rattle.rw_faults.specs.declared.faults.Checked.{Checked}
use Rattle.rw_terms.specs.declared.term.Sort.{Sort}
use Rattle.rw_terms.specs.declared.term.Term.{Term}
use Rattle.rw_terms.specs.declared.term.Term.TheOpen.{Term-F}
use Rattle.rw_terms.specs.declared.term.Term.TheViews.{roll-Term}
use Rattle.rw_terms.specs.declared.term.Term.TheFolds.{map-Term, ind-Term, fold-roll-Term}
use Rattle.rw_terms.specs.declared.term.Formula.{Formula}
use Rattle.rw_terms.specs.declared.term.Formula.TheOpen.{Formula-F}
use Rattle.rw_terms.specs.declared.term.Formula.TheViews.{roll-Formula}
use Rattle.rw_terms.specs.declared.term.Formula.TheFolds.{map-Formula, ind-Formula, fold-roll-Formula}
use Rattle.rw_terms.specs.Sorts.{SortReport, sort_report, sort_report_step, first_of, unless, named, bound, binary, may_be_int, may_be_array, is_literal}
use Rattle.rw_terms.specs.Formed.{FormulaReport, formula_report, formula_report_step, may_be, may_equal, is_sort, is_head, pairs_fit, takes, first_fault, equation, application}
use Rattle.rw_faults.specs.Faults.{unless_known, first_name, first_of_names, unknown_predicate, unknown_step, unknown_in_term, formula_unknown_step, unknown_in, of_binder, on_ints, any_bad, each_fits, fit_in, bad_application, checked_step, checked, ill_step, is_ill_sorted, FaultsApart}
use Rattle.rw_terms.proofs.Reported.{first_none, second_none, none_none, rule_kept, keeps_rule}
use Rattle.rw_terms.proofs.FormedRules.{formula_told}

left_name : (x y : Option (List ℕ)) → first_name x y ≡ None → x ≡ None
left_name None y e = refl
left_name (Some x) y e = absurd (cc)

right_name : (x y : Option (List ℕ)) → first_name x y ≡ None → y ≡ None
right_name None y e = e
right_name (Some x) y e = absurd (cc)

no_name : (x y : Option (List ℕ)) → x ≡ None → y ≡ None → first_name x y ≡ None
no_name x y p q = ap (λ z. first_name z y) p ∙ q

-- no fault, at any number, exactly where no name is unknown and the test fails
record Apart (fault : ℕ → Option TermError) (name : Option (List ℕ)) (bad : Bool) : Type 0 where
  pub known : (place : ℕ) → fault place ≡ None → name ≡ None
  pub good : (place : ℕ) → fault place ≡ None → bad ≡ false
  pub kept : (place : ℕ) → name ≡ None → bad ≡ false → fault place ≡ None

apart_join : (f g : ℕ → Option TermError) (x y : Option (List ℕ)) (b c : Bool) (here there : ℕ → ℕ) → Apart f x b → Apart g y c →
    Apart (λ place. first_of (f (here place)) (g (there place))) (first_name x y) (b || c)
apart_join f g x y b c here there p q = record {
  known = λ place e. no_name x y (p.known (here place) (first_none _ _ e)) (q.known (there place) (second_none _ _ e));
  good = λ place e. or_from b c (p.good (here place) (first_none _ _ e)) (q.good (there place) (second_none _ _ e));
  kept = λ place n e. none_none _ _ (p.kept (here place) (left_name x y n) (or_parts b c e).0) (q.kept (there place) (right_name x y n) (or_parts b c e).1);
}

apart_ruled : (r : Bool) (f : ℕ → Option TermError) (x : Option (List ℕ)) (b : Bool) → Apart f x b → Apart (λ place. first_of (unless r place) (f place)) x (not r || b)
apart_ruled r f x b p = record {
  known = λ place e. p.known place (second_none _ _ e);
  good = λ place e. or_from (not r) b (not_from_true r (rule_kept r place (first_none _ _ e))) (p.good place (second_none _ _ e));
  kept = λ place n e. none_none _ _ (keeps_rule r place (not-false r (or_parts (not r) b e).0)) (p.kept place n (or_parts (not r) b e).1);
}

apart_next : (f : ℕ → Option TermError) (x : Option (List ℕ)) (b : Bool) (next : ℕ → ℕ) → Apart f x b → Apart (λ place. f (next place)) x b
apart_next f x b next p = record { known = λ place. p.known (next place); good = λ place. p.good (next place); kept = λ place. p.kept (next place) }

apart_never : Apart (λ place. None) None false
apart_never = record { known = λ place e. refl; good = λ place e. refl; kept = λ place n e. refl }

apart_rule : (r : Bool) → Apart (unless r) None (not r)
apart_rule true = record { known = λ place e. refl; good = λ place e. refl; kept = λ place n e. refl }
apart_rule false = record { known = λ place e. refl; good = λ place e. absurd (cc); kept = λ place n e. absurd (true≢false e) }

apart_named : (x : List ℕ) (o : Option Sort) → Apart (named x o).fault (unless_known x o) false
apart_named x None = record { known = λ place e. absurd (cc); good = λ place e. absurd (cc); kept = λ place n e. absurd (cc) }
apart_named x (Some s) = apart_never

apart_bound : (o : Option Sort) → Apart (bound o).fault None (of_binder o).bad
apart_bound None = record { known = λ place e. absurd (cc); good = λ place e. absurd (cc); kept = λ place n e. absurd (true≢false e) }
apart_bound (Some s) = apart_never

named_sort : (x : List ℕ) (o : Option Sort) → o ≡ (named x o).sort
named_sort x None = refl
named_sort x (Some s) = refl

bound_sort : (o : Option Sort) → (of_binder o).sort ≡ (bound o).sort
bound_sort None = refl
bound_sort (Some s) = refl

-- a report, a name and a check of one part
record Split (l : SortReport) (x : Option (List ℕ)) (c : Checked) : Type 0 where
  pub same : c.sort ≡ l.sort
  pub apart : Apart l.fault x c.bad

-- a rule that is tested of the check's sorts is the report's
apart_along : (f : ℕ → Option TermError) (x : Option (List ℕ)) (r s : Bool) (b : Bool) → r ≡ s → Apart f x (not s || b) → Apart f x (not r || b)
apart_along f x r s b e p = subst (λ q. Apart f x (not q || b)) (sym e) p

module _ (scope : List Entry) (binders : List Sort) where
  abbrev report : Term → SortReport
  report = sort_report scope binders

  abbrev name : Term → Option (List ℕ)
  name = unknown_in_term scope

  abbrev check : Term → Checked
  check = checked scope binders

  abbrev Claim : Term → Type 0
  Claim t = Split (report t) (name t) (check t)

  abbrev Part : Type 0
  Part = (t : Term) × Claim t

  abbrev Layer : Type 0
  Layer = Term-F Part

  abbrev under : Layer → Term-F Term
  under = map-Term Part Term (λ e. e.0)

  two_apart : (a b : Part) (place : ℕ → ℕ) → Apart (λ n. first_of ((report a.0).fault (place n)) ((report b.0).fault (place n + (report a.0).parts))) (first_name (name a.0) (name b.0)) ((check a.0).bad || (check b.0).bad)
  two_apart a b place = apart_join _ _ _ _ _ _ place (λ n. place n + (report a.0).parts) a.1.apart b.1.apart

  ints : (a b : Part) → Split (binary (report a.0) (report b.0)) (first_name (name a.0) (name b.0)) (on_ints (check a.0) (check b.0))
  ints a b = record {
    same = refl;
    apart = apart_along _ _ _ _ _ (λ i. may_be_int (a.1.same i) && may_be_int (b.1.same i)) (apart_ruled _ _ _ _ (two_apart a b (λ n. n + 1)));
  }

  split_layer : (y : Layer) → Split (sort_report_step scope binders (map-Term Term SortReport report (under y))) (unknown_step scope (map-Term Term (Option (List ℕ)) name (under y))) (checked_step scope binders (map-Term Term Checked check (under y)))
  split_layer (Term-F.Lit n) = record { same = refl; apart = apart_rule (is_literal n) }
  split_layer (Term-F.Var x) = record { same = named_sort x _; apart = apart_named x _ }
  split_layer (Term-F.Init x) = record { same = named_sort x _; apart = apart_named x _ }
  split_layer (Term-F.Const x) = record { same = named_sort x _; apart = apart_named x _ }
  split_layer (Term-F.Bound k) = record { same = bound_sort _; apart = apart_bound _ }
  split_layer (Term-F.Neg a) = record {
    same = refl;
    apart = apart_along _ _ _ _ _ (ap may_be_int a.1.same) (apart_ruled _ _ _ _ (apart_next _ _ _ (λ n. n + 1) a.1.apart));
  }
  split_layer (Term-F.Add a b) = ints a b
  split_layer (Term-F.Sub a b) = ints a b
  split_layer (Term-F.Mul a b) = ints a b
  split_layer (Term-F.Div a b) = ints a b
  split_layer (Term-F.Mod a b) = ints a b
  split_layer (Term-F.Read a b) = record {
    same = refl;
    apart = apart_along _ _ _ _ _ (λ i. may_be_array (a.1.same i) && may_be_int (b.1.same i)) (apart_ruled _ _ _ _ (two_apart a b (λ n. n + 1)));
  }
  split_layer (Term-F.Put a b c) = record {
    same = a.1.same;
    apart =
        apart_along _ _ _ _ _ (λ i. may_be_array (a.1.same i) && may_be_int (b.1.same i) && may_be_int (c.1.same i))
        (apart_ruled _ _ _ _ (apart_join _ _ _ _ _ _ (λ n. n + 1) (λ n. n) a.1.apart (two_apart b c (λ n. n + 1 + (report a.0).parts))));
  }
  split_layer (Term-F.Fun f args) = record {
    same = refl;
    apart = record { known = λ place e. absurd (cc); good = λ place e. absurd (cc); kept = λ place n e. absurd (cc) };
  }

  split_at : (y : Layer) → Claim (roll-Term (under y))
  split_at y =
      let r = fold-roll-Term SortReport (sort_report_step scope binders) (under y) in
      let n = fold-roll-Term (Option (List ℕ)) (unknown_step scope) (under y) in
      let c = fold-roll-Term Checked (checked_step scope binders) (under y) in
      subst (λ l. Split l (name (roll-Term (under y))) (check (roll-Term (under y)))) (sym r)
      (subst (λ x. Split (sort_report_step scope binders (map-Term Term SortReport report (under y))) x (check (roll-Term (under y)))) (sym n)
      (subst (Split (sort_report_step scope binders (map-Term Term SortReport report (under y))) (unknown_step scope (map-Term Term (Option (List ℕ)) name (under y)))) (sym c) (split_layer y)))

  split : (t : Term) → Claim t
  split = ind-Term Claim (λ x y is. subst (λ z. Claim (roll-Term z)) is (split_at y))

  args_apart : (args : List Term) → Apart (first_fault (map report args)) (first_of_names (map name args)) (any_bad (map check args))
  args_apart [] = apart_never
  args_apart (a ∷ args) = apart_join _ _ _ _ _ _ (λ n. n) (λ n. n + (report a).parts) (split a).apart (args_apart args)

  same_fits : (ss : List Sort) (args : List Term) → each_fits ss (map check args) ≡ pairs_fit ss (map report args)
  same_fits [] args = refl
  same_fits (s ∷ ss) [] = refl
  same_fits (s ∷ ss) (a ∷ args) = λ i. may_be s ((split a).same i) && same_fits ss args i

  same_length : (args : List Term) → length (map check args) ≡ length (map report args)
  same_length [] = refl
  same_length (a ∷ args) = ap suc (same_length args)

  same_takes : (ss : List Sort) (args : List Term) → fit_in ss (map check args) ≡ takes ss (map report args)
  same_takes ss args = λ i. nat_eq (length ss) (same_length args i) && same_fits ss args i

  application_apart : (head : Option Head) (p : List ℕ) (args : List Term) → Apart (application head p (map report args)) (unknown_predicate head p (first_of_names (map name args))) (bad_application head (map check args))
  application_apart None p args = record { known = λ place e. absurd (cc); good = λ place e. absurd (cc); kept = λ place n e. absurd (cc) }
  application_apart (Some head) p args = apart_along _ _ _ _ _ (same_takes head.sorts args) (apart_ruled _ _ _ _ (apart_next _ _ _ (λ n. n + 1) (args_apart args)))

  equation_apart : (t u : Term) → Apart (equation (report t) (report u)) (first_name (name t) (name u)) (not (may_equal (check t).sort (check u).sort) || ((check t).bad || (check u).bad))
  equation_apart t u =
      apart_along _ _ _ _ _ (λ i. may_equal ((split t).same i) ((split u).same i))
      (apart_ruled _ _ _ _ (two_apart (t, split t) (u, split u) (λ n. n + 1)))

module _ (scope : List Entry) (heads : List Head) where
  abbrev FormulaClaim : Formula → Type 0
  FormulaClaim f = (binders : List Sort) → Apart ((formula_report scope heads f).fault binders) (unknown_in scope heads f) (is_ill_sorted scope heads f binders)

  abbrev Sub : Type 0
  Sub = (f : Formula) × FormulaClaim f

  abbrev FormulaLayer : Type 0
  FormulaLayer = Formula-F Sub

  abbrev inside : FormulaLayer → Formula-F Formula
  inside = map-Formula Sub Formula (λ e. e.0)

  abbrev name_step : FormulaLayer → Option (List ℕ)
  name_step y = formula_unknown_step scope heads (map-Formula Formula (Option (List ℕ)) (unknown_in scope heads) (inside y))

  abbrev bad_step : FormulaLayer → List Sort → Bool
  bad_step y = ill_step scope heads (map-Formula Formula (List Sort → Bool) (is_ill_sorted scope heads) (inside y))

  two_formulas : (f g : Sub) (binders : List Sort) → Apart (λ n. first_of ((formula_report scope heads f.0).fault binders (n + 1)) ((formula_report scope heads g.0).fault binders (n + 1 + (formula_report scope heads f.0).parts)))
      (first_name (unknown_in scope heads f.0) (unknown_in scope heads g.0)) (is_ill_sorted scope heads f.0 binders || is_ill_sorted scope heads g.0 binders)
  two_formulas f g binders = apart_join _ _ _ _ _ _ (λ n. n + 1) (λ n. n + 1 + (formula_report scope heads f.0).parts) (f.1 binders) (g.1 binders)

  formula_layer : (y : FormulaLayer) (binders : List Sort) → Apart ((formula_report_step scope heads (map-Formula Formula FormulaReport (formula_report scope heads) (inside y))).fault binders) (name_step y) (bad_step y binders)
  formula_layer Formula-F.True binders = apart_never
  formula_layer Formula-F.False binders = apart_never
  formula_layer (Formula-F.Eq t u) binders = equation_apart scope binders t u
  formula_layer (Formula-F.Less t u) binders = (ints scope binders (t, split scope binders t) (u, split scope binders u)).apart
  formula_layer (Formula-F.AtMost t u) binders = (ints scope binders (t, split scope binders t) (u, split scope binders u)).apart
  formula_layer (Formula-F.Not f) binders = apart_next _ _ _ (λ n. n + 1) (f.1 binders)
  formula_layer (Formula-F.And f g) binders = two_formulas f g binders
  formula_layer (Formula-F.Or f g) binders = two_formulas f g binders
  formula_layer (Formula-F.Imp f g) binders = two_formulas f g binders
  formula_layer (Formula-F.All s f) binders = apart_ruled (is_sort s) _ _ _ (apart_next _ _ _ (λ n. n + 1) (f.1 (s ∷ binders)))
  formula_layer (Formula-F.Any s f) binders = apart_ruled (is_sort s) _ _ _ (apart_next _ _ _ (λ n. n + 1) (f.1 (s ∷ binders)))
  formula_layer (Formula-F.App p args) binders = application_apart scope binders (find (is_head p) heads) p args

  formula_at : (y : FormulaLayer) → FormulaClaim (roll-Formula (inside y))
  formula_at y binders =
      let r = fold-roll-Formula FormulaReport (formula_report_step scope heads) (inside y) in
      let n = fold-roll-Formula (Option (List ℕ)) (formula_unknown_step scope heads) (inside y) in
      let c = fold-roll-Formula (List Sort → Bool) (ill_step scope heads) (inside y) in
      subst (λ l. Apart (l.fault binders) (unknown_in scope heads (roll-Formula (inside y))) (is_ill_sorted scope heads (roll-Formula (inside y)) binders)) (sym r)
      (subst (λ x. Apart ((formula_report_step scope heads (map-Formula Formula FormulaReport (formula_report scope heads) (inside y))).fault binders) x (is_ill_sorted scope heads (roll-Formula (inside y)) binders)) (sym n)
      (subst (λ b. Apart ((formula_report_step scope heads (map-Formula Formula FormulaReport (formula_report scope heads) (inside y))).fault binders) (name_step y) (b binders)) (sym c) (formula_layer y binders)))

  formula_split : (f : Formula) → FormulaClaim f
  formula_split = ind-Formula FormulaClaim (λ x y is. subst (λ z. FormulaClaim (roll-Formula z)) is (formula_at y))

pub faults_apart : FaultsApart
faults_apart scope heads f binders =
    let told = formula_told scope heads f binders in
    let split = formula_split scope heads f binders in (
      λ h. let none = told.kept 1 h in (split.known 1 none, split.good 1 none),
      λ h. told.given 1 (split.kept 1 h.0 h.1),
    )
