-- A report on a term has no fault exactly where the rules give the term a sort, and then it is that sort.
use Rattle.std.proofs.Common.{◌≡◌, ℕ, ◌+◌, Bool, true, false, ◌&&◌, List, Option, Some, None, refl, sym, ap, ◌∙◌, subst, true≢false}
use Rattle.std.proofs.lemmas.Bool.{and_from, and_parts}
use Rattle.rw_terms.specs.declared.error.TermError.{TermError}
use Rattle.rw_terms.specs.declared.scope.Entry.{Entry}
use Rattle.rw_terms.specs.declared.term.Sort.{Sort}
use Rattle.rw_terms.specs.declared.term.Sort.TheVariants.{Int, Array}
use Rattle.rw_terms.specs.declared.term.Term.{Term}
use Rattle.rw_terms.specs.declared.term.Term.TheOpen.{Term-F}
use Rattle.rw_terms.specs.declared.term.Term.TheViews.{roll-Term}
use Rattle.rw_terms.specs.declared.term.Term.TheFolds.{map-Term, ind-Term, fold-roll-Term}
use Rattle.rw_terms.specs.Sorts.{SortReport, sort_report, sort_report_step, first_of, unless, may_be_int, may_be_array, is_literal, named, bound, unary, binary, read, put}
use Rattle.rw_terms.specs.Rules.{of_literal, of_int, of_ints, of_read, of_put, instead, sort_step, sort_in}

-- what a report tells of the sort that the rules give
pub record Tells (l : SortReport) (o : Option Sort) : Type 0 where
  pub given : (place : ℕ) → l.fault place ≡ None → (s : Sort) × (o ≡ Some s)
  pub same : (s : Sort) → o ≡ Some s → l.sort ≡ Some s
  pub kept : (place : ℕ) (s : Sort) → o ≡ Some s → l.fault place ≡ None

pub first_none : (d e : Option TermError) → first_of d e ≡ None → d ≡ None
first_none None e h = refl
first_none (Some d) e h = absurd (cc)

pub second_none : (d e : Option TermError) → first_of d e ≡ None → e ≡ None
second_none None e h = h
second_none (Some d) e h = absurd (cc)

pub none_none : (d e : Option TermError) → d ≡ None → e ≡ None → first_of d e ≡ None
none_none d e p q = ap (λ x. first_of x e) p ∙ q

pub rule_kept : (b : Bool) (place : ℕ) → unless b place ≡ None → b ≡ true
rule_kept true place h = refl
rule_kept false place h = absurd (cc)

pub keeps_rule : (b : Bool) (place : ℕ) → b ≡ true → unless b place ≡ None
keeps_rule b place e = ap (λ x. unless x place) e

int_only : (s : Sort) → may_be_int (Some s) ≡ true → s ≡ Int
int_only Int e = refl
int_only (Array n) e = absurd (true≢false (sym e))

of_int_is : (o : Option Sort) (s : Sort) → of_int o ≡ Some s → (o ≡ Some Int) × (s ≡ Int)
of_int_is None s e = absurd (cc)
of_int_is (Some Int) s e = (refl, cc)
of_int_is (Some (Array n)) s e = absurd (cc)

of_ints_is : (o p : Option Sort) (s : Sort) → of_ints o p ≡ Some s → (o ≡ Some Int) × (p ≡ Some Int) × (s ≡ Int)
of_ints_is None p s e = absurd (cc)
of_ints_is (Some Int) p s e = let r = of_int_is p s e in (refl, r.0, r.1)
of_ints_is (Some (Array n)) p s e = absurd (cc)

of_read_is : (o p : Option Sort) (s : Sort) → of_read o p ≡ Some s → (may_be_array o ≡ true) × ((t : Sort) × (o ≡ Some t)) × (p ≡ Some Int) × (s ≡ Int)
of_read_is None p s e = absurd (cc)
of_read_is (Some Int) p s e = absurd (cc)
of_read_is (Some (Array n)) p s e = let r = of_int_is p s e in (refl, (Array n, refl), r.0, r.1)

instead_is : (o : Option Sort) (s t : Sort) → instead s o ≡ Some t → ((u : Sort) × (o ≡ Some u)) × (s ≡ t)
instead_is None s t e = absurd (cc)
instead_is (Some u) s t e = ((u, refl), cc)

of_put_is : (o p q : Option Sort) (s : Sort) → of_put o p q ≡ Some s → (may_be_array o ≡ true) × (o ≡ Some s) × (p ≡ Some Int) × (q ≡ Some Int)
of_put_is None p q s e = absurd (cc)
of_put_is (Some Int) p q s e = absurd (cc)
of_put_is (Some (Array n)) p q s e =
    let r = instead_is (of_ints p q) (Array n) s e in
    let i = of_ints_is p q r.0.0 r.0.1 in
    (refl, ap Some r.1, i.0, i.1)

-- a part without fault that may be an integer is one
int_there : (l : SortReport) (o : Option Sort) → Tells l o → (place : ℕ) → l.fault place ≡ None → may_be_int l.sort ≡ true → o ≡ Some Int
int_there l o t place e h =
    let g = t.given place e in
    g.1 ∙ ap Some (int_only g.0 (ap may_be_int (sym (t.same g.0 g.1)) ∙ h))

may_be_one : (l : SortReport) (o : Option Sort) → Tells l o → o ≡ Some Int → may_be_int l.sort ≡ true
may_be_one l o t e = ap may_be_int (t.same Int e)

pub tells_literal : (b : Bool) → Tells (record { sort = Some Int; parts = 1; fault = unless b }) (of_literal b)
tells_literal true = record { given = λ place e. (Int, refl); same = λ s e. e; kept = λ place s e. refl }
tells_literal false = record { given = λ place e. absurd (cc); same = λ s e. absurd (cc); kept = λ place s e. absurd (cc) }

pub tells_named : (x : List ℕ) (o : Option Sort) → Tells (named x o) o
tells_named x None = record { given = λ place e. absurd (cc); same = λ s e. absurd (cc); kept = λ place s e. absurd (cc) }
tells_named x (Some t) = record { given = λ place e. (t, refl); same = λ s e. e; kept = λ place s e. refl }

tells_bound : (o : Option Sort) → Tells (bound o) o
tells_bound None = record { given = λ place e. absurd (cc); same = λ s e. absurd (cc); kept = λ place s e. absurd (cc) }
tells_bound (Some t) = record { given = λ place e. (t, refl); same = λ s e. e; kept = λ place s e. refl }

tells_unary : (l : SortReport) (o : Option Sort) → Tells l o → Tells (unary l) (of_int o)
tells_unary l o t = record {
  given = λ place e. (Int, ap of_int (int_there l o t (place + 1) (second_none _ _ e) (rule_kept _ place (first_none _ _ e))));
  same = λ s e. ap Some (sym ((of_int_is o s e).1));
  kept = λ place s e. let i = (of_int_is o s e).0 in
      none_none _ _ (keeps_rule _ place (may_be_one l o t i)) (t.kept (place + 1) Int i);
}

pub tells_binary : (l m : SortReport) (o p : Option Sort) → Tells l o → Tells m p → Tells (binary l m) (of_ints o p)
tells_binary l m o p t u = record {
  given = λ place e.
      let rule = rule_kept _ place (first_none _ _ e) in
      let rest = second_none _ _ e in
      let i = int_there l o t (place + 1) (first_none _ _ rest) (and_parts _ _ rule).0 in
      let j = int_there m p u (place + 1 + l.parts) (second_none _ _ rest) (and_parts (may_be_int l.sort) _ rule).1 in
      (Int, ap (λ x. of_ints x p) i ∙ ap of_int j);
  same = λ s e. ap Some (sym ((of_ints_is o p s e).2));
  kept = λ place s e. let i = of_ints_is o p s e in
      none_none _ _ (keeps_rule _ place (and_from _ _ (may_be_one l o t i.0) (may_be_one m p u i.1)))
      (none_none _ _ (t.kept (place + 1) Int i.0) (u.kept (place + 1 + l.parts) Int i.1));
}

read_given : (s : Sort) (p : Option Sort) → may_be_array (Some s) ≡ true → p ≡ Some Int → of_read (Some s) p ≡ Some Int
read_given Int p a e = absurd (true≢false (sym a))
read_given (Array n) p a e = ap of_int e

tells_read : (l m : SortReport) (o p : Option Sort) → Tells l o → Tells m p → Tells (read l m) (of_read o p)
tells_read l m o p t u = record {
  given = λ place e.
      let rule = rule_kept _ place (first_none _ _ e) in
      let rest = second_none _ _ e in
      let g = t.given (place + 1) (first_none _ _ rest) in
      let array = ap may_be_array (sym (t.same g.0 g.1)) ∙ (and_parts _ _ rule).0 in
      let j = int_there m p u (place + 1 + l.parts) (second_none _ _ rest) (and_parts (may_be_array l.sort) _ rule).1 in
      (Int, ap (λ x. of_read x p) g.1 ∙ read_given g.0 p array j);
  same = λ s e. ap Some (sym ((of_read_is o p s e).3));
  kept = λ place s e. let i = of_read_is o p s e in
      let array = ap may_be_array (t.same i.1.0 i.1.1 ∙ sym i.1.1) ∙ i.0 in
      none_none _ _ (keeps_rule _ place (and_from _ _ array (may_be_one m p u i.2)))
      (none_none _ _ (t.kept (place + 1) i.1.0 i.1.1) (u.kept (place + 1 + l.parts) Int i.2));
}

put_given : (s : Sort) (p q : Option Sort) → may_be_array (Some s) ≡ true → p ≡ Some Int → q ≡ Some Int → of_put (Some s) p q ≡ Some s
put_given Int p q a e f = absurd (true≢false (sym a))
put_given (Array n) p q a e f = ap (λ x. instead (Array n) (of_ints x q)) e ∙ ap (λ x. instead (Array n) (of_int x)) f

tells_put : (l m k : SortReport) (o p q : Option Sort) → Tells l o → Tells m p → Tells k q → Tells (put l m k) (of_put o p q)
tells_put l m k o p q t u v = record {
  given = λ place e.
      let rule = rule_kept _ place (first_none _ _ e) in
      let rest = second_none _ _ e in
      let last = second_none _ _ rest in
      let g = t.given (place + 1) (first_none _ _ rest) in
      let front = (and_parts (may_be_array l.sort && may_be_int m.sort) _ rule).0 in
      let array = ap may_be_array (sym (t.same g.0 g.1)) ∙ (and_parts _ _ front).0 in
      let i = int_there m p u (place + 1 + l.parts) (first_none _ _ last) (and_parts (may_be_array l.sort) _ front).1 in
      let j = int_there k q v (place + 1 + l.parts + m.parts) (second_none _ _ last) (and_parts (may_be_array l.sort && may_be_int m.sort) _ rule).1 in
      (g.0, ap (λ x. of_put x p q) g.1 ∙ put_given g.0 p q array i j);
  same = λ s e. t.same s (of_put_is o p q s e).1;
  kept = λ place s e. let i = of_put_is o p q s e in
      let array = ap may_be_array (t.same s i.1 ∙ sym i.1) ∙ i.0 in
      none_none _ _ (keeps_rule _ place (and_from _ _ (and_from _ _ array (may_be_one m p u i.2)) (may_be_one k q v i.3)))
      (none_none _ _ (t.kept (place + 1) s i.1) (none_none _ _ (u.kept (place + 1 + l.parts) Int i.2) (v.kept (place + 1 + l.parts + m.parts) Int i.3)));
}

module _ (scope : List Entry) (binders : List Sort) where
  abbrev Told : Term → Type 0
  Told t = Tells (sort_report scope binders t) (sort_in scope binders t)

  abbrev Layer : Type 0
  Layer = Term-F ((t : Term) × Told t)

  abbrev under : Layer → Term-F Term
  under = map-Term ((t : Term) × Told t) Term (λ e. e.0)

  told_layer : (y : Layer) → Tells (sort_report_step scope binders (map-Term Term SortReport (sort_report scope binders) (under y))) (sort_step scope binders (map-Term Term (Option Sort) (sort_in scope binders) (under y)))
  told_layer (Term-F.Lit n) = tells_literal (is_literal n)
  told_layer (Term-F.Var x) = tells_named x _
  told_layer (Term-F.Init x) = tells_named x _
  told_layer (Term-F.Const x) = tells_named x _
  told_layer (Term-F.Bound k) = tells_bound _
  told_layer (Term-F.Neg a) = tells_unary _ _ a.1
  told_layer (Term-F.Add a b) = tells_binary _ _ _ _ a.1 b.1
  told_layer (Term-F.Sub a b) = tells_binary _ _ _ _ a.1 b.1
  told_layer (Term-F.Mul a b) = tells_binary _ _ _ _ a.1 b.1
  told_layer (Term-F.Div a b) = tells_binary _ _ _ _ a.1 b.1
  told_layer (Term-F.Mod a b) = tells_binary _ _ _ _ a.1 b.1
  told_layer (Term-F.Read a i) = tells_read _ _ _ _ a.1 i.1
  told_layer (Term-F.Put a i e) = tells_put _ _ _ _ _ _ a.1 i.1 e.1
  told_layer (Term-F.Fun f args) = record { given = λ place e. absurd (cc); same = λ s e. absurd (cc); kept = λ place s e. absurd (cc) }

  told_at : (y : Layer) → Told (roll-Term (under y))
  told_at y =
      subst (Tells (sort_report scope binders (roll-Term (under y)))) (sym (fold-roll-Term (Option Sort) (sort_step scope binders) (under y)))
      (subst (λ l. Tells l (sort_step scope binders (map-Term Term (Option Sort) (sort_in scope binders) (under y)))) (sym (fold-roll-Term SortReport (sort_report_step scope binders) (under y))) (told_layer y))

  pub told : (t : Term) → Told t
  told = ind-Term Told (λ x y is. subst (λ z. Told (roll-Term z)) is (told_at y))

pub no_fault : (scope : List Entry) (binders : List Sort) (t : Term) (place : ℕ) (sort : Sort) → (sort_report scope binders t).fault place ≡ None → (sort_report scope binders t).sort ≡ Some sort → sort_in scope binders t ≡ Some sort
no_fault scope binders t place sort h e =
    let l = told scope binders t in
    let g = l.given place h in
    g.1 ∙ sym (l.same g.0 g.1) ∙ e
