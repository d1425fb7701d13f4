-- What is told of a formula is the first of its parts in preorder that breaks its rule.
use Rattle.std.proofs.Common.{◌≡◌, ℕ, ◌+◌, List, [], ◌∷◌, ◌++◌, map, find, length, suc, Option, Some, None, refl, sym, ap, ◌∙◌, subst, arith, length-append}
use Rattle.std.specs.List.{flat_map}
use Rattle.std.proofs.lemmas.List.Sums.{sum_by-cons}
use Rattle.rw_terms.specs.declared.error.TermError.{TermError}
use Rattle.rw_terms.specs.declared.scope.Entry.{Entry}
use Rattle.rw_terms.specs.declared.scope.Head.{Head}
use Rattle.rw_terms.specs.declared.term.Sort.{Sort}
use Rattle.rw_terms.specs.declared.term.Term.{Term}
use Rattle.rw_terms.specs.declared.term.Term.TheViews.{out-Term}
use Rattle.rw_terms.specs.declared.term.Formula.{Formula}
use Rattle.rw_terms.specs.declared.term.Formula.TheOpen.{Formula-F}
use Rattle.rw_terms.specs.declared.term.Formula.TheViews.{roll-Formula, out-Formula, out-roll-Formula}
use Rattle.rw_terms.specs.declared.term.Formula.TheFolds.{fold-Formula, map-Formula, ind-Formula, fold-roll-Formula}
use Rattle.rw_terms.specs.Size.{term_weight, terms_weight}
use Rattle.rw_terms.specs.Sorts.{SortReport, sort_report, first_of}
use Rattle.rw_terms.specs.Formed.{FormulaReport, formula_report, formula_report_step, is_head, first_fault, application}
use Rattle.rw_faults.specs.Preorder.{OfTerm, Part, ListedFormula, parts_of_term, preorder, own_fault, first_broken, formula_parts_below, listed_formula_step, application_fault, formula_own_fault, part_fault, first_broken_part, FirstInFormula}
use Rattle.rw_terms.proofs.SortReports.{parts_are_weight}
use Rattle.rw_faults.proofs.InPreorder.{first_chain, first_in_preorder, parts_are_listed}

length_of_map : {X Y : Type 0} (f : X → Y) (xs : List X) → length (map f xs) ≡ length xs
length_of_map f [] = refl
length_of_map f (x ∷ xs) = ap suc (length_of_map f xs)

module _ (scope : List Entry) (heads : List Head) where
  abbrev first : List Part → ℕ → Option TermError
  first = first_broken_part scope heads

  first_append : (ps qs : List Part) (place : ℕ) → first (ps ++ qs) place ≡ first_of (first ps place) (first qs (place + length ps))
  first_append [] qs place = ap (first qs) (omega arith)
  first_append (p ∷ ps) qs place =
      ap (first_of (part_fault scope heads p place)) (first_append ps qs (place + 1) ∙ ap (λ n. first_of (first ps (place + 1)) (first qs n)) (omega arith))
      ∙ sym (first_chain (part_fault scope heads p place) (first ps (place + 1)) (first qs (place + suc (length ps))))

  abbrev report : Formula → FormulaReport
  report = formula_report scope heads

  module _ (binders : List Sort) where
    abbrev term_report : Term → SortReport
    term_report = sort_report scope binders

    first_terms : (ts : List Term) (place : ℕ) → first_broken scope binders ts place ≡ first (map (OfTerm binders) ts) place
    first_terms [] place = refl
    first_terms (t ∷ ts) place = ap (first_of (own_fault scope binders (out-Term t) place)) (first_terms ts (place + 1))

    term_fault : (t : Term) (place : ℕ) → (term_report t).fault place ≡ first (parts_of_term binders t) place
    term_fault t place = first_in_preorder scope binders t place ∙ first_terms (preorder t) place

    term_long : (t : Term) → (term_report t).parts ≡ length (parts_of_term binders t)
    term_long t = parts_are_listed scope binders t ∙ sym (length_of_map (OfTerm binders) (preorder t))

    weight_long : (t : Term) → term_weight t ≡ length (parts_of_term binders t)
    weight_long t = sym (parts_are_weight scope binders t) ∙ term_long t

    two_terms : (t u : Term) (place : ℕ) → first_of ((term_report t).fault place) ((term_report u).fault (place + (term_report t).parts)) ≡ first (parts_of_term binders t ++ parts_of_term binders u) place
    two_terms t u place =
        (λ i. first_of (term_fault t place i) (term_fault u (place + term_long t i) i)) ∙ sym (first_append (parts_of_term binders t) (parts_of_term binders u) place)

    two_long : (t u : Term) → term_weight t + term_weight u + 1 ≡ suc (length (parts_of_term binders t ++ parts_of_term binders u))
    two_long t u = omega (arith, weight_long t, weight_long u, length-append (parts_of_term binders t) (parts_of_term binders u))

    args_fault : (args : List Term) (place : ℕ) → first_fault (map term_report args) place ≡ first (flat_map (parts_of_term binders) args) place
    args_fault [] place = refl
    args_fault (a ∷ args) place =
        (λ i. first_of (term_fault a place i) (args_fault args (place + term_long a i) i)) ∙ sym (first_append (parts_of_term binders a) (flat_map (parts_of_term binders) args) place)

    args_long : (args : List Term) → terms_weight args ≡ length (flat_map (parts_of_term binders) args)
    args_long [] = refl
    args_long (a ∷ args) =
        sum_by-cons (λ n. n) (term_weight a) (map term_weight args)
        ∙ (λ i. weight_long a i + args_long args i)
        ∙ sym (length-append (parts_of_term binders a) (flat_map (parts_of_term binders) args))

  applied : (head : Option Head) (p : List ℕ) (reports : List SortReport) (place : ℕ) → application head p reports place ≡ first_of (application_fault scope heads head p reports place) (first_fault reports (place + 1))
  applied None p reports place = refl
  applied (Some head) p reports place = refl

  -- the parts of a formula are listed, and its fault is the first of theirs
  record IsListed (f : Formula) (l : ListedFormula) : Type 0 where
    pub itself : l.0 ≡ f
    pub long : (binders : List Sort) → (report f).parts ≡ length (l.1 binders)
    pub fault : (binders : List Sort) (place : ℕ) → (report f).fault binders place ≡ first (l.1 binders) place

  abbrev listed : Formula → ListedFormula
  listed = fold-Formula ListedFormula listed_formula_step

  abbrev Claim : Formula → Type 0
  Claim f = IsListed f (listed f)

  abbrev Sub : Type 0
  Sub = (f : Formula) × Claim f

  abbrev Layer : Type 0
  Layer = Formula-F Sub

  abbrev under : Layer → Formula-F Formula
  under = map-Formula Sub Formula (λ e. e.0)

  abbrev below : Layer → Formula-F ListedFormula
  below y = map-Formula Formula ListedFormula listed (under y)

  abbrev step : Layer → FormulaReport
  step y = formula_report_step scope heads (map-Formula Formula FormulaReport report (under y))

  abbrev of_list : (f : Sub) → List Sort → List Part
  of_list f = (listed f.0).1

  two_faults : (f g : Sub) (binders : List Sort) (place : ℕ) →
      first_of ((report f.0).fault binders place) ((report g.0).fault binders (place + (report f.0).parts)) ≡ first (of_list f binders ++ of_list g binders) place
  two_faults f g binders place =
      (λ i. first_of (f.1.fault binders place i) (g.1.fault binders (place + f.1.long binders i) i)) ∙ sym (first_append (of_list f binders) (of_list g binders) place)

  two_parts : (f g : Sub) (binders : List Sort) → (report f.0).parts + (report g.0).parts + 1 ≡ suc (length (of_list f binders ++ of_list g binders))
  two_parts f g binders = omega (arith, f.1.long binders, g.1.long binders, length-append (of_list f binders) (of_list g binders))

  same_layer : (y : Layer) → map-Formula ListedFormula Formula (λ l. l.0) (below y) ≡ under y
  same_layer Formula-F.True = refl
  same_layer Formula-F.False = refl
  same_layer (Formula-F.Eq t u) = refl
  same_layer (Formula-F.Less t u) = refl
  same_layer (Formula-F.AtMost t u) = refl
  same_layer (Formula-F.Not f) = λ i. Formula-F.Not (f.1.itself i)
  same_layer (Formula-F.And f g) = λ i. Formula-F.And (f.1.itself i) (g.1.itself i)
  same_layer (Formula-F.Or f g) = λ i. Formula-F.Or (f.1.itself i) (g.1.itself i)
  same_layer (Formula-F.Imp f g) = λ i. Formula-F.Imp (f.1.itself i) (g.1.itself i)
  same_layer (Formula-F.All s f) = λ i. Formula-F.All s (f.1.itself i)
  same_layer (Formula-F.Any s f) = λ i. Formula-F.Any s (f.1.itself i)
  same_layer (Formula-F.App p args) = refl

  long_layer : (y : Layer) (binders : List Sort) → (step y).parts ≡ suc (length (formula_parts_below (below y) binders))
  long_layer Formula-F.True binders = refl
  long_layer Formula-F.False binders = refl
  long_layer (Formula-F.Eq t u) binders = two_long binders t u
  long_layer (Formula-F.Less t u) binders = two_long binders t u
  long_layer (Formula-F.AtMost t u) binders = two_long binders t u
  long_layer (Formula-F.Not f) binders = omega (arith, f.1.long binders)
  long_layer (Formula-F.And f g) binders = two_parts f g binders
  long_layer (Formula-F.Or f g) binders = two_parts f g binders
  long_layer (Formula-F.Imp f g) binders = two_parts f g binders
  long_layer (Formula-F.All s f) binders = omega (arith, f.1.long (s ∷ binders))
  long_layer (Formula-F.Any s f) binders = omega (arith, f.1.long (s ∷ binders))
  long_layer (Formula-F.App p args) binders = omega (arith, args_long binders args)

  fault_layer : (y : Layer) (binders : List Sort) (place : ℕ) → (step y).fault binders place ≡ first_of (formula_own_fault scope heads binders (under y) place) (first (formula_parts_below (below y) binders) (place + 1))
  fault_layer Formula-F.True binders place = refl
  fault_layer Formula-F.False binders place = refl
  fault_layer (Formula-F.Eq t u) binders place = ap (first_of _) (two_terms binders t u (place + 1))
  fault_layer (Formula-F.Less t u) binders place = ap (first_of _) (two_terms binders t u (place + 1))
  fault_layer (Formula-F.AtMost t u) binders place = ap (first_of _) (two_terms binders t u (place + 1))
  fault_layer (Formula-F.Not f) binders place = f.1.fault binders (place + 1)
  fault_layer (Formula-F.And f g) binders place = two_faults f g binders (place + 1)
  fault_layer (Formula-F.Or f g) binders place = two_faults f g binders (place + 1)
  fault_layer (Formula-F.Imp f g) binders place = two_faults f g binders (place + 1)
  fault_layer (Formula-F.All s f) binders place = ap (first_of _) (f.1.fault (s ∷ binders) (place + 1))
  fault_layer (Formula-F.Any s f) binders place = ap (first_of _) (f.1.fault (s ∷ binders) (place + 1))
  fault_layer (Formula-F.App p args) binders place =
      applied (find (is_head p) heads) p (map (term_report binders) args) place
      ∙ ap (first_of (application_fault scope heads (find (is_head p) heads) p (map (term_report binders) args) place)) (args_fault binders args (place + 1))

  listed_at : (y : Layer) → IsListed (roll-Formula (under y)) (listed_formula_step (below y))
  listed_at y =
      let is = fold-roll-Formula FormulaReport (formula_report_step scope heads) (under y) in record {
        itself = ap roll-Formula (same_layer y);
        long = λ binders. ap (λ l. l.parts) is ∙ long_layer y binders;
        fault = λ binders place.
            ap (λ l. l.fault binders place) is
            ∙ fault_layer y binders place
            ∙ ap (λ z. first_of (formula_own_fault scope heads binders z place) (first (formula_parts_below (below y) binders) (place + 1)))
            (sym (ap out-Formula (ap roll-Formula (same_layer y)) ∙ out-roll-Formula (under y)));
      }

  claim_at : (y : Layer) → Claim (roll-Formula (under y))
  claim_at y = subst (IsListed (roll-Formula (under y))) (sym (fold-roll-Formula ListedFormula listed_formula_step (under y))) (listed_at y)

  claim : (f : Formula) → Claim f
  claim = ind-Formula Claim (λ x y is. subst (λ z. Claim (roll-Formula z)) is (claim_at y))

pub first_in_formula : FirstInFormula
first_in_formula scope heads f binders place = (claim scope heads f).fault binders place
