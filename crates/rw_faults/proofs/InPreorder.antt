-- What is told of a term is the first of its parts in preorder that breaks its rule.
use Rattle.std.proofs.Common.{◌≡◌, ℕ, ◌+◌, List, [], ◌∷◌, ◌++◌, map, sum, length, suc, Option, Some, None, refl, sym, ap, ◌∙◌, subst, arith, length-append}
use Rattle.std.proofs.lemmas.List.Sums.{sum_by-cons}
use Rattle.std.specs.List.{flat_map}
use Rattle.rw_terms.specs.declared.error.TermError.{TermError}
use Rattle.rw_terms.specs.declared.scope.Entry.{Entry}
use Rattle.rw_terms.specs.declared.term.Sort.{Sort}
use Rattle.rw_terms.specs.declared.term.Term.{Term}
use Rattle.rw_terms.specs.declared.term.Term.TheOpen.{Term-F}
use Rattle.rw_terms.specs.declared.term.Term.TheViews.{roll-Term, out-Term, out-roll-Term}
use Rattle.rw_terms.specs.declared.term.Term.TheFolds.{fold-Term, map-Term, ind-Term, fold-roll-Term}
use Rattle.rw_terms.specs.Sorts.{SortReport, sort_report, sort_report_step, first_of, named, bound}
use Rattle.rw_faults.specs.Preorder.{Listed, parts_below, listed_step, preorder, own_fault, first_broken, FirstInPreorder}

pub first_chain : (d e f : Option TermError) → first_of (first_of d e) f ≡ first_of d (first_of e f)
first_chain None e f = refl
first_chain (Some d) e f = refl

module _ (scope : List Entry) (binders : List Sort) where
  abbrev report : Term → SortReport
  report = sort_report scope binders

  abbrev first : List Term → ℕ → Option TermError
  first = first_broken scope binders

  first_append : (ts us : List Term) (place : ℕ) → first (ts ++ us) place ≡ first_of (first ts place) (first us (place + length ts))
  first_append [] us place = ap (first us) (omega arith)
  first_append (t ∷ ts) us place =
      ap (first_of (own_fault scope binders (out-Term t) place)) (first_append ts us (place + 1) ∙ ap (λ n. first_of (first ts (place + 1)) (first us n)) (omega arith))
      ∙ sym (first_chain (own_fault scope binders (out-Term t) place) (first ts (place + 1)) (first us (place + suc (length ts))))

  -- the parts of a term are listed, and its fault is the first of theirs
  record IsListed (t : Term) (l : Listed) : Type 0 where
    pub itself : l.0 ≡ t
    pub long : (report t).parts ≡ length l.1
    pub fault : (place : ℕ) → (report t).fault place ≡ first l.1 place

  abbrev listed : Term → Listed
  listed = fold-Term Listed listed_step

  abbrev Claim : Term → Type 0
  Claim t = IsListed t (listed t)

  abbrev Part : Type 0
  Part = (t : Term) × Claim t

  abbrev Layer : Type 0
  Layer = Term-F Part

  abbrev under : Layer → Term-F Term
  under = map-Term Part Term (λ e. e.0)

  abbrev below : Layer → Term-F Listed
  below y = map-Term Term Listed listed (under y)

  abbrev of_list : (a : Part) → List Term
  of_list a = (listed a.0).1

  alone : (d : Option TermError) → d ≡ first_of d None
  alone None = refl
  alone (Some d) = refl

  two_faults : (a b : Part) (place : ℕ) → first_of ((report a.0).fault place) ((report b.0).fault (place + (report a.0).parts)) ≡ first (of_list a ++ of_list b) place
  two_faults a b place =
      (λ i. first_of (a.1.fault place i) (b.1.fault (place + a.1.long i) i)) ∙ sym (first_append (of_list a) (of_list b) place)

  three_faults : (a b c : Part) (place : ℕ) →
      first_of ((report a.0).fault place) (first_of ((report b.0).fault (place + (report a.0).parts)) ((report c.0).fault (place + (report a.0).parts + (report b.0).parts)))
      ≡ first ((of_list a ++ of_list b) ++ of_list c) place
  three_faults a b c place =
      sym (first_chain ((report a.0).fault place) ((report b.0).fault (place + (report a.0).parts)) ((report c.0).fault (place + (report a.0).parts + (report b.0).parts)))
      ∙ (λ i. first_of (two_faults a b place i) (c.1.fault (place + a.1.long i + b.1.long i) i))
      ∙ ap (λ n. first_of (first (of_list a ++ of_list b) place) (first (of_list c) n)) (omega (arith, length-append (of_list a) (of_list b)))
      ∙ sym (first_append (of_list a ++ of_list b) (of_list c) place)

  same_parts : (args : List Part) → map (λ l. l.0) (map listed (map (λ e. e.0) args)) ≡ map (λ e. e.0) args
  same_parts [] = refl
  same_parts (a ∷ args) = λ i. a.1.itself i ∷ same_parts args i

  -- the terms that are listed are the layer's
  same_layer : (y : Layer) → map-Term Listed Term (λ l. l.0) (below y) ≡ under y
  same_layer (Term-F.Lit n) = refl
  same_layer (Term-F.Var x) = refl
  same_layer (Term-F.Init x) = refl
  same_layer (Term-F.Const x) = refl
  same_layer (Term-F.Bound k) = refl
  same_layer (Term-F.Neg a) = λ i. Term-F.Neg (a.1.itself i)
  same_layer (Term-F.Add a b) = λ i. Term-F.Add (a.1.itself i) (b.1.itself i)
  same_layer (Term-F.Sub a b) = λ i. Term-F.Sub (a.1.itself i) (b.1.itself i)
  same_layer (Term-F.Mul a b) = λ i. Term-F.Mul (a.1.itself i) (b.1.itself i)
  same_layer (Term-F.Div a b) = λ i. Term-F.Div (a.1.itself i) (b.1.itself i)
  same_layer (Term-F.Mod a b) = λ i. Term-F.Mod (a.1.itself i) (b.1.itself i)
  same_layer (Term-F.Read a b) = λ i. Term-F.Read (a.1.itself i) (b.1.itself i)
  same_layer (Term-F.Put a b c) = λ i. Term-F.Put (a.1.itself i) (b.1.itself i) (c.1.itself i)
  same_layer (Term-F.Fun f args) = λ i. Term-F.Fun f (same_parts args i)

  abbrev step : Layer → SortReport
  step y = sort_report_step scope binders (map-Term Term SortReport report (under y))

  named_parts : (x : List ℕ) (o : Option Sort) → (named x o).parts ≡ 1
  named_parts x None = refl
  named_parts x (Some s) = refl

  bound_parts : (o : Option Sort) → (bound o).parts ≡ 1
  bound_parts None = refl
  bound_parts (Some s) = refl

  args_long : (args : List Part) → sum (map (λ l. l.parts) (map report (map (λ e. e.0) args))) ≡ length (flat_map (λ l. l.1) (map listed (map (λ e. e.0) args)))
  args_long [] = refl
  args_long (a ∷ args) =
      sum_by-cons (λ n. n) (report a.0).parts (map (λ l. l.parts) (map report (map (λ e. e.0) args)))
      ∙ (λ i. a.1.long i + args_long args i)
      ∙ sym (length-append (of_list a) (flat_map (λ l. l.1) (map listed (map (λ e. e.0) args))))

  long_layer : (y : Layer) → (step y).parts ≡ suc (length (parts_below (below y)))
  long_layer (Term-F.Lit n) = refl
  long_layer (Term-F.Var x) = named_parts x _
  long_layer (Term-F.Init x) = named_parts x _
  long_layer (Term-F.Const x) = named_parts x _
  long_layer (Term-F.Bound k) = bound_parts _
  long_layer (Term-F.Neg a) = omega (arith, a.1.long)
  long_layer (Term-F.Add a b) = omega (arith, a.1.long, b.1.long, length-append (of_list a) (of_list b))
  long_layer (Term-F.Sub a b) = omega (arith, a.1.long, b.1.long, length-append (of_list a) (of_list b))
  long_layer (Term-F.Mul a b) = omega (arith, a.1.long, b.1.long, length-append (of_list a) (of_list b))
  long_layer (Term-F.Div a b) = omega (arith, a.1.long, b.1.long, length-append (of_list a) (of_list b))
  long_layer (Term-F.Mod a b) = omega (arith, a.1.long, b.1.long, length-append (of_list a) (of_list b))
  long_layer (Term-F.Read a b) = omega (arith, a.1.long, b.1.long, length-append (of_list a) (of_list b))
  long_layer (Term-F.Put a b c) =
      omega (arith, a.1.long, b.1.long, c.1.long, length-append (of_list a) (of_list b), length-append (of_list a ++ of_list b) (of_list c))
  long_layer (Term-F.Fun f args) = ap (λ n. n + 1) (args_long args) ∙ omega arith

  fault_layer : (y : Layer) (place : ℕ) → (step y).fault place ≡ first_of (own_fault scope binders (under y) place) (first (parts_below (below y)) (place + 1))
  fault_layer (Term-F.Lit n) place = alone _
  fault_layer (Term-F.Var x) place = alone _
  fault_layer (Term-F.Init x) place = alone _
  fault_layer (Term-F.Const x) place = alone _
  fault_layer (Term-F.Bound k) place = alone _
  fault_layer (Term-F.Neg a) place = ap (first_of _) (a.1.fault (place + 1))
  fault_layer (Term-F.Add a b) place = ap (first_of _) (two_faults a b (place + 1))
  fault_layer (Term-F.Sub a b) place = ap (first_of _) (two_faults a b (place + 1))
  fault_layer (Term-F.Mul a b) place = ap (first_of _) (two_faults a b (place + 1))
  fault_layer (Term-F.Div a b) place = ap (first_of _) (two_faults a b (place + 1))
  fault_layer (Term-F.Mod a b) place = ap (first_of _) (two_faults a b (place + 1))
  fault_layer (Term-F.Read a b) place = ap (first_of _) (two_faults a b (place + 1))
  fault_layer (Term-F.Put a b c) place = ap (first_of _) (three_faults a b c (place + 1))
  fault_layer (Term-F.Fun f args) place = refl

  listed_at : (y : Layer) → IsListed (roll-Term (under y)) (listed_step (below y))
  listed_at y =
      let is = fold-roll-Term SortReport (sort_report_step scope binders) (under y) in record {
        itself = ap roll-Term (same_layer y);
        long = ap (λ l. l.parts) is ∙ long_layer y;
        fault = λ place.
            ap (λ l. l.fault place) is
            ∙ fault_layer y place
            ∙ ap (λ z. first_of (own_fault scope binders z place) (first (parts_below (below y)) (place + 1)))
            (sym (ap out-Term (ap roll-Term (same_layer y)) ∙ out-roll-Term (under y)));
      }

  claim_at : (y : Layer) → Claim (roll-Term (under y))
  claim_at y = subst (IsListed (roll-Term (under y))) (sym (fold-roll-Term Listed listed_step (under y))) (listed_at y)

  claim : (t : Term) → Claim t
  claim = ind-Term Claim (λ x y is. subst (λ z. Claim (roll-Term z)) is (claim_at y))

pub first_in_preorder : FirstInPreorder
first_in_preorder scope binders t place = (claim scope binders t).fault place

pub parts_are_listed : (scope : List Entry) (binders : List Sort) (t : Term) → (sort_report scope binders t).parts ≡ length (preorder t)
parts_are_listed scope binders t = (claim scope binders t).long
