-- Which initial variables stand in a term and a formula.
use Rattle.std.proofs.Common.{◌≡◌, ℕ, Bool, true, false, ◌||◌, List, [], ◌∷◌, map, sym, ◌∙◌, subst, true≢false}
use Rattle.std.proofs.lemmas.Bool.{not-false, or_parts}
use Rattle.std.proofs.lemmas.Slice.Eq.{bytes_eq-Decides}
use Rattle.rw_terms.specs.declared.term.Term.{Term}
use Rattle.rw_terms.specs.declared.term.Term.TheOpen.{Term-F}
use Rattle.rw_terms.specs.declared.term.Term.TheViews.{roll-Term}
use Rattle.rw_terms.specs.declared.term.Term.TheFolds.{map-Term, ind-Term, fold-roll-Term}
use Rattle.rw_terms.specs.declared.term.Formula.{Formula}
use Rattle.rw_terms.specs.declared.term.Formula.TheOpen.{Formula-F}
use Rattle.rw_terms.specs.declared.term.Formula.TheViews.{roll-Formula}
use Rattle.rw_terms.specs.declared.term.Formula.TheFolds.{map-Formula, ind-Formula, fold-roll-Formula}
use Rattle.rw_terms.specs.Mentions.{any_of}
use Rattle.rw_faults.specs.Initial.{is_listed, outside_step, term_outside, terms_outside, formula_outside_step, initial_outside}
use Rattle.rw_subst.specs.declared.slot.Form.TheVariants as form
use Rattle.rw_subst.specs.Stands.{stands_step, stands_in_term, stands_in_terms, formula_stands_step, stands_in}
use Rattle.rw_soundness.proofs.Bits.{either}

module _ (names : List (List ℕ)) (x : List ℕ) where
  abbrev Listed : Type 0
  Listed = is_listed names x ≡ true

  abbrev out : Term → Bool
  out = term_outside names

  abbrev has : Term → Bool
  has = stands_in_term form.Initial x

  abbrev TermClaim : Term → Type 0
  TermClaim t = out t ≡ false → has t ≡ true → Listed

  abbrev Part : Type 0
  Part = (t : Term) × TermClaim t

  abbrev under : Term-F Part → Term-F Term
  under = map-Term Part Term (λ e. e.0)

  two : (a b : Part) → (out a.0 || out b.0) ≡ false → (has a.0 || has b.0) ≡ true → Listed
  two a b e h = either Listed (has a.0) (has b.0) (a.1 (or_parts (out a.0) (out b.0) e).0) (b.1 (or_parts (out a.0) (out b.0) e).1) h

  args : (ts : List Part) → any_of (map out (map (λ e. e.0) ts)) ≡ false → any_of (map has (map (λ e. e.0) ts)) ≡ true → Listed
  args [] e h = absurd (true≢false (sym h))
  args (t ∷ ts) e h =
      let rest = any_of (map out (map (λ e. e.0) ts)) in
      either Listed (has t.0) (any_of (map has (map (λ e. e.0) ts))) (t.1 (or_parts (out t.0) rest e).0) (args ts (or_parts (out t.0) rest e).1) h

  term_layer : (y : Term-F Part) → outside_step names (map-Term Term Bool out (under y)) ≡ false → stands_step form.Initial x (map-Term Term Bool has (under y)) ≡ true → Listed
  term_layer (Term-F.Lit n) e h = absurd (true≢false (sym h))
  term_layer (Term-F.Var n) e h = absurd (true≢false (sym h))
  term_layer (Term-F.Init n) e h = subst (λ z. is_listed names z ≡ true) (sym ((bytes_eq-Decides x n).0 h)) (not-false (is_listed names n) e)
  term_layer (Term-F.Const n) e h = absurd (true≢false (sym h))
  term_layer (Term-F.Bound k) e h = absurd (true≢false (sym h))
  term_layer (Term-F.Neg a) e h = a.1 e h
  term_layer (Term-F.Add a b) e h = two a b e h
  term_layer (Term-F.Sub a b) e h = two a b e h
  term_layer (Term-F.Mul a b) e h = two a b e h
  term_layer (Term-F.Div a b) e h = two a b e h
  term_layer (Term-F.Mod a b) e h = two a b e h
  term_layer (Term-F.Read a b) e h = two a b e h
  term_layer (Term-F.Put a i z) e h =
      let first = (or_parts (out a.0 || out i.0) (out z.0) e).0 in
      either Listed (has a.0) (has i.0 || has z.0) (a.1 (or_parts (out a.0) (out i.0) first).0)
      (either Listed (has i.0) (has z.0) (i.1 (or_parts (out a.0) (out i.0) first).1) (z.1 (or_parts (out a.0 || out i.0) (out z.0) e).1)) h
  term_layer (Term-F.Fun f ts) e h = args ts e h

  term_at : (y : Term-F Part) → TermClaim (roll-Term (under y))
  term_at y e h =
      term_layer y (sym (fold-roll-Term Bool (outside_step names) (under y)) ∙ e) (sym (fold-roll-Term Bool (stands_step form.Initial x) (under y)) ∙ h)

  -- an initial variable that stands in a term is one of these names, where none but theirs does
  pub initial_in_term : (t : Term) → TermClaim t
  initial_in_term = ind-Term TermClaim (λ u y is. subst (λ z. TermClaim (roll-Term z)) is (term_at y))

  terms : (ts : List Term) → terms_outside names ts ≡ false → stands_in_terms form.Initial x ts ≡ true → Listed
  terms [] e h = absurd (true≢false (sym h))
  terms (t ∷ ts) e h =
      either Listed (has t) (stands_in_terms form.Initial x ts) (initial_in_term t (or_parts (out t) (terms_outside names ts) e).0) (terms ts (or_parts (out t) (terms_outside names ts) e).1) h

  abbrev outside : Formula → Bool
  outside = initial_outside names

  abbrev stands : Formula → Bool
  stands = stands_in form.Initial x

  abbrev Claim : Formula → Type 0
  Claim f = outside f ≡ false → stands f ≡ true → Listed

  abbrev Sub : Type 0
  Sub = (f : Formula) × Claim f

  abbrev inside : Formula-F Sub → Formula-F Formula
  inside = map-Formula Sub Formula (λ e. e.0)

  compared : (t u : Term) → (out t || out u) ≡ false → (has t || has u) ≡ true → Listed
  compared t u e h = either Listed (has t) (has u) (initial_in_term t (or_parts (out t) (out u) e).0) (initial_in_term u (or_parts (out t) (out u) e).1) h

  both : (f g : Sub) → (outside f.0 || outside g.0) ≡ false → (stands f.0 || stands g.0) ≡ true → Listed
  both f g e h = either Listed (stands f.0) (stands g.0) (f.1 (or_parts (outside f.0) (outside g.0) e).0) (g.1 (or_parts (outside f.0) (outside g.0) e).1) h

  layer : (y : Formula-F Sub) → formula_outside_step names (map-Formula Formula Bool outside (inside y)) ≡ false → formula_stands_step form.Initial x (map-Formula Formula Bool stands (inside y)) ≡ true → Listed
  layer Formula-F.True e h = absurd (true≢false (sym h))
  layer Formula-F.False e h = absurd (true≢false (sym h))
  layer (Formula-F.Eq t u) e h = compared t u e h
  layer (Formula-F.Less t u) e h = compared t u e h
  layer (Formula-F.AtMost t u) e h = compared t u e h
  layer (Formula-F.Not f) e h = f.1 e h
  layer (Formula-F.And f g) e h = both f g e h
  layer (Formula-F.Or f g) e h = both f g e h
  layer (Formula-F.Imp f g) e h = both f g e h
  layer (Formula-F.All s f) e h = f.1 e h
  layer (Formula-F.Any s f) e h = f.1 e h
  layer (Formula-F.App p ts) e h = terms ts e h

  formula_at : (y : Formula-F Sub) → Claim (roll-Formula (inside y))
  formula_at y e h =
      layer y (sym (fold-roll-Formula Bool (formula_outside_step names) (inside y)) ∙ e) (sym (fold-roll-Formula Bool (formula_stands_step form.Initial x) (inside y)) ∙ h)

  -- the same of a formula
  pub initial_in : (f : Formula) → Claim f
  initial_in = ind-Formula Claim (λ u y is. subst (λ z. Claim (roll-Formula z)) is (formula_at y))

-- no initial variable stands where none may
pub none_in_term : (x : List ℕ) (t : Term) → term_outside [] t ≡ false → stands_in_term form.Initial x t ≡ true → ⊥
none_in_term x t e h = true≢false (sym (initial_in_term [] x t e h))

pub none_in : (x : List ℕ) (f : Formula) → initial_outside [] f ≡ false → stands_in form.Initial x f ≡ true → ⊥
none_in x f e h = true≢false (sym (initial_in [] x f e h))
