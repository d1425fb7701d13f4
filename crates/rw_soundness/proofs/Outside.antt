-- Which initial variables are left when a formula is replaced.
use Rattle.std.proofs.Common.{◌≡◌, ℕ, suc, Bool, false, not, ◌||◌, List, [], ◌∷◌, map, refl, sym, ap, ◌∙◌, subst}
use Rattle.std.proofs.lemmas.Bool.{or_from, or_parts}
use Rattle.rw_terms.specs.declared.term.Term.{Term}
use Rattle.rw_terms.specs.declared.term.Term.TheVariants as v
use Rattle.rw_terms.specs.declared.term.Term.TheOpen.{Term-F}
use Rattle.rw_terms.specs.declared.term.Term.TheViews.{roll-Term}
use Rattle.rw_terms.specs.declared.term.Term.TheFolds.{map-Term, ind-Term, fold-roll-Term}
use Rattle.rw_terms.specs.declared.term.Formula.{Formula}
use Rattle.rw_terms.specs.declared.term.Formula.TheVariants as formula
use Rattle.rw_terms.specs.declared.term.Formula.TheOpen.{Formula-F}
use Rattle.rw_terms.specs.declared.term.Formula.TheViews.{roll-Formula}
use Rattle.rw_terms.specs.declared.term.Formula.TheFolds.{map-Formula, ind-Formula, fold-roll-Formula}
use Rattle.rw_terms.specs.Mentions.{any_of}
use Rattle.rw_faults.specs.Initial.{is_listed, outside_step, term_outside, terms_outside, formula_outside_step, initial_outside}
use Rattle.rw_subst.specs.declared.slot.Form.{Form}
use Rattle.rw_subst.specs.declared.slot.Form.TheVariants as form
use Rattle.rw_subst.specs.declared.slot.Change.{Change}
use Rattle.rw_subst.specs.Slots.{changed}
use Rattle.rw_subst.specs.Leaves.{rebuilt_step, rebuilt_term, rebuilt_formula_step, rebuilt_formula}
use Rattle.rw_subst.specs.Replaced.{changed_leaves, replaced_formula}

-- a name in a form is an initial variable that is not among these
abbrev pub form_outside : List (List ℕ) → Form → List ℕ → Bool
form_outside names form.Variable x = false
form_outside names form.Initial x = not (is_listed names x)
form_outside names form.Constant x = false

module _ (names left : List (List ℕ)) (changes : List Change) where
  -- what is put for a name that may stand has no initial variable but these
  abbrev pub Leaves : Type 0
  Leaves = (g : Form) (x : List ℕ) → form_outside names g x ≡ false → term_outside left (changed changes g x) ≡ false

  module _ (leaf : Leaves) where
    abbrev re : ℕ → Term → Term
    re k = rebuilt_term (changed_leaves changes) k

    abbrev out : Term → Bool
    out = term_outside names

    abbrev now : Term → Bool
    now = term_outside left

    module _ (k : ℕ) where
      abbrev Claim : Term → Type 0
      Claim t = out t ≡ false → now (re k t) ≡ false

      abbrev Part : Type 0
      Part = (t : Term) × Claim t

      abbrev under : Term-F Part → Term-F Term
      under = map-Term Part Term (λ e. e.0)

      made : (z : Term-F Term) (t : Term) → roll-Term z ≡ t → outside_step left (map-Term Term Bool now z) ≡ false → now t ≡ false
      made z t e h = ap now (sym e) ∙ (fold-roll-Term Bool (outside_step left) z ∙ h)

      two : (p q : Part) → (out p.0 || out q.0) ≡ false → (now (re k p.0) || now (re k q.0)) ≡ false
      two p q e = or_from _ _ (p.1 (or_parts (out p.0) (out q.0) e).0) (q.1 (or_parts (out p.0) (out q.0) e).1)

      args : (ts : List Part) → any_of (map out (map (λ e. e.0) ts)) ≡ false → any_of (map now (map (re k) (map (λ e. e.0) ts))) ≡ false
      args [] e = refl
      args (t ∷ ts) e =
          let rest = any_of (map out (map (λ e. e.0) ts)) in or_from _ _ (t.1 (or_parts (out t.0) rest e).0) (args ts (or_parts (out t.0) rest e).1)

      layer : (y : Term-F Part) → outside_step names (map-Term Term Bool out (under y)) ≡ false → now (rebuilt_step (changed_leaves changes) k (map-Term Term Term (re k) (under y))) ≡ false
      layer (Term-F.Lit n) e = made (Term-F.Lit n) (v.Lit n) (v.rolls-Lit n) refl
      layer (Term-F.Var x) e = leaf form.Variable x refl
      layer (Term-F.Init x) e = leaf form.Initial x e
      layer (Term-F.Const x) e = leaf form.Constant x refl
      layer (Term-F.Bound j) e = made (Term-F.Bound j) (v.Bound j) (v.rolls-Bound j) refl
      layer (Term-F.Neg p) e = made (Term-F.Neg (re k p.0)) (v.Neg (re k p.0)) (v.rolls-Neg (re k p.0)) (p.1 e)
      layer (Term-F.Add p q) e = made (Term-F.Add (re k p.0) (re k q.0)) (v.Add (re k p.0) (re k q.0)) (v.rolls-Add (re k p.0) (re k q.0)) (two p q e)
      layer (Term-F.Sub p q) e = made (Term-F.Sub (re k p.0) (re k q.0)) (v.Sub (re k p.0) (re k q.0)) (v.rolls-Sub (re k p.0) (re k q.0)) (two p q e)
      layer (Term-F.Mul p q) e = made (Term-F.Mul (re k p.0) (re k q.0)) (v.Mul (re k p.0) (re k q.0)) (v.rolls-Mul (re k p.0) (re k q.0)) (two p q e)
      layer (Term-F.Div p q) e = made (Term-F.Div (re k p.0) (re k q.0)) (v.Div (re k p.0) (re k q.0)) (v.rolls-Div (re k p.0) (re k q.0)) (two p q e)
      layer (Term-F.Mod p q) e = made (Term-F.Mod (re k p.0) (re k q.0)) (v.Mod (re k p.0) (re k q.0)) (v.rolls-Mod (re k p.0) (re k q.0)) (two p q e)
      layer (Term-F.Read p q) e = made (Term-F.Read (re k p.0) (re k q.0)) (v.Read (re k p.0) (re k q.0)) (v.rolls-Read (re k p.0) (re k q.0)) (two p q e)
      layer (Term-F.Put p q r) e =
          let first = (or_parts (out p.0 || out q.0) (out r.0) e).0 in
          made (Term-F.Put (re k p.0) (re k q.0) (re k r.0)) (v.Put (re k p.0) (re k q.0) (re k r.0)) (v.rolls-Put (re k p.0) (re k q.0) (re k r.0))
          (or_from _ _ (two p q first) (r.1 (or_parts (out p.0 || out q.0) (out r.0) e).1))
      layer (Term-F.Fun f ts) e = made (Term-F.Fun f (map (re k) (map (λ e. e.0) ts))) (v.Fun f (map (re k) (map (λ e. e.0) ts))) (v.rolls-Fun f (map (re k) (map (λ e. e.0) ts))) (args ts e)

      claim_at : (y : Term-F Part) → Claim (roll-Term (under y))
      claim_at y e = ap now (fold-roll-Term Term (rebuilt_step (changed_leaves changes) k) (under y)) ∙ layer y (sym (fold-roll-Term Bool (outside_step names) (under y)) ∙ e)

      pub outside_term : (t : Term) → Claim t
      outside_term = ind-Term Claim (λ u y is. subst (λ z. Claim (roll-Term z)) is (claim_at y))

      outside_terms : (ts : List Term) → terms_outside names ts ≡ false → terms_outside left (map (re k) ts) ≡ false
      outside_terms [] e = refl
      outside_terms (t ∷ ts) e = or_from _ _ (outside_term t (or_parts (out t) (terms_outside names ts) e).0) (outside_terms ts (or_parts (out t) (terms_outside names ts) e).1)

      compared : (t u : Term) → (out t || out u) ≡ false → (now (re k t) || now (re k u)) ≡ false
      compared t u e = or_from _ _ (outside_term t (or_parts (out t) (out u) e).0) (outside_term u (or_parts (out t) (out u) e).1)

    abbrev ref : Formula → ℕ → Formula
    ref f k = rebuilt_formula (changed_leaves changes) f k

    abbrev FormulaClaim : Formula → Type 0
    FormulaClaim f = (k : ℕ) → initial_outside names f ≡ false → initial_outside left (ref f k) ≡ false

    abbrev Sub : Type 0
    Sub = (f : Formula) × FormulaClaim f

    abbrev inside : Formula-F Sub → Formula-F Formula
    inside = map-Formula Sub Formula (λ e. e.0)

    made_formula : (z : Formula-F Formula) (f : Formula) → roll-Formula z ≡ f → formula_outside_step left (map-Formula Formula Bool (initial_outside left) z) ≡ false → initial_outside left f ≡ false
    made_formula z f e h = ap (initial_outside left) (sym e) ∙ (fold-roll-Formula Bool (formula_outside_step left) z ∙ h)

    both : (f g : Sub) (k : ℕ) → (initial_outside names f.0 || initial_outside names g.0) ≡ false → (initial_outside left (ref f.0 k) || initial_outside left (ref g.0 k)) ≡ false
    both f g k e = or_from _ _ (f.1 k (or_parts (initial_outside names f.0) (initial_outside names g.0) e).0) (g.1 k (or_parts (initial_outside names f.0) (initial_outside names g.0) e).1)

    formula_layer : (y : Formula-F Sub) (k : ℕ) → formula_outside_step names (map-Formula Formula Bool (initial_outside names) (inside y)) ≡ false
        → initial_outside left (rebuilt_formula_step (changed_leaves changes) (map-Formula Formula (ℕ → Formula) (rebuilt_formula (changed_leaves changes)) (inside y)) k) ≡ false
    formula_layer Formula-F.True k e = made_formula Formula-F.True formula.True formula.rolls-True refl
    formula_layer Formula-F.False k e = made_formula Formula-F.False formula.False formula.rolls-False refl
    formula_layer (Formula-F.Eq t u) k e = made_formula (Formula-F.Eq (re k t) (re k u)) _ (formula.rolls-Eq _ _) (compared k t u e)
    formula_layer (Formula-F.Less t u) k e = made_formula (Formula-F.Less (re k t) (re k u)) _ (formula.rolls-Less _ _) (compared k t u e)
    formula_layer (Formula-F.AtMost t u) k e = made_formula (Formula-F.AtMost (re k t) (re k u)) _ (formula.rolls-AtMost _ _) (compared k t u e)
    formula_layer (Formula-F.Not f) k e = made_formula (Formula-F.Not (ref f.0 k)) _ (formula.rolls-Not _) (f.1 k e)
    formula_layer (Formula-F.And f g) k e = made_formula (Formula-F.And (ref f.0 k) (ref g.0 k)) _ (formula.rolls-And _ _) (both f g k e)
    formula_layer (Formula-F.Or f g) k e = made_formula (Formula-F.Or (ref f.0 k) (ref g.0 k)) _ (formula.rolls-Or _ _) (both f g k e)
    formula_layer (Formula-F.Imp f g) k e = made_formula (Formula-F.Imp (ref f.0 k) (ref g.0 k)) _ (formula.rolls-Imp _ _) (both f g k e)
    formula_layer (Formula-F.All s f) k e = made_formula (Formula-F.All s (ref f.0 (suc k))) _ (formula.rolls-All _ _) (f.1 (suc k) e)
    formula_layer (Formula-F.Any s f) k e = made_formula (Formula-F.Any s (ref f.0 (suc k))) _ (formula.rolls-Any _ _) (f.1 (suc k) e)
    formula_layer (Formula-F.App p ts) k e = made_formula (Formula-F.App p (map (re k) ts)) _ (formula.rolls-App _ _) (outside_terms k ts e)

    formula_at : (y : Formula-F Sub) → FormulaClaim (roll-Formula (inside y))
    formula_at y k e =
        ap (initial_outside left) (λ i. fold-roll-Formula (ℕ → Formula) (rebuilt_formula_step (changed_leaves changes)) (inside y) i k)
        ∙ formula_layer y k (sym (fold-roll-Formula Bool (formula_outside_step names) (inside y)) ∙ e)

    outside_formula : (f : Formula) → FormulaClaim f
    outside_formula = ind-Formula FormulaClaim (λ u y is. subst (λ z. FormulaClaim (roll-Formula z)) is (formula_at y))

    -- what is replaced has no initial variable but these
    pub replaced_outside : (f : Formula) → initial_outside names f ≡ false → initial_outside left (replaced_formula changes f) ≡ false
    replaced_outside f e = outside_formula f 0 e
