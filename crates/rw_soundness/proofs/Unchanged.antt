-- Without changes a formula is built again as it was; so it keeps the rules in a wider scope, and has the initial variables that it had.
use Rattle.std.proofs.Common.{◌≡◌, ℕ, suc, List, [], ◌∷◌, map, Bool, false, true, not, Option, Some, refl, sym, ap, ◌∙◌, subst, true≢false}
use Rattle.rw_terms.specs.declared.scope.Entry.{Entry}
use Rattle.rw_terms.specs.declared.scope.Head.{Head}
use Rattle.rw_terms.specs.declared.term.Sort.{Sort}
use Rattle.rw_terms.specs.declared.term.Term.{Term}
use Rattle.rw_terms.specs.declared.term.Term.TheVariants as v
use Rattle.rw_terms.specs.declared.term.Term.TheOpen.{Term-F}
use Rattle.rw_terms.specs.declared.term.Term.TheViews.{roll-Term}
use Rattle.rw_terms.specs.declared.term.Term.TheFolds.{map-Term, ind-Term, fold-roll-Term}
use Rattle.rw_terms.specs.declared.term.Formula.{Formula}
use Rattle.rw_terms.specs.declared.term.Formula.TheVariants as formula
use Rattle.rw_terms.specs.declared.term.Formula.TheOpen.{Formula-F}
use Rattle.rw_terms.specs.declared.term.Formula.TheViews.{roll-Formula}
use Rattle.rw_terms.specs.declared.term.Formula.TheFolds.{map-Formula, ind-Formula, fold-roll-Formula}
use Rattle.rw_terms.specs.Rules.{sort_step, sort_in, keeps_rules}
use Rattle.rw_faults.specs.Initial.{is_listed, outside_step, term_outside, initial_outside}
use Rattle.rw_subst.specs.declared.slot.Form.{Form}
use Rattle.rw_subst.specs.declared.slot.Form.TheVariants as form
use Rattle.rw_subst.specs.Slots.{plain}
use Rattle.rw_subst.specs.Leaves.{rebuilt_step, rebuilt_term, rebuilt_formula_step, rebuilt_formula}
use Rattle.rw_subst.specs.Replaced.{changed_leaves}
use Rattle.rw_soundness.proofs.Replaced.{form_sort, sort_kept, replaced_keeps}
use Rattle.rw_soundness.proofs.Outside.{form_outside, Leaves, outside_term, replaced_outside}

module _ (k : ℕ) where
  abbrev re : Term → Term
  re = rebuilt_term (changed_leaves []) k

  abbrev Same : Term → Type 0
  Same t = re t ≡ t

  abbrev Part : Type 0
  Part = (t : Term) × Same t

  abbrev under : Term-F Part → Term-F Term
  under = map-Term Part Term (λ e. e.0)

  args : (ts : List Part) → map re (map (λ e. e.0) ts) ≡ map (λ e. e.0) ts
  args [] = refl
  args (t ∷ ts) = λ i. t.1 i ∷ args ts i

  layer : (y : Term-F Part) → rebuilt_step (changed_leaves []) k (map-Term Term Term re (under y)) ≡ roll-Term (under y)
  layer (Term-F.Lit n) = sym (v.rolls-Lit n)
  layer (Term-F.Var x) = sym (v.rolls-Var x)
  layer (Term-F.Init x) = sym (v.rolls-Init x)
  layer (Term-F.Const x) = sym (v.rolls-Const x)
  layer (Term-F.Bound j) = sym (v.rolls-Bound j)
  layer (Term-F.Neg a) = (λ i. v.Neg (a.1 i)) ∙ sym (v.rolls-Neg a.0)
  layer (Term-F.Add a b) = (λ i. v.Add (a.1 i) (b.1 i)) ∙ sym (v.rolls-Add a.0 b.0)
  layer (Term-F.Sub a b) = (λ i. v.Sub (a.1 i) (b.1 i)) ∙ sym (v.rolls-Sub a.0 b.0)
  layer (Term-F.Mul a b) = (λ i. v.Mul (a.1 i) (b.1 i)) ∙ sym (v.rolls-Mul a.0 b.0)
  layer (Term-F.Div a b) = (λ i. v.Div (a.1 i) (b.1 i)) ∙ sym (v.rolls-Div a.0 b.0)
  layer (Term-F.Mod a b) = (λ i. v.Mod (a.1 i) (b.1 i)) ∙ sym (v.rolls-Mod a.0 b.0)
  layer (Term-F.Read a b) = (λ i. v.Read (a.1 i) (b.1 i)) ∙ sym (v.rolls-Read a.0 b.0)
  layer (Term-F.Put a b c) = (λ i. v.Put (a.1 i) (b.1 i) (c.1 i)) ∙ sym (v.rolls-Put a.0 b.0 c.0)
  layer (Term-F.Fun f ts) = (λ i. v.Fun f (args ts i)) ∙ sym (v.rolls-Fun f (map (λ e. e.0) ts))

  same_term : (t : Term) → Same t
  same_term = ind-Term Same (λ u y is. subst (λ z. Same (roll-Term z)) is (fold-roll-Term Term (rebuilt_step (changed_leaves []) k) (under y) ∙ layer y))

  same_terms : (ts : List Term) → map re ts ≡ ts
  same_terms [] = refl
  same_terms (t ∷ ts) = λ i. same_term t i ∷ same_terms ts i

abbrev ref : Formula → ℕ → Formula
ref = rebuilt_formula (changed_leaves [])

abbrev SameFormula : Formula → Type 0
SameFormula f = (k : ℕ) → ref f k ≡ f

abbrev Sub : Type 0
Sub = (f : Formula) × SameFormula f

abbrev inside : Formula-F Sub → Formula-F Formula
inside = map-Formula Sub Formula (λ e. e.0)

formula_layer : (y : Formula-F Sub) (k : ℕ) → rebuilt_formula_step (changed_leaves []) (map-Formula Formula (ℕ → Formula) ref (inside y)) k ≡ roll-Formula (inside y)
formula_layer Formula-F.True k = sym formula.rolls-True
formula_layer Formula-F.False k = sym formula.rolls-False
formula_layer (Formula-F.Eq t u) k = (λ i. formula.Eq (same_term k t i) (same_term k u i)) ∙ sym (formula.rolls-Eq t u)
formula_layer (Formula-F.Less t u) k = (λ i. formula.Less (same_term k t i) (same_term k u i)) ∙ sym (formula.rolls-Less t u)
formula_layer (Formula-F.AtMost t u) k = (λ i. formula.AtMost (same_term k t i) (same_term k u i)) ∙ sym (formula.rolls-AtMost t u)
formula_layer (Formula-F.Not f) k = (λ i. formula.Not (f.1 k i)) ∙ sym (formula.rolls-Not f.0)
formula_layer (Formula-F.And f g) k = (λ i. formula.And (f.1 k i) (g.1 k i)) ∙ sym (formula.rolls-And f.0 g.0)
formula_layer (Formula-F.Or f g) k = (λ i. formula.Or (f.1 k i) (g.1 k i)) ∙ sym (formula.rolls-Or f.0 g.0)
formula_layer (Formula-F.Imp f g) k = (λ i. formula.Imp (f.1 k i) (g.1 k i)) ∙ sym (formula.rolls-Imp f.0 g.0)
formula_layer (Formula-F.All s f) k = (λ i. formula.All s (f.1 (suc k) i)) ∙ sym (formula.rolls-All s f.0)
formula_layer (Formula-F.Any s f) k = (λ i. formula.Any s (f.1 (suc k) i)) ∙ sym (formula.rolls-Any s f.0)
formula_layer (Formula-F.App p ts) k = (λ i. formula.App p (same_terms k ts i)) ∙ sym (formula.rolls-App p ts)

same_formula : (f : Formula) → SameFormula f
same_formula =
    ind-Formula SameFormula (λ u y is. subst (λ z. SameFormula (roll-Formula z)) is (λ k. (λ i. fold-roll-Formula (ℕ → Formula) (rebuilt_formula_step (changed_leaves [])) (inside y) i k) ∙ formula_layer y k))

-- the sort of a name as it stands
pub plain_sort : (scope : List Entry) (g : Form) (x : List ℕ) (b : List Sort) → sort_in scope b (plain g x) ≡ form_sort scope g x
plain_sort scope form.Variable x b = ap (sort_in scope b) (sym (v.rolls-Var x)) ∙ fold-roll-Term (Option Sort) (sort_step scope b) (Term-F.Var x)
plain_sort scope form.Initial x b = ap (sort_in scope b) (sym (v.rolls-Init x)) ∙ fold-roll-Term (Option Sort) (sort_step scope b) (Term-F.Init x)
plain_sort scope form.Constant x b = ap (sort_in scope b) (sym (v.rolls-Const x)) ∙ fold-roll-Term (Option Sort) (sort_step scope b) (Term-F.Const x)

pub plain_outside : (names : List (List ℕ)) (g : Form) (x : List ℕ) → term_outside names (plain g x) ≡ form_outside names g x
plain_outside names form.Variable x = ap (term_outside names) (sym (v.rolls-Var x)) ∙ fold-roll-Term Bool (outside_step names) (Term-F.Var x)
plain_outside names form.Initial x = ap (term_outside names) (sym (v.rolls-Init x)) ∙ fold-roll-Term Bool (outside_step names) (Term-F.Init x)
plain_outside names form.Constant x = ap (term_outside names) (sym (v.rolls-Const x)) ∙ fold-roll-Term Bool (outside_step names) (Term-F.Const x)

-- a formula that keeps the rules keeps them where each name has the sort that it had
pub keeps_wider : (scope inner : List Entry) (heads : List Head) (f : Formula) → ((g : Form) (x : List ℕ) (s : Sort) → form_sort scope g x ≡ Some s → form_sort inner g x ≡ Some s)
    → keeps_rules scope heads f [] ≡ true → keeps_rules inner heads f [] ≡ true
keeps_wider scope inner heads f wider e =
    ap (λ h. keeps_rules inner heads h []) (sym (same_formula f 0)) ∙ replaced_keeps scope inner [] (λ g x s h b. plain_sort inner g x b ∙ wider g x s h) heads f e

listed : (a b : Bool) → (a ≡ true → b ≡ true) → not a ≡ false → not b ≡ false
listed true b to h = ap not (to refl)
listed false b to h = absurd (true≢false h)

-- initial variables of some names are those of more
pub plain_leaf : (names more : List (List ℕ)) → ((x : List ℕ) → is_listed names x ≡ true → is_listed more x ≡ true) → Leaves names more []
plain_leaf names more grows form.Variable x h = plain_outside more form.Variable x
plain_leaf names more grows form.Initial x h = plain_outside more form.Initial x ∙ listed (is_listed names x) (is_listed more x) (grows x) h
plain_leaf names more grows form.Constant x h = plain_outside more form.Constant x

pub outside_more : (names more : List (List ℕ)) (f : Formula) → ((x : List ℕ) → is_listed names x ≡ true → is_listed more x ≡ true) → initial_outside names f ≡ false → initial_outside more f ≡ false
outside_more names more f grows e = ap (initial_outside more) (sym (same_formula f 0)) ∙ replaced_outside names more [] (plain_leaf names more grows) f e

pub term_outside_more : (names more : List (List ℕ)) (t : Term) → ((x : List ℕ) → is_listed names x ≡ true → is_listed more x ≡ true) → term_outside names t ≡ false → term_outside more t ≡ false
term_outside_more names more t grows e = ap (term_outside more) (sym (same_term 0 t)) ∙ outside_term names more [] (plain_leaf names more grows) 0 t e

-- a term that has a sort has it where each name has the sort that it had
pub sort_wider : (scope inner : List Entry) (t : Term) (s : Sort) → ((g : Form) (x : List ℕ) (s : Sort) → form_sort scope g x ≡ Some s → form_sort inner g x ≡ Some s)
    → sort_in scope [] t ≡ Some s → sort_in inner [] t ≡ Some s
sort_wider scope inner t s wider e =
    ap (sort_in inner []) (sym (same_term 0 t)) ∙ (sort_kept scope inner [] (λ g x s h b. plain_sort inner g x b ∙ wider g x s h) 0 [] t s e ∙ e)
