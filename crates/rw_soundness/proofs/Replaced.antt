-- What is replaced keeps the rules of sorts, where what is put for a name has the name's sort.
use Rattle.std.proofs.Common.{◌≡◌, ℕ, suc, Bool, true, is_some, List, [], ◌∷◌, map, find, Option, Some, None, refl, sym, ap, ◌∙◌, subst, true≢false}
use Rattle.std.proofs.lemmas.Bool.{and_from, and_parts}
use Rattle.rw_terms.specs.declared.scope.Entry.{Entry}
use Rattle.rw_terms.specs.declared.scope.Head.{Head}
use Rattle.rw_terms.specs.declared.term.Sort.{Sort}
use Rattle.rw_terms.specs.declared.term.Sort.TheVariants.{Int, Array}
use Rattle.rw_terms.specs.declared.term.Term.{Term}
use Rattle.rw_terms.specs.declared.term.Term.TheVariants as v
use Rattle.rw_terms.specs.declared.term.Term.TheOpen.{Term-F}
use Rattle.rw_terms.specs.declared.term.Term.TheViews.{roll-Term}
use Rattle.rw_terms.specs.declared.term.Term.TheFolds.{map-Term, ind-Term, fold-roll-Term}
use Rattle.rw_terms.specs.declared.term.Formula.{Formula}
use Rattle.rw_terms.specs.declared.term.Formula.TheVariants as formula
use Rattle.rw_terms.specs.declared.term.Formula.TheOpen.{Formula-F}
use Rattle.rw_terms.specs.declared.term.Formula.TheViews.{roll-Formula}
use Rattle.rw_terms.specs.declared.term.Formula.TheFolds.{map-Formula, ind-Formula, fold-roll-Formula}
use Rattle.rw_terms.specs.Sorts.{variable_sort, constant_sort}
use Rattle.rw_terms.specs.Formed.{is_sort, is_head}
use Rattle.rw_terms.specs.Rules.{of_int, of_ints, of_read, of_put, is_of, are_of, may_equal_of, applies, sort_step, sort_in, keeps_step, keeps_rules}
use Rattle.rw_subst.specs.declared.slot.Form.{Form}
use Rattle.rw_subst.specs.declared.slot.Form.TheVariants as form
use Rattle.rw_subst.specs.declared.slot.Change.{Change}
use Rattle.rw_subst.specs.Slots.{changed}
use Rattle.rw_subst.specs.Leaves.{rebuilt_step, rebuilt_term, rebuilt_formula_step, rebuilt_formula}
use Rattle.rw_subst.specs.Replaced.{changed_leaves, replaced_formula}
use Rattle.rw_subst.proofs.WellSorted.{int_part, int_parts, read_parts, put_parts, compared_parts, equal_parts}

-- the sort of a name in a form
abbrev pub form_sort : List Entry → Form → List ℕ → Option Sort
form_sort scope form.Variable x = variable_sort scope x
form_sort scope form.Initial x = variable_sort scope x
form_sort scope form.Constant x = constant_sort scope x

module _ (scope inner : List Entry) (changes : List Change) where
  -- what is put for a name that has a sort has that sort
  abbrev pub KeepsSorts : Type 0
  KeepsSorts = (g : Form) (x : List ℕ) (s : Sort) → form_sort scope g x ≡ Some s → (b : List Sort) → sort_in inner b (changed changes g x) ≡ Some s

  module _ (leaf : KeepsSorts) (k : ℕ) (b : List Sort) where
    abbrev re : Term → Term
    re = rebuilt_term (changed_leaves changes) k

    abbrev old : Term → Option Sort
    old = sort_in scope b

    abbrev new : Term → Option Sort
    new = sort_in inner b

    abbrev Claim : Term → Type 0
    Claim t = (s : Sort) → old t ≡ Some s → new (re t) ≡ old t

    abbrev Part : Type 0
    Part = (t : Term) × Claim t

    abbrev under : Term-F Part → Term-F Term
    under = map-Term Part Term (λ e. e.0)

    abbrev step : Term-F Term → Option Sort
    step z = sort_step inner b (map-Term Term (Option Sort) new z)

    abbrev olds : Term-F Term → Option Sort
    olds z = sort_step scope b (map-Term Term (Option Sort) old z)

    abbrev stepped : Term-F Part → Term
    stepped y = rebuilt_step (changed_leaves changes) k (map-Term Term Term re (under y))

    -- the sort of a part that is made
    made : (z : Term-F Term) (t : Term) → roll-Term z ≡ t → new t ≡ step z
    made z t e = ap new (sym e) ∙ fold-roll-Term (Option Sort) (sort_step inner b) z

    two : (p q : Part) (s : Sort) → of_ints (old p.0) (old q.0) ≡ Some s → of_ints (new (re p.0)) (new (re q.0)) ≡ of_ints (old p.0) (old q.0)
    two p q s e = let parts = int_parts _ _ s e in λ i. of_ints (p.1 Int parts.0 i) (q.1 Int parts.1 i)

    layer : (y : Term-F Part) (s : Sort) → olds (under y) ≡ Some s → new (stepped y) ≡ olds (under y)
    layer (Term-F.Lit n) s e = made (Term-F.Lit n) (v.Lit n) (v.rolls-Lit n)
    layer (Term-F.Var x) s e = leaf form.Variable x s e b ∙ sym e
    layer (Term-F.Init x) s e = leaf form.Initial x s e b ∙ sym e
    layer (Term-F.Const x) s e = leaf form.Constant x s e b ∙ sym e
    layer (Term-F.Bound j) s e = made (Term-F.Bound j) (v.Bound j) (v.rolls-Bound j)
    layer (Term-F.Neg p) s e = made (Term-F.Neg (re p.0)) (v.Neg (re p.0)) (v.rolls-Neg (re p.0)) ∙ ap of_int (p.1 Int (int_part _ s e))
    layer (Term-F.Add p q) s e = made (Term-F.Add (re p.0) (re q.0)) (v.Add (re p.0) (re q.0)) (v.rolls-Add (re p.0) (re q.0)) ∙ two p q s e
    layer (Term-F.Sub p q) s e = made (Term-F.Sub (re p.0) (re q.0)) (v.Sub (re p.0) (re q.0)) (v.rolls-Sub (re p.0) (re q.0)) ∙ two p q s e
    layer (Term-F.Mul p q) s e = made (Term-F.Mul (re p.0) (re q.0)) (v.Mul (re p.0) (re q.0)) (v.rolls-Mul (re p.0) (re q.0)) ∙ two p q s e
    layer (Term-F.Div p q) s e = made (Term-F.Div (re p.0) (re q.0)) (v.Div (re p.0) (re q.0)) (v.rolls-Div (re p.0) (re q.0)) ∙ two p q s e
    layer (Term-F.Mod p q) s e = made (Term-F.Mod (re p.0) (re q.0)) (v.Mod (re p.0) (re q.0)) (v.rolls-Mod (re p.0) (re q.0)) ∙ two p q s e
    layer (Term-F.Read p q) s e =
        let parts = read_parts _ _ s e in
        made (Term-F.Read (re p.0) (re q.0)) (v.Read (re p.0) (re q.0)) (v.rolls-Read (re p.0) (re q.0)) ∙ (λ i. of_read (p.1 (Array parts.length) parts.array i) (q.1 Int parts.index i))
    layer (Term-F.Put p q r) s e =
        let parts = put_parts _ _ _ s e in
        made (Term-F.Put (re p.0) (re q.0) (re r.0)) (v.Put (re p.0) (re q.0) (re r.0)) (v.rolls-Put (re p.0) (re q.0) (re r.0))
        ∙ (λ i. of_put (p.1 (Array parts.length) parts.array i) (q.1 Int parts.index i) (r.1 Int parts.item i))
    layer (Term-F.Fun f args) s e = absurd (cc)

    claim_at : (y : Term-F Part) → Claim (roll-Term (under y))
    claim_at y s e =
        let is = fold-roll-Term (Option Sort) (sort_step scope b) (under y) in
        ap new (fold-roll-Term Term (rebuilt_step (changed_leaves changes) k) (under y)) ∙ (layer y s (sym is ∙ e) ∙ sym is)

    pub sort_kept : (t : Term) → Claim t
    sort_kept = ind-Term Claim (λ u y is. subst (λ z. Claim (roll-Term z)) is (claim_at y))

    has_sort : (s : Sort) (o : Option Sort) → is_of s o ≡ true → (t : Sort) × (o ≡ Some t)
    has_sort s None e = absurd (true≢false (sym e))
    has_sort s (Some t) e = (t, refl)

    args_kept : (ss : List Sort) (ts : List Term) → are_of ss (map old ts) ≡ true → map new (map re ts) ≡ map old ts
    args_kept ss [] e = refl
    args_kept [] (t ∷ ts) e = absurd (true≢false (sym e))
    args_kept (s ∷ ss) (t ∷ ts) e =
        let there = has_sort s (old t) ((and_parts (is_of s (old t)) (are_of ss (map old ts)) e).0) in
        λ i. sort_kept t there.0 there.1 i ∷ args_kept ss ts ((and_parts (is_of s (old t)) (are_of ss (map old ts)) e).1) i

    applied_kept : (o : Option Head) (ts : List Term) → applies o (map old ts) ≡ true → applies o (map new (map re ts)) ≡ true
    applied_kept None ts e = e
    applied_kept (Some head) ts e = ap (are_of head.sorts) (args_kept head.sorts ts e) ∙ e

    equation_kept : (t u : Term) → may_equal_of (old t) (old u) ≡ true → may_equal_of (new (re t)) (new (re u)) ≡ true
    equation_kept t u e = let parts = equal_parts _ _ e in (λ i. may_equal_of (sort_kept t parts.0.0 parts.0.1 i) (sort_kept u parts.1.0 parts.1.1 i)) ∙ e

    compared_kept : (t u : Term) → is_some (of_ints (old t) (old u)) ≡ true → is_some (of_ints (new (re t)) (new (re u))) ≡ true
    compared_kept t u e = let parts = compared_parts _ _ e in (λ i. is_some (of_ints (sort_kept t Int parts.0 i) (sort_kept u Int parts.1 i))) ∙ e

  module _ (leaf : KeepsSorts) (heads : List Head) where
    abbrev ref : Formula → ℕ → Formula
    ref f k = rebuilt_formula (changed_leaves changes) f k

    abbrev Kept : Formula → Type 0
    Kept f = (k : ℕ) (b : List Sort) → keeps_rules scope heads f b ≡ true → keeps_rules inner heads (ref f k) b ≡ true

    abbrev Sub : Type 0
    Sub = (f : Formula) × Kept f

    abbrev inside : Formula-F Sub → Formula-F Formula
    inside = map-Formula Sub Formula (λ e. e.0)

    abbrev keeps_now : Formula-F Formula → List Sort → Bool
    keeps_now z b = keeps_step inner heads (map-Formula Formula (List Sort → Bool) (keeps_rules inner heads) z) b

    made_formula : (z : Formula-F Formula) (f : Formula) (b : List Sort) → roll-Formula z ≡ f → keeps_now z b ≡ true → keeps_rules inner heads f b ≡ true
    made_formula z f b e h = ap (λ g. keeps_rules inner heads g b) (sym e) ∙ ((λ i. fold-roll-Formula (List Sort → Bool) (keeps_step inner heads) z i b) ∙ h)

    formula_layer : (y : Formula-F Sub) (k : ℕ) (b : List Sort) → keeps_step scope heads (map-Formula Formula (List Sort → Bool) (keeps_rules scope heads) (inside y)) b ≡ true
        → keeps_rules inner heads (rebuilt_formula_step (changed_leaves changes) (map-Formula Formula (ℕ → Formula) (rebuilt_formula (changed_leaves changes)) (inside y)) k) b ≡ true
    formula_layer Formula-F.True k b e = made_formula Formula-F.True formula.True b formula.rolls-True refl
    formula_layer Formula-F.False k b e = made_formula Formula-F.False formula.False b formula.rolls-False refl
    formula_layer (Formula-F.Eq t u) k b e = made_formula (Formula-F.Eq (re leaf k b t) (re leaf k b u)) _ b (formula.rolls-Eq _ _) (equation_kept leaf k b t u e)
    formula_layer (Formula-F.Less t u) k b e = made_formula (Formula-F.Less (re leaf k b t) (re leaf k b u)) _ b (formula.rolls-Less _ _) (compared_kept leaf k b t u e)
    formula_layer (Formula-F.AtMost t u) k b e = made_formula (Formula-F.AtMost (re leaf k b t) (re leaf k b u)) _ b (formula.rolls-AtMost _ _) (compared_kept leaf k b t u e)
    formula_layer (Formula-F.Not f) k b e = made_formula (Formula-F.Not (ref f.0 k)) _ b (formula.rolls-Not _) (f.1 k b e)
    formula_layer (Formula-F.And f g) k b e =
        made_formula (Formula-F.And (ref f.0 k) (ref g.0 k)) _ b (formula.rolls-And _ _)
        (and_from _ _ (f.1 k b ((and_parts (keeps_rules scope heads f.0 b) (keeps_rules scope heads g.0 b) e).0)) (g.1 k b ((and_parts (keeps_rules scope heads f.0 b) (keeps_rules scope heads g.0 b) e).1)))
    formula_layer (Formula-F.Or f g) k b e =
        made_formula (Formula-F.Or (ref f.0 k) (ref g.0 k)) _ b (formula.rolls-Or _ _)
        (and_from _ _ (f.1 k b ((and_parts (keeps_rules scope heads f.0 b) (keeps_rules scope heads g.0 b) e).0)) (g.1 k b ((and_parts (keeps_rules scope heads f.0 b) (keeps_rules scope heads g.0 b) e).1)))
    formula_layer (Formula-F.Imp f g) k b e =
        made_formula (Formula-F.Imp (ref f.0 k) (ref g.0 k)) _ b (formula.rolls-Imp _ _)
        (and_from _ _ (f.1 k b ((and_parts (keeps_rules scope heads f.0 b) (keeps_rules scope heads g.0 b) e).0)) (g.1 k b ((and_parts (keeps_rules scope heads f.0 b) (keeps_rules scope heads g.0 b) e).1)))
    formula_layer (Formula-F.All s f) k b e =
        made_formula (Formula-F.All s (ref f.0 (suc k))) _ b (formula.rolls-All _ _)
        (and_from _ _ ((and_parts (is_sort s) (keeps_rules scope heads f.0 (s ∷ b)) e).0) (f.1 (suc k) (s ∷ b) ((and_parts (is_sort s) (keeps_rules scope heads f.0 (s ∷ b)) e).1)))
    formula_layer (Formula-F.Any s f) k b e =
        made_formula (Formula-F.Any s (ref f.0 (suc k))) _ b (formula.rolls-Any _ _)
        (and_from _ _ ((and_parts (is_sort s) (keeps_rules scope heads f.0 (s ∷ b)) e).0) (f.1 (suc k) (s ∷ b) ((and_parts (is_sort s) (keeps_rules scope heads f.0 (s ∷ b)) e).1)))
    formula_layer (Formula-F.App p args) k b e =
        made_formula (Formula-F.App p (map (re leaf k b) args)) _ b (formula.rolls-App _ _) (applied_kept leaf k b (find (is_head p) heads) args e)

    formula_at : (y : Formula-F Sub) → Kept (roll-Formula (inside y))
    formula_at y k b e =
        ap (λ f. keeps_rules inner heads f b) (λ i. fold-roll-Formula (ℕ → Formula) (rebuilt_formula_step (changed_leaves changes)) (inside y) i k)
        ∙ formula_layer y k b (sym (λ i. fold-roll-Formula (List Sort → Bool) (keeps_step scope heads) (inside y) i b) ∙ e)

    rules_kept : (f : Formula) → Kept f
    rules_kept = ind-Formula Kept (λ u y is. subst (λ z. Kept (roll-Formula z)) is (formula_at y))

    -- what is replaced keeps the rules
    pub replaced_keeps : (f : Formula) → keeps_rules scope heads f [] ≡ true → keeps_rules inner heads (replaced_formula changes f) [] ≡ true
    replaced_keeps f e = rules_kept f 0 [] e
