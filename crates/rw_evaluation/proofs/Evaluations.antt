-- Evaluation gives values, and where all is defined it fails only by width.
use Rattle.std.proofs.Common.{◌≡◌, ◌≢◌, refl, sym, ap, subst, ◌∙◌, zero, suc, Bool, true, false, true≢false, ◌&&◌, ◌||◌, not, cond, ℤ, pos, negsuc, neg_ℤ, ◌+ℤ◌, ◌-ℤ◌, ◌*ℤ◌, ◌<ℤ◌, ◌≤ℤ◌, List, [], ◌∷◌, length, reverse, Option, Some, ◌⊎◌, inl, inr}
use Rattle.std.specs.Prelude.{T, Result, Ok, Err, int_lt, int_le}
use Rattle.std.specs.Ordering.{int_eq}
use Rattle.std.specs.Bool.{Decides}
use Rattle.std.proofs.lemmas.Bool.Decides.{Decides-int_eq, Decides-ltb}
use Rattle.std.proofs.lemmas.List.Elements.{All-from_recursion, recursion_from_All}
use Rattle.rw_terms.specs.declared.term.Term.{Term}
use Rattle.rw_terms.specs.declared.term.Term.TheOpen.{Term-F}
use Rattle.rw_terms.specs.declared.term.Term.TheViews.{roll-Term}
use Rattle.rw_terms.specs.declared.term.Term.TheFolds.{map-Term, ind-Term, fold-roll-Term}
use Rattle.rw_terms.specs.declared.term.Formula.{Formula}
use Rattle.rw_terms.specs.declared.term.Formula.TheOpen.{Formula-F}
use Rattle.rw_terms.specs.declared.term.Formula.TheViews.{roll-Formula}
use Rattle.rw_terms.specs.declared.term.Formula.TheFolds.{map-Formula, ind-Formula, fold-roll-Formula}
use Rattle.rw_terms.specs.State.{Value, Whole, Cells, whole, cells, State as Map, value_in}
use Rattle.rw_terms.specs.Value.{value_step, value, div_floor, mod_floor}
use Rattle.rw_terms.specs.Truth.{Definition, predicates_of, holds}
use Rattle.rw_terms.specs.Defined.{IsIndex, PartDefined, Defined, TermsDefined, GuardDefined}
use Rattle.rw_terms.proofs.Truths.{to_layer, from_layer, layer_truth}
use Rattle.rw_programs.specs.CodeTest.{guard_step, is_guard}
use Rattle.rw_programs.specs.State.{State}
use Rattle.rw_programs.specs.Meaning.{values, AllDefined}
use Rattle.rw_evaluation.specs.declared.stop.AbortCause.TheVariants.{Division, Index}
use Rattle.rw_evaluation.specs.declared.stop.Stop.{Stop}
use Rattle.rw_evaluation.specs.declared.stop.Stop.TheVariants.{TooWide, Aborted}
use Rattle.rw_evaluation.specs.Evaluation.{is_narrow, is_zero, is_index, Seen, narrow, one, two, sum_of, difference_of, product_of, divided, cell_at, seen_step, seen, all_seen, same_cells, same_value, tested_step, tested}
use Rattle.rw_evaluation.specs.Laws.{Right, TestRight}
use Rattle.rw_subst.proofs.Every.{every_term, every_formula}

one_right : (a : Seen) (f : Value → Seen) (u x : Value) (A D : Type 0) → Right a u A → (D → A) → Right (f u) x D → Right (one a f) x D
one_right (Ok v) f u x A D ra d rf = subst (λ p. Right (f p) x D) (sym ra) rf
one_right (Err e) f u x A D ra d rf = λ h. ra (d h)

two_right : (a b : Seen) (f : Value → Value → Seen) (u w x : Value) (A B D : Type 0) → Right a u A → Right b w B → (D → A × B) → Right (f u w) x D → Right (two a b f) x D
two_right (Ok v) (Ok y) f u w x A B D ra rb d rf = subst (λ p. Right (f p y) x D) (sym ra) (subst (λ q. Right (f u q) x D) (sym rb) rf)
two_right (Ok v) (Err e) f u w x A B D ra rb d rf = λ h. rb (d h).1
two_right (Err e) b f u w x A B D ra rb d rf = λ h. ra (d h).0

narrow_right : (z : ℤ) (D : Type 0) → Right (narrow z) (Whole z) D
narrow_right z D = go (is_narrow z)
  where
    go : (b : Bool) → Right (cond b (Ok (Whole z)) (Err TooWide)) (Whole z) D
    go true = refl
    go false = λ d. refl

zero_is : (z : ℤ) → is_zero z ≡ true → z ≡ pos 0
zero_is (pos zero) e = refl
zero_is (pos (suc n)) e = absurd (true≢false (sym e))
zero_is (negsuc n) e = absurd (true≢false (sym e))

divided_right : (by : ℤ → ℤ → ℤ) (u w : Value) (D : Type 0) → (D → whole w ≢ pos 0) → Right (divided by u w) (Whole (by (whole u) (whole w))) D
divided_right by u w D d = go (is_zero (whole w)) refl
  where
    go : (b : Bool) → is_zero (whole w) ≡ b → Right (cond b (Err (Aborted Division)) (narrow (by (whole u) (whole w)))) (Whole (by (whole u) (whole w))) D
    go true e = λ h. absurd (d h (zero_is (whole w) e))
    go false e = narrow_right (by (whole u) (whole w)) D

index_is : (z : ℤ) (l : List ℤ) → is_index z l ≡ false → ¬ (IsIndex z l)
index_is (pos i) l e h = true≢false (sym ((Decides-ltb i (length l)).1 h) ∙ e)
index_is (negsuc i) l e h = h

within_right : (z : ℤ) (l : List ℤ) (v : Value) (D : Type 0) → (D → IsIndex z l) → Right (cond (is_index z l) (Ok v) (Err (Aborted Index))) v D
within_right z l v D d = go (is_index z l) refl
  where
    go : (b : Bool) → is_index z l ≡ b → Right (cond b (Ok v) (Err (Aborted Index))) v D
    go true e = refl
    go false e = λ h. absurd (index_is z l e (d h))

module _ (s : Map) where
  abbrev val : Term → Value
  val = value s s []

  abbrev Claim : Term → Type 0
  Claim t = Right (seen s t) (val t) (Defined s s t)

  abbrev Layer : Type 0
  Layer = Term-F ((t : Term) × Claim t)

  abbrev under : Layer → Term-F Term
  under = map-Term ((t : Term) × Claim t) Term (λ e. e.0)

  abbrev step : Term-F Value → Value
  step = value_step (value_in s) (value_in s) (value_in s) []

  abbrev Def : Layer → Type 0
  Def y = Defined s s (roll-Term (under y))

  claim_layer : (y : Layer) → Right (seen_step s (map-Term Term Seen (seen s) (under y))) (step (map-Term Term Value val (under y))) (Def y)
  claim_layer (Term-F.Lit n) = refl
  claim_layer (Term-F.Var x) = refl
  claim_layer (Term-F.Init x) = refl
  claim_layer (Term-F.Const x) = refl
  claim_layer (Term-F.Bound k) = refl
  claim_layer (Term-F.Neg a) = one_right (seen s a.0) _ (val a.0) _ _ _ a.1 (λ d. ((every_term (PartDefined s s) (Term-F.Neg a.0)).0 d).1) (narrow_right (neg_ℤ (whole (val a.0))) (Def (Term-F.Neg a)))
  claim_layer (Term-F.Add a b) = two_right (seen s a.0) (seen s b.0) sum_of (val a.0) (val b.0) _ _ _ _ a.1 b.1 (λ d. ((every_term (PartDefined s s) (Term-F.Add a.0 b.0)).0 d).1) (narrow_right (whole (val a.0) +ℤ whole (val b.0)) (Def (Term-F.Add a b)))
  claim_layer (Term-F.Sub a b) = two_right (seen s a.0) (seen s b.0) difference_of (val a.0) (val b.0) _ _ _ _ a.1 b.1 (λ d. ((every_term (PartDefined s s) (Term-F.Sub a.0 b.0)).0 d).1) (narrow_right (whole (val a.0) -ℤ whole (val b.0)) (Def (Term-F.Sub a b)))
  claim_layer (Term-F.Mul a b) = two_right (seen s a.0) (seen s b.0) product_of (val a.0) (val b.0) _ _ _ _ a.1 b.1 (λ d. ((every_term (PartDefined s s) (Term-F.Mul a.0 b.0)).0 d).1) (narrow_right (whole (val a.0) *ℤ whole (val b.0)) (Def (Term-F.Mul a b)))
  claim_layer (Term-F.Div a b) = two_right (seen s a.0) (seen s b.0) (divided div_floor) (val a.0) (val b.0) _ _ _ _ a.1 b.1 (λ d. ((every_term (PartDefined s s) (Term-F.Div a.0 b.0)).0 d).1)
      (divided_right div_floor (val a.0) (val b.0) _ (λ d. ((every_term (PartDefined s s) (Term-F.Div a.0 b.0)).0 d).0))
  claim_layer (Term-F.Mod a b) = two_right (seen s a.0) (seen s b.0) (divided mod_floor) (val a.0) (val b.0) _ _ _ _ a.1 b.1 (λ d. ((every_term (PartDefined s s) (Term-F.Mod a.0 b.0)).0 d).1)
      (divided_right mod_floor (val a.0) (val b.0) _ (λ d. ((every_term (PartDefined s s) (Term-F.Mod a.0 b.0)).0 d).0))
  claim_layer (Term-F.Read a i) = two_right (seen s a.0) (seen s i.0) cell_at (val a.0) (val i.0) _ _ _ _ a.1 i.1 (λ d. ((every_term (PartDefined s s) (Term-F.Read a.0 i.0)).0 d).1)
      (within_right (whole (val i.0)) (cells (val a.0)) _ _ (λ d. ((every_term (PartDefined s s) (Term-F.Read a.0 i.0)).0 d).0))
  claim_layer (Term-F.Put a i e) = two_right (seen s a.0) (seen s i.0) _ (val a.0) (val i.0) _ _ _ _ a.1 i.1
      (λ d. let p = ((every_term (PartDefined s s) (Term-F.Put a.0 i.0 e.0)).0 d).1 in (p.0, p.1))
      (one_right (seen s e.0) _ (val e.0) _ _ _ e.1 (λ d. ((every_term (PartDefined s s) (Term-F.Put a.0 i.0 e.0)).0 d).1.2)
      (within_right (whole (val i.0)) (cells (val a.0)) _ _ (λ d. ((every_term (PartDefined s s) (Term-F.Put a.0 i.0 e.0)).0 d).0)))
  claim_layer (Term-F.Fun f args) = refl

  claim_at : (y : Layer) → Claim (roll-Term (under y))
  claim_at y =
      subst (λ r. Right r (val (roll-Term (under y))) (Def y)) (sym (fold-roll-Term Seen (seen_step s) (under y)))
      (subst (λ v. Right (seen_step s (map-Term Term Seen (seen s) (under y))) v (Def y)) (sym (fold-roll-Term Value step (under y))) (claim_layer y))

  -- what is seen of a term is its value; where the term is defined, only the width stops it
  pub term_right : (t : Term) → Claim t
  term_right = ind-Term Claim (λ x y is. subst (λ z. Claim (roll-Term z)) is (claim_at y))

-- so of terms
abbrev pub AllRight : Result (List (Option Value)) Stop → List (Option Value) → Type 0 → Type 0
AllRight (Ok vs) ws D = vs ≡ ws
AllRight (Err e) ws D = D → e ≡ TooWide

terms_right_by : (s : State) (ts : List Term) → AllRight (all_seen s.own ts) (values ts s) (AllDefined ts s)
terms_right_by s [] = refl
terms_right_by s (t ∷ ts) = go (seen s.own t) (term_right s.own t) (all_seen s.own ts) (terms_right_by s ts)
  where
    go : (a : Seen) → Right a (value s.own s.own [] t) (Defined s.own s.own t) → (b : Result (List (Option Value)) Stop) → AllRight b (values ts s) (AllDefined ts s)
        → AllRight (two a b (λ v vs. Ok (Some v ∷ vs))) (values (t ∷ ts) s) (AllDefined (t ∷ ts) s)
    go (Ok v) ra (Ok vs) rb = ap (λ w. Some w ∷ vs) ra ∙ ap (λ ws. Some (value s.own s.own [] t) ∷ ws) rb
    go (Ok v) ra (Err e) rb = λ d. rb (All-from_recursion (Defined s.own s.own) ts (recursion_from_All (Defined s.own s.own) (t ∷ ts) d).1)
    go (Err e) ra b rb = λ d. ra (recursion_from_All (Defined s.own s.own) (t ∷ ts) d).0

pub terms_right : (s : State) (ts : List Term) → AllRight (all_seen s.own ts) (values ts s) (AllDefined ts s)
terms_right = terms_right_by

decides_right : (b : Bool) (H D : Type 0) → Decides b H → TestRight (Ok b) H D
decides_right true H D d = d.0 refl
decides_right false H D d = λ h. true≢false (sym (d.1 h))

relation_right : (a b : Seen) (f : Value → Value → Bool) (u w : Value) (A B H D : Type 0) → Right a u A → Right b w B → (D → A × B) → Decides (f u w) H
    → TestRight (two a b (λ v x. Ok (f v x))) H D
relation_right (Ok v) (Ok y) f u w A B H D ra rb d rf =
    subst (λ p. TestRight (Ok (f p y)) H D) (sym ra) (subst (λ q. TestRight (Ok (f u q)) H D) (sym rb) (decides_right (f u w) H D rf))
relation_right (Ok v) (Err e) f u w A B H D ra rb d rf = λ h. rb (d h).1
relation_right (Err e) b f u w A B H D ra rb d rf = λ h. ra (d h).0

test_is : (b : Bool) → T b → b ≡ true
test_is true t = refl
test_is false t = absurd t

is_test : (b : Bool) → b ≡ true → T b
is_test true e = tt
is_test false e = absurd (true≢false (sym e))

less_decides : (a b : ℤ) → Decides (int_lt a b) (a <ℤ b)
less_decides a b = (λ e. record { lt = is_test _ e }, λ h. test_is _ h.lt)

at_most_decides : (a b : ℤ) → Decides (int_le a b) (a ≤ℤ b)
at_most_decides a b = (λ e. record { le = is_test _ e }, λ h. test_is _ h.le)

pub both_true : (a b : Bool) → (a && b) ≡ true → (a ≡ true) × (b ≡ true)
both_true true b e = (refl, e)
both_true false b e = absurd (true≢false (sym e))

cells_decides : (ns bs : List ℤ) → Decides (same_cells ns bs) (ns ≡ bs)
cells_decides [] [] = (λ e. refl, λ e. refl)
cells_decides [] (b ∷ bs) = (λ e. absurd (true≢false (sym e)), λ e. absurd (cc))
cells_decides (a ∷ ns) [] = (λ e. absurd (true≢false (sym e)), λ e. absurd (cc))
cells_decides (a ∷ ns) (b ∷ bs) = each (cells_decides ns bs)
  where
    each : Decides (same_cells ns bs) (ns ≡ bs) → Decides (int_eq a b && same_cells ns bs) (a ∷ ns ≡ b ∷ bs)
    each d = (
      λ e. let h = both_true (int_eq a b) (same_cells ns bs) e in ap (λ x. x ∷ ns) ((Decides-int_eq a b).0 h.0) ∙ ap (λ xs. b ∷ xs) (d.0 h.1),
      λ e. let i : a ≡ b = cc in let j : ns ≡ bs = cc in let k = (Decides-int_eq a b).1 i in let l = d.1 j in rw (k, l) refl,
    )

value_decides : (u w : Value) → Decides (same_value u w) (u ≡ w)
value_decides (Whole a) (Whole b) = let d = Decides-int_eq a b in (λ e. ap Whole (d.0 e), λ e. d.1 (ap whole e))
value_decides (Whole a) (Cells bs) = (λ e. absurd (true≢false (sym e)), λ e. absurd (cc))
value_decides (Cells ns) (Whole b) = (λ e. absurd (true≢false (sym e)), λ e. absurd (cc))
value_decides (Cells ns) (Cells bs) = let d = cells_decides ns bs in (λ e. ap Cells (d.0 e), λ e. d.1 (ap cells e))

not_right : (f : Result Bool Stop) (F DF D : Type 0) → TestRight f F DF → (D → DF) → TestRight (one f (λ b. Ok (not b))) (¬ F) D
not_right (Ok true) F DF D r d = λ n. n r
not_right (Ok false) F DF D r d = r
not_right (Err e) F DF D r d = λ h. r (d h)

module _ (F G DF DG D : Type 0) (d : D → DF × DG) where
  and_right : (f g : Result Bool Stop) → TestRight f F DF → TestRight g G DG → TestRight (two f g (λ b c. Ok (b && c))) (F × G) D
  and_right (Ok true) (Ok true) rf rg = (rf, rg)
  and_right (Ok true) (Ok false) rf rg = λ h. rg h.1
  and_right (Ok false) (Ok c) rf rg = λ h. rf h.0
  and_right (Ok b) (Err e) rf rg = λ h. rg (d h).1
  and_right (Err e) g rf rg = λ h. rf (d h).0

  or_right : (f g : Result Bool Stop) → TestRight f F DF → TestRight g G DG → TestRight (two f g (λ b c. Ok (b || c))) (¬ ((¬ F) × (¬ G))) D
  or_right (Ok true) (Ok c) rf rg = λ n. n.0 rf
  or_right (Ok false) (Ok true) rf rg = λ n. n.1 rg
  or_right (Ok false) (Ok false) rf rg = λ n. n (rf, rg)
  or_right (Ok b) (Err e) rf rg = λ h. rg (d h).1
  or_right (Err e) g rf rg = λ h. rf (d h).0

  imp_right : (f g : Result Bool Stop) → TestRight f F DF → TestRight g G DG → TestRight (two f g (λ b c. Ok (not b || c))) (F → G) D
  imp_right (Ok true) (Ok true) rf rg = λ h. rg
  imp_right (Ok true) (Ok false) rf rg = λ h. rg (h rf)
  imp_right (Ok false) (Ok c) rf rg = λ h. absurd (rf h)
  imp_right (Ok b) (Err e) rf rg = λ h. rg (d h).1
  imp_right (Err e) g rf rg = λ h. rf (d h).0

module _ (library : List Definition) (s : Map) where
  abbrev Truth : Formula → Type 0
  Truth g = holds library g s s []

  abbrev GuardClaim : Formula → Type 0
  GuardClaim g = is_guard g ≡ true → TestRight (tested s g) (Truth g) (GuardDefined s s g)

  abbrev GuardLayer : Type 0
  GuardLayer = Formula-F ((f : Formula) × GuardClaim f)

  abbrev bare : GuardLayer → Formula-F Formula
  bare = map-Formula ((f : Formula) × GuardClaim f) Formula (λ e. e.0)

  abbrev GuardDef : GuardLayer → Type 0
  GuardDef y = GuardDefined s s (roll-Formula (bare y))

  abbrev LayerTrue : GuardLayer → Type 0
  LayerTrue y = layer_truth (predicates_of (reverse library)) (value_in s) (value_in s) (value_in s) (bare y) []

  guard_layer : (y : GuardLayer) → guard_step (map-Formula Formula Bool is_guard (bare y)) ≡ true
      → TestRight (tested_step s (map-Formula Formula (Result Bool Stop) (tested s) (bare y))) (LayerTrue y) (GuardDef y)
  guard_layer Formula-F.True i = tt
  guard_layer Formula-F.False i = λ h. h
  guard_layer (Formula-F.Eq t u) i = relation_right (seen s t) (seen s u) same_value (val s t) (val s u) _ _ _ _ (term_right s t) (term_right s u)
      (λ d. ((every_formula (TermsDefined s s) (Formula-F.Eq t u)).0 d).0) (value_decides (val s t) (val s u))
  guard_layer (Formula-F.Less t u) i = relation_right (seen s t) (seen s u) (λ v w. int_lt (whole v) (whole w)) (val s t) (val s u) _ _ _ _ (term_right s t) (term_right s u)
      (λ d. ((every_formula (TermsDefined s s) (Formula-F.Less t u)).0 d).0) (less_decides _ _)
  guard_layer (Formula-F.AtMost t u) i = relation_right (seen s t) (seen s u) (λ v w. int_le (whole v) (whole w)) (val s t) (val s u) _ _ _ _ (term_right s t) (term_right s u)
      (λ d. ((every_formula (TermsDefined s s) (Formula-F.AtMost t u)).0 d).0) (at_most_decides _ _)
  guard_layer (Formula-F.Not f) i = not_right (tested s f.0) (Truth f.0) _ _ (f.1 i) (λ d. ((every_formula (TermsDefined s s) (Formula-F.Not f.0)).0 d).1)
  guard_layer (Formula-F.And f g) i = let h = both_true (is_guard f.0) (is_guard g.0) i in
      and_right (Truth f.0) (Truth g.0) _ _ _ (λ d. ((every_formula (TermsDefined s s) (Formula-F.And f.0 g.0)).0 d).1) (tested s f.0) (tested s g.0) (f.1 h.0) (g.1 h.1)
  guard_layer (Formula-F.Or f g) i = let h = both_true (is_guard f.0) (is_guard g.0) i in
      or_right (Truth f.0) (Truth g.0) _ _ _ (λ d. ((every_formula (TermsDefined s s) (Formula-F.Or f.0 g.0)).0 d).1) (tested s f.0) (tested s g.0) (f.1 h.0) (g.1 h.1)
  guard_layer (Formula-F.Imp f g) i = let h = both_true (is_guard f.0) (is_guard g.0) i in
      imp_right (Truth f.0) (Truth g.0) _ _ _ (λ d. ((every_formula (TermsDefined s s) (Formula-F.Imp f.0 g.0)).0 d).1) (tested s f.0) (tested s g.0) (f.1 h.0) (g.1 h.1)
  guard_layer (Formula-F.All sort f) i = absurd (true≢false (sym i))
  guard_layer (Formula-F.Any sort f) i = absurd (true≢false (sym i))
  guard_layer (Formula-F.App p args) i = absurd (true≢false (sym i))

  test_moves : (r : Result Bool Stop) (H K D : Type 0) → (H → K) → (K → H) → TestRight r H D → TestRight r K D
  test_moves (Ok true) H K D f g r = f r
  test_moves (Ok false) H K D f g r = λ k. r (g k)
  test_moves (Err e) H K D f g r = r

  guard_at : (y : GuardLayer) → GuardClaim (roll-Formula (bare y))
  guard_at y i =
      subst (λ r. TestRight r (Truth (roll-Formula (bare y))) (GuardDef y)) (sym (fold-roll-Formula (Result Bool Stop) (tested_step s) (bare y)))
      (test_moves _ (LayerTrue y) (Truth (roll-Formula (bare y))) (GuardDef y)
      (from_layer (predicates_of (reverse library)) (value_in s) (value_in s) (value_in s) (bare y) [])
      (to_layer (predicates_of (reverse library)) (value_in s) (value_in s) (value_in s) (bare y) [])
      (guard_layer y (sym (fold-roll-Formula Bool guard_step (bare y)) ∙ i)))

  -- what is tested of a guard is whether it holds; where the guard is defined, only the width stops it
  pub guard_right : (g : Formula) → GuardClaim g
  guard_right = ind-Formula GuardClaim (λ x y is. subst (λ z. GuardClaim (roll-Formula z)) is (guard_at y))

  -- it is known of each guard whether it holds
  abbrev Known : Type 0 → Type 0
  Known H = H ⊎ (¬ H)

  known_by : (b : Bool) (H : Type 0) → Decides b H → Known H
  known_by true H d = inl (d.0 refl)
  known_by false H d = inr (λ h. true≢false (sym (d.1 h)))

  not_known : (F : Type 0) → Known F → Known (¬ F)
  not_known F (inl h) = inr (λ n. n h)
  not_known F (inr n) = inl n

  and_known : (F G : Type 0) → Known F → Known G → Known (F × G)
  and_known F G (inl f) (inl g) = inl (f, g)
  and_known F G (inl f) (inr n) = inr (λ h. n h.1)
  and_known F G (inr n) g = inr (λ h. n h.0)

  imp_known : (F G : Type 0) → Known F → Known G → Known (F → G)
  imp_known F G f (inl g) = inl (λ h. g)
  imp_known F G (inl f) (inr n) = inr (λ h. n (h f))
  imp_known F G (inr n) (inr m) = inl (λ h. absurd (n h))

  known_moves : (H K : Type 0) → (H → K) → (K → H) → Known H → Known K
  known_moves H K f g (inl h) = inl (f h)
  known_moves H K f g (inr n) = inr (λ k. n (g k))

  abbrev KnownClaim : Formula → Type 0
  KnownClaim g = is_guard g ≡ true → Known (Truth g)

  abbrev KnownLayer : Type 0
  KnownLayer = Formula-F ((f : Formula) × KnownClaim f)

  abbrev plain : KnownLayer → Formula-F Formula
  plain = map-Formula ((f : Formula) × KnownClaim f) Formula (λ e. e.0)

  known_layer : (y : KnownLayer) → guard_step (map-Formula Formula Bool is_guard (plain y)) ≡ true
      → Known (layer_truth (predicates_of (reverse library)) (value_in s) (value_in s) (value_in s) (plain y) [])
  known_layer Formula-F.True i = inl tt
  known_layer Formula-F.False i = inr (λ h. h)
  known_layer (Formula-F.Eq t u) i = known_by _ _ (value_decides (val s t) (val s u))
  known_layer (Formula-F.Less t u) i = known_by _ _ (less_decides (whole (val s t)) (whole (val s u)))
  known_layer (Formula-F.AtMost t u) i = known_by _ _ (at_most_decides (whole (val s t)) (whole (val s u)))
  known_layer (Formula-F.Not f) i = not_known (Truth f.0) (f.1 i)
  known_layer (Formula-F.And f g) i = let h = both_true (is_guard f.0) (is_guard g.0) i in and_known (Truth f.0) (Truth g.0) (f.1 h.0) (g.1 h.1)
  known_layer (Formula-F.Or f g) i = let h = both_true (is_guard f.0) (is_guard g.0) i in
      not_known _ (and_known (¬ (Truth f.0)) (¬ (Truth g.0)) (not_known (Truth f.0) (f.1 h.0)) (not_known (Truth g.0) (g.1 h.1)))
  known_layer (Formula-F.Imp f g) i = let h = both_true (is_guard f.0) (is_guard g.0) i in imp_known (Truth f.0) (Truth g.0) (f.1 h.0) (g.1 h.1)
  known_layer (Formula-F.All sort f) i = absurd (true≢false (sym i))
  known_layer (Formula-F.Any sort f) i = absurd (true≢false (sym i))
  known_layer (Formula-F.App p args) i = absurd (true≢false (sym i))

  known_at : (y : KnownLayer) → KnownClaim (roll-Formula (plain y))
  known_at y i =
      known_moves _ (Truth (roll-Formula (plain y)))
      (from_layer (predicates_of (reverse library)) (value_in s) (value_in s) (value_in s) (plain y) [])
      (to_layer (predicates_of (reverse library)) (value_in s) (value_in s) (value_in s) (plain y) [])
      (known_layer y (sym (fold-roll-Formula Bool guard_step (plain y)) ∙ i))

  pub guard_known : (g : Formula) → is_guard g ≡ true → Truth g ⊎ (¬ (Truth g))
  guard_known = ind-Formula KnownClaim (λ x y is. subst (λ z. KnownClaim (roll-Formula z)) is (known_at y))
