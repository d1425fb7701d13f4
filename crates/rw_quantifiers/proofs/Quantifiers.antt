-- The rules of quantifiers are sound.
use Rattle.std.proofs.Common.{◌≡◌, ◌↔◌, ℕ, ◌-◌, Bool, true, false, List, [], ◌∷◌, remove, reverse, Option, Some, None, refl, sym, ◌∙◌, ap, subst, true≢false}
use Rattle.std.proofs.lemmas.Bool.{and_from, or_parts}
use Rattle.std.specs.Prelude.{is_some}
use Rattle.std.specs.List.{list_any}
use Rattle.rw_terms.specs.declared.term.Sort.{Sort}
use Rattle.rw_terms.specs.declared.term.Term.{Term}
use Rattle.rw_terms.specs.declared.term.Term.TheVariants as terms
use Rattle.rw_terms.specs.declared.term.Term.TheOpen.{Term-F}
use Rattle.rw_terms.specs.declared.term.Term.TheViews.{roll-Term}
use Rattle.rw_terms.specs.declared.term.Term.TheFolds.{map-Term, ind-Term, fold-roll-Term}
use Rattle.rw_terms.specs.declared.term.Formula.{Formula}
use Rattle.rw_terms.specs.declared.term.Formula.TheVariants as formula
use Rattle.rw_terms.specs.declared.term.Formula.TheOpen.{Formula-F}
use Rattle.rw_terms.specs.declared.term.Formula.TheViews.{roll-Formula, out-Formula, roll-out-Formula}
use Rattle.rw_terms.specs.declared.term.Formula.TheFolds.{fold-roll-Formula}
use Rattle.rw_terms.specs.declared.sequent.Sequent.{Sequent}
use Rattle.rw_terms.specs.Mentions.{formula_mentions_step, formula_mentions, formulas_mention}
use Rattle.rw_terms.specs.Named.{Named, is_named}
use Rattle.rw_terms.specs.Rules.{is_of}
use Rattle.rw_terms.specs.State.{Value, State, value_in, HasSort, with_value}
use Rattle.rw_terms.specs.Value.{value}
use Rattle.rw_terms.specs.Truth.{Definition, predicates_of, holds}
use Rattle.rw_terms.specs.Validity.{Each, FitsNames, Valid}
use Rattle.rw_terms.proofs.Truths.{holds_stable, predicates_stable}
use Rattle.rw_terms.proofs.Decides.{sort_told}
use Rattle.rw_subst.specs.Closed.{closed_step, is_closed}
use Rattle.rw_subst.specs.Replaced.{opened}
use Rattle.rw_subst.proofs.Replacing.{opening_holds_in_states}
use Rattle.rw_goals.specs.Premises.{with_added, effect}
use Rattle.rw_goals.specs.Sorting.{sort_step, sort_of}
use Rattle.rw_goals.proofs.Sorted.{has_sort, int_known, ints_known, read_known, put_known, none_there}
use Rattle.rw_goals.proofs.Sound as sound
use Rattle.rw_goals.proofs.Sound.{Holds, Denies, HoldsAt, AllValid, one_valid, one_refuted, joined, taken}
use Rattle.rw_goals.proofs.Places.{without_left, without_right, left_sound, right_sound, beside_left_sound, beside_right_sound}
use Rattle.rw_quantifiers.specs.Quantified.{if_small, instance, typed_left, typed_right, all_left, any_right, all_at_left, any_at_right, is_known, fresh_left, fresh_right, all_right, any_left, all_at_right, any_at_left}
use Rattle.rw_quantifiers.proofs.Fresh.{Unmentioned, unmentioned, unnamed, fits_more, new_value, kept, each_kept}

-- a term of a sort over names has no loose binder
module _ (names : List Named) where
  abbrev sorts : Term → Option Sort
  sorts = sort_of names []

  abbrev Known : Option Sort → Type 0
  Known o = is_some o ≡ true

  abbrev IsClosed : Term → Type 0
  IsClosed t = Known (sorts t) → is_closed t ≡ true

  abbrev Layer : Type 0
  Layer = Term-F ((t : Term) × IsClosed t)

  abbrev under : Layer → Term-F Term
  under = map-Term ((t : Term) × IsClosed t) Term (λ e. e.0)

  closed_layer : (y : Layer) → Known (sort_step names [] (map-Term Term (Option Sort) sorts (under y))) → closed_step (map-Term Term Bool is_closed (under y)) ≡ true
  closed_layer (Term-F.Lit n) k = refl
  closed_layer (Term-F.Var x) k = refl
  closed_layer (Term-F.Init x) k = refl
  closed_layer (Term-F.Const x) k = refl
  closed_layer (Term-F.Bound j) k = absurd (true≢false (sym k ∙ ap is_some (none_there j)))
  closed_layer (Term-F.Neg a) k = a.1 (int_known _ k)
  closed_layer (Term-F.Add a c) k = let p = ints_known (sorts a.0) (sorts c.0) k in and_from _ _ (a.1 p.0) (c.1 p.1)
  closed_layer (Term-F.Sub a c) k = let p = ints_known (sorts a.0) (sorts c.0) k in and_from _ _ (a.1 p.0) (c.1 p.1)
  closed_layer (Term-F.Mul a c) k = let p = ints_known (sorts a.0) (sorts c.0) k in and_from _ _ (a.1 p.0) (c.1 p.1)
  closed_layer (Term-F.Div a c) k = let p = ints_known (sorts a.0) (sorts c.0) k in and_from _ _ (a.1 p.0) (c.1 p.1)
  closed_layer (Term-F.Mod a c) k = let p = ints_known (sorts a.0) (sorts c.0) k in and_from _ _ (a.1 p.0) (c.1 p.1)
  closed_layer (Term-F.Read a c) k = let p = read_known (sorts a.0) (sorts c.0) k in and_from _ _ (a.1 p.0) (c.1 p.1)
  closed_layer (Term-F.Put a c d) k = let p = put_known (sorts a.0) (sorts c.0) (sorts d.0) k in and_from _ _ (a.1 p.0) (and_from _ _ (c.1 p.1) (d.1 p.2))
  closed_layer (Term-F.Fun f args) k = absurd (true≢false (sym k))

  closed_at : (y : Layer) → IsClosed (roll-Term (under y))
  closed_at y k =
      fold-roll-Term Bool closed_step (under y)
      ∙ closed_layer y (sym (ap is_some (fold-roll-Term (Option Sort) (sort_step names []) (under y))) ∙ k)

  pub sorted_closed : (t : Term) → IsClosed t
  sorted_closed = ind-Term IsClosed (λ x y is. subst (λ z. IsClosed (roll-Term z)) is (closed_at y))

var_closed : (y : List ℕ) → is_closed (terms.Var y) ≡ true
var_closed y = ap is_closed (sym (terms.rolls-Var y)) ∙ fold-roll-Term Bool closed_step (Term-F.Var y)

-- what the test of a sort says
pub of_sort : (o : Option Sort) (s : Sort) → is_of s o ≡ true → o ≡ Some s
of_sort None s e = absurd (true≢false (sym e))
of_sort (Some t) s e = ap Some (sym (sort_told s t e))

pub known : (o : Option Sort) (s : Sort) → o ≡ Some s → is_some o ≡ true
known None s e = absurd (cc)
known (Some t) s e = refl

all_mentions : (y : List ℕ) (sort : Sort) (a : Formula) → formula_mentions y (formula.All sort a) ≡ formula_mentions y a
all_mentions y sort a = ap (formula_mentions y) (sym (formula.rolls-All sort a)) ∙ fold-roll-Formula Bool (formula_mentions_step y) (Formula-F.All sort a)

any_mentions : (y : List ℕ) (sort : Sort) (a : Formula) → formula_mentions y (formula.Any sort a) ≡ formula_mentions y a
any_mentions y sort a = ap (formula_mentions y) (sym (formula.rolls-Any sort a)) ∙ fold-roll-Formula Bool (formula_mentions_step y) (Formula-F.Any sort a)

-- the formula is of its outermost part
is_layer : (f : Formula) (x : Formula-F Formula) → out-Formula f ≡ x → f ≡ roll-Formula x
is_layer f x e = sym (roll-out-Formula f) ∙ ap roll-Formula e

module _ (library : List Definition) where
  -- the instance holds where the body does for the term's value
  opens : (t : Term) (a : Formula) → is_closed t ≡ true → (s0 s : State) → Holds library s0 s (opened t a) ↔ holds library a s0 s (value s0 s [] t ∷ [])
  opens t a c s0 s = opening_holds_in_states t a c library s0 s []

  all_left_typed : (q : Sequent) (t : Term) (sort : Sort) (a : Formula) (b large : Bool) → is_of sort (sort_of q.names [] t) ≡ b → AllValid library (effect (typed_left b (if_small large (opened t a))) q) →
      (s0 s : State) → FitsNames q.names s0 → FitsNames q.names s → ((w : Value) → HasSort w sort → holds library a s0 s (w ∷ [])) →
      Each (Holds library s0 s) q.left → ¬ (Each (Denies library s0 s) q.right)
  all_left_typed q t sort a false large e v s0 s i j h left right = absurd v
  all_left_typed q t sort a true true e v s0 s i j h left right = absurd v
  all_left_typed q t sort a true false e v s0 s i j h left right =
      let o = of_sort _ sort e in
      let c = sorted_closed q.names t (known _ sort o) in
      one_refuted library q (opened t a ∷ []) [] v s0 s i j left right
      ((opens t a c s0 s).1 (h (value s0 s [] t) (has_sort q.names s0 s i j t sort o)), tt) tt

  all_left_layer : (q : Sequent) (t : Term) (x : Formula-F Formula) → AllValid library (effect (all_left q.names t x) q) → (s0 s : State) → FitsNames q.names s0 → FitsNames q.names s →
      HoldsAt library s0 s x → Each (Holds library s0 s) q.left → ¬ (Each (Denies library s0 s) q.right)
  all_left_layer q t (Formula-F.All sort a) v s0 s i j h left right = all_left_typed q t sort a _ _ refl v s0 s i j h left right
  all_left_layer q t _ v s0 s i j h left right = absurd v

  pub all_at_left_sound : (q : Sequent) (n : ℕ) (t : Term) → AllValid library (all_at_left q n t) → Valid library q
  all_at_left_sound q n t = beside_left_sound library q (λ f. all_left q.names t (out-Formula f)) n
      (λ f v s0 s i j h. all_left_layer q t (out-Formula f) v s0 s i j (sound.opened library s0 s f h))

  any_right_typed : (q : Sequent) (t : Term) (sort : Sort) (a : Formula) (b large : Bool) → is_of sort (sort_of q.names [] t) ≡ b → AllValid library (effect (typed_right b (if_small large (opened t a))) q) →
      (s0 s : State) → FitsNames q.names s0 → FitsNames q.names s → ((w : Value) → HasSort w sort → ¬ (holds library a s0 s (w ∷ []))) →
      Each (Holds library s0 s) q.left → ¬ (Each (Denies library s0 s) q.right)
  any_right_typed q t sort a false large e v s0 s i j h left right = absurd v
  any_right_typed q t sort a true true e v s0 s i j h left right = absurd v
  any_right_typed q t sort a true false e v s0 s i j h left right =
      let o = of_sort _ sort e in
      let c = sorted_closed q.names t (known _ sort o) in
      one_refuted library q [] (opened t a ∷ []) v s0 s i j left right tt
      (λ k. h (value s0 s [] t) (has_sort q.names s0 s i j t sort o) ((opens t a c s0 s).0 k), tt)

  any_right_layer : (q : Sequent) (t : Term) (x : Formula-F Formula) → AllValid library (effect (any_right q.names t x) q) → (s0 s : State) → FitsNames q.names s0 → FitsNames q.names s →
      ¬ (HoldsAt library s0 s x) → Each (Holds library s0 s) q.left → ¬ (Each (Denies library s0 s) q.right)
  any_right_layer q t (Formula-F.Any sort a) v s0 s i j deny left right =
      any_right_typed q t sort a _ _ refl v s0 s i j (λ w k h. deny (λ all. all w k h)) left right
  any_right_layer q t _ v s0 s i j deny left right = absurd v

  pub any_at_right_sound : (q : Sequent) (n : ℕ) (t : Term) → AllValid library (any_at_right q n t) → Valid library q
  any_at_right_sound q n t = beside_right_sound library q (λ f. any_right q.names t (out-Formula f)) n
      (λ f v s0 s i j deny. any_right_layer q t (out-Formula f) v s0 s i j (λ h. deny (sound.closed library s0 s f h)))

  stable : (s0 s : State) (a : Formula) (b : List Value) → ¬ (¬ (holds library a s0 s b)) → holds library a s0 s b
  stable s0 s a b = holds_stable (predicates_of (reverse library)) (value_in s) (value_in s0) (value_in s) (predicates_stable (reverse library)) a b

  -- a goal that the states refute: with a value for a fresh name, they refute a premise that has the instance on the wrong side
  module _ (y : List ℕ) (sort : Sort) (names : List Named) (left right : List Formula) (a : Formula)
      (no_name : list_any (is_named y) names ≡ false) (free_left : Each (Unmentioned y) left) (free_right : Each (Unmentioned y) right) (free : Unmentioned y a)
      (s0 s : State) (fits0 : FitsNames names s0) (fits : FitsNames names s) (left_holds : Each (Holds library s0 s) left) (right_fails : Each (Denies library s0 s) right) where
    module _ (w : Value) (k : HasSort w sort) where
      abbrev t0 : State
      t0 = with_value y w s0

      abbrev t1 : State
      t1 = with_value y w s

      left_kept : Each (Holds library t0 t1) left
      left_kept = each_kept (Unmentioned y) (Holds library s0 s) (Holds library t0 t1) (λ f n h. (kept library y w s0 s f n []).0 h) left free_left left_holds

      right_kept : Each (Denies library t0 t1) right
      right_kept = each_kept (Unmentioned y) (Denies library s0 s) (Denies library t0 t1) (λ f n deny h. deny ((kept library y w s0 s f n []).1 h)) right free_right right_fails

      -- the instance says what the body says of the value
      of_value : Holds library t0 t1 (opened (terms.Var y) a) ↔ holds library a s0 s (w ∷ [])
      of_value =
          let o = opens (terms.Var y) a (var_closed y) t0 t1 in
          let e = new_value y w t0 s in
          let b = kept library y w s0 s a free (w ∷ []) in (
            λ h. b.1 (subst (λ x. holds library a t0 t1 (x ∷ [])) e (o.0 h)),
            λ h. o.1 (subst (λ x. holds library a t0 t1 (x ∷ [])) (sym e) (b.0 h)),
          )

      on_right : Valid library (with_added (record { names = names; left = left; right = right }) (record { names = (y, sort) ∷ []; left = []; right = opened (terms.Var y) a ∷ [] })) →
          ¬ (¬ (holds library a s0 s (w ∷ [])))
      on_right premise deny =
          premise t0 t1 (fits_more y sort w k names (unnamed y names no_name) s0 fits0) (fits_more y sort w k names (unnamed y names no_name) s fits)
          (joined (Holds library t0 t1) left [] left_kept tt)
          (joined (Denies library t0 t1) right (opened (terms.Var y) a ∷ []) right_kept (λ h. deny (of_value.0 h), tt))

      on_left : Valid library (with_added (record { names = names; left = left; right = right }) (record { names = (y, sort) ∷ []; left = opened (terms.Var y) a ∷ []; right = [] })) →
          ¬ (holds library a s0 s (w ∷ []))
      on_left premise h =
          premise t0 t1 (fits_more y sort w k names (unnamed y names no_name) s0 fits0) (fits_more y sort w k names (unnamed y names no_name) s fits)
          (joined (Holds library t0 t1) left (opened (terms.Var y) a ∷ []) left_kept (of_value.1 h, tt))
          (joined (Denies library t0 t1) right [] right_kept tt)

  -- what is not known to a goal
  not_known : (q : Sequent) (y : List ℕ) → is_known y q ≡ false → (list_any (is_named y) q.names ≡ false) × Each (Unmentioned y) q.left × Each (Unmentioned y) q.right
  not_known q y e =
      let p = or_parts (list_any (is_named y) q.names) _ e in
      let r = or_parts (formulas_mention y q.left) _ p.1 in
      (p.0, unmentioned y q.left r.0, unmentioned y q.right r.1)

  all_right_known : (q : Sequent) (n : ℕ) (y : List ℕ) (sort : Sort) (a : Formula) → Unmentioned y a → Each (Unmentioned y) (remove q.right (n - 1)) → (b large : Bool) → is_known y q ≡ b →
      AllValid library (effect (fresh_right b y sort (if_small large (opened (terms.Var y) a))) (without_right library q n)) → (s0 s : State) → FitsNames q.names s0 → FitsNames q.names s →
      ¬ ((w : Value) → HasSort w sort → holds library a s0 s (w ∷ [])) → Each (Holds library s0 s) q.left → ¬ (Each (Denies library s0 s) (remove q.right (n - 1)))
  all_right_known q n y sort a free rest true large e v s0 s i j deny left right = absurd v
  all_right_known q n y sort a free rest false true e v s0 s i j deny left right = absurd v
  all_right_known q n y sort a free rest false false e v s0 s i j deny left right =
      let f = not_known q y e in
      let premise = one_valid library (without_right library q n) (record { names = (y, sort) ∷ []; left = []; right = opened (terms.Var y) a ∷ [] }) v in
      deny (λ w k. stable s0 s a (w ∷ []) (on_right y sort q.names q.left (remove q.right (n - 1)) a f.0 f.1 rest free s0 s i j left right w k premise))

  all_right_layer : (q : Sequent) (n : ℕ) (y : List ℕ) (x : Formula-F Formula) → (is_known y q ≡ false → Unmentioned y (roll-Formula x) × Each (Unmentioned y) (remove q.right (n - 1))) →
      AllValid library (effect (all_right (is_known y q) y x) (without_right library q n)) → (s0 s : State) → FitsNames q.names s0 → FitsNames q.names s →
      ¬ (HoldsAt library s0 s x) → Each (Holds library s0 s) q.left → ¬ (Each (Denies library s0 s) (remove q.right (n - 1)))
  all_right_layer q n y (Formula-F.All sort a) free v s0 s i j deny left right = by_known (is_known y q) refl v where
    by_known : (b : Bool) → is_known y q ≡ b → AllValid library (effect (fresh_right b y sort (instance a (terms.Var y))) (without_right library q n)) → ⊥
    by_known true e v = absurd v
    by_known false e v =
        let p = free e in
        let f : Unmentioned y a = λ m. p.0 (ap (formula_mentions y) (formula.rolls-All sort a) ∙ all_mentions y sort a ∙ m) in
        all_right_known q n y sort a f p.1 false _ e v s0 s i j deny left right
  all_right_layer q n y _ free v s0 s i j deny left right = absurd v

  any_left_known : (q : Sequent) (n : ℕ) (y : List ℕ) (sort : Sort) (a : Formula) → Unmentioned y a → Each (Unmentioned y) (remove q.left (n - 1)) → (b large : Bool) → is_known y q ≡ b →
      AllValid library (effect (fresh_left b y sort (if_small large (opened (terms.Var y) a))) (without_left library q n)) → (s0 s : State) → FitsNames q.names s0 → FitsNames q.names s →
      ¬ ((w : Value) → HasSort w sort → ¬ (holds library a s0 s (w ∷ []))) → Each (Holds library s0 s) (remove q.left (n - 1)) → ¬ (Each (Denies library s0 s) q.right)
  any_left_known q n y sort a free rest true large e v s0 s i j some left right = absurd v
  any_left_known q n y sort a free rest false true e v s0 s i j some left right = absurd v
  any_left_known q n y sort a free rest false false e v s0 s i j some left right =
      let f = not_known q y e in
      let premise = one_valid library (without_left library q n) (record { names = (y, sort) ∷ []; left = opened (terms.Var y) a ∷ []; right = [] }) v in
      some (λ w k. on_left y sort q.names (remove q.left (n - 1)) q.right a f.0 rest f.2 free s0 s i j left right w k premise)

  any_left_layer : (q : Sequent) (n : ℕ) (y : List ℕ) (x : Formula-F Formula) → (is_known y q ≡ false → Unmentioned y (roll-Formula x) × Each (Unmentioned y) (remove q.left (n - 1))) →
      AllValid library (effect (any_left (is_known y q) y x) (without_left library q n)) → (s0 s : State) → FitsNames q.names s0 → FitsNames q.names s →
      HoldsAt library s0 s x → Each (Holds library s0 s) (remove q.left (n - 1)) → ¬ (Each (Denies library s0 s) q.right)
  any_left_layer q n y (Formula-F.Any sort a) free v s0 s i j some left right = by_known (is_known y q) refl v where
    by_known : (b : Bool) → is_known y q ≡ b → AllValid library (effect (fresh_left b y sort (instance a (terms.Var y))) (without_left library q n)) → ⊥
    by_known true e v = absurd v
    by_known false e v =
        let p = free e in
        let f : Unmentioned y a = λ m. p.0 (ap (formula_mentions y) (formula.rolls-Any sort a) ∙ any_mentions y sort a ∙ m) in
        any_left_known q n y sort a f p.1 false _ e v s0 s i j some left right
  any_left_layer q n y _ free v s0 s i j some left right = absurd v

  pub all_at_right_sound : (q : Sequent) (n : ℕ) (y : List ℕ) → AllValid library (all_at_right q n y) → Valid library q
  all_at_right_sound q n y = right_sound library q (λ f. all_right (is_known y q) y (out-Formula f)) n
      (λ f e v s0 s i j deny. all_right_layer q n y (out-Formula f)
      (λ k. let u = taken (Unmentioned y) q.right n f e (not_known q y k).2 in (subst (Unmentioned y) (sym (roll-out-Formula f)) u.0, u.1))
      v s0 s i j (λ h. deny (sound.closed library s0 s f h)))

  pub any_at_left_sound : (q : Sequent) (n : ℕ) (y : List ℕ) → AllValid library (any_at_left q n y) → Valid library q
  any_at_left_sound q n y = left_sound library q (λ f. any_left (is_known y q) y (out-Formula f)) n
      (λ f e v s0 s i j h. any_left_layer q n y (out-Formula f)
      (λ k. let u = taken (Unmentioned y) q.left n f e (not_known q y k).1 in (subst (Unmentioned y) (sym (roll-out-Formula f)) u.0, u.1))
      v s0 s i j (sound.opened library s0 s f h))
