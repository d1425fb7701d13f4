-- Values and truth depend on the names that a term or a formula mentions, and on no other.
use Rattle.std.proofs.Common.{◌≡◌, ◌↔◌, ℕ, Bool, true, false, ◌||◌, Some, List, [], ◌∷◌, map, refl, sym, ◌∙◌, ap, subst, true≢false, bytes_eq, IsTrue, ◌<ℤ◌, ◌≤ℤ◌, if◌then◌else◌, reverse}
use Rattle.std.proofs.lemmas.Bool.{or_left, or_right}
use Rattle.std.proofs.lemmas.Slice.Eq.{bytes_eq-Decides}
use Rattle.rw_terms.specs.declared.term.Sort.{Sort}
use Rattle.rw_terms.specs.declared.term.Term.{Term}
use Rattle.rw_terms.specs.declared.term.Term.TheOpen.{Term-F}
use Rattle.rw_terms.specs.declared.term.Term.TheViews.{roll-Term}
use Rattle.rw_terms.specs.declared.term.Term.TheFolds.{map-Term, ind-Term, fold-roll-Term}
use Rattle.rw_terms.specs.declared.term.Formula.{Formula}
use Rattle.rw_terms.specs.declared.term.Formula.TheOpen.{Formula-F}
use Rattle.rw_terms.specs.declared.term.Formula.TheViews.{roll-Formula}
use Rattle.rw_terms.specs.declared.term.Formula.TheFolds.{map-Formula, ind-Formula, fold-roll-Formula}
use Rattle.rw_terms.specs.Mentions.{mentions_step, mentions, terms_mention, formula_mentions_step, formula_mentions}
use Rattle.rw_terms.specs.State.{Value, whole, HasSort, State, given, value_in, with_value}
use Rattle.rw_terms.specs.Value.{value_step, value_by}
use Rattle.rw_terms.specs.Truth.{Predicates, holds_by, predicates_of}
use Rattle.rw_terms.specs.Agreement.{ValuesAgree, TruthAgrees, TruthIgnores}
use Rattle.rw_terms.proofs.Truths.{to_layer, from_layer, layer_truth}

pub not_iff : {A B : Type 0} → A ↔ B → (¬ A) ↔ (¬ B)
not_iff e = (λ n b. n (e.1 b), λ n a. n (e.0 a))

pub and_iff : {A B C D : Type 0} → A ↔ B → C ↔ D → (A × C) ↔ (B × D)
and_iff e f = (λ h. (e.0 h.0, f.0 h.1), λ h. (e.1 h.0, f.1 h.1))

pub imp_iff : {A B C D : Type 0} → A ↔ B → C ↔ D → (A → C) ↔ (B → D)
imp_iff e f = (λ h b. f.0 (h (e.1 b)), λ h a. f.1 (h (e.0 a)))

pub all_iff : (P Q : Value → Type 0) (sort : Sort) → ((v : Value) → P v ↔ Q v) → ((v : Value) → HasSort v sort → P v) ↔ ((v : Value) → HasSort v sort → Q v)
all_iff P Q sort e = (λ h v k. (e v).0 (h v k), λ h v k. (e v).1 (h v k))

pub along : {X : Type 0} (P : X → Type 0) {x y : X} → x ≡ y → P x ↔ P y
along P e = (subst P e, subst P (sym e))

pub along_both : {X : Type 0} (P : X → X → Type 0) {x y z w : X} → x ≡ y → z ≡ w → P x z ↔ P y w
along_both P {x} {y} {z} {w} e f = (λ h. subst (P y) f (subst (λ a. P a z) e h), λ h. subst (λ a. P a z) (sym e) (subst (P y) (sym f) h))

module _ (predicates : Predicates) (var init const var' init' const' : List ℕ → Value) where
  -- the two agree on each name that passes the test
  abbrev pub Agree : (List ℕ → Bool) → Type 0
  Agree test = (x : List ℕ) → test x ≡ true → (var x ≡ var' x) × (init x ≡ init' x) × (const x ≡ const' x)

  left : (f g : List ℕ → Bool) → Agree (λ x. f x || g x) → Agree f
  left f g e x m = e x (or_left (f x) (g x) m)

  right : (f g : List ℕ → Bool) → Agree (λ x. f x || g x) → Agree g
  right f g e x m = e x (or_right (f x) (g x) m)

  itself : (x : List ℕ) → Agree (λ z. bytes_eq z x) → (var x ≡ var' x) × (init x ≡ init' x) × (const x ≡ const' x)
  itself x e = e x ((bytes_eq-Decides x x).1 refl)

  module _ (b : List Value) where
    abbrev Same : Term → Type 0
    Same t = Agree (λ x. mentions x t) → value_by var init const b t ≡ value_by var' init' const' b t

    abbrev here : Term-F Value → Value
    here = value_step var init const b

    abbrev there : Term-F Value → Value
    there = value_step var' init' const' b

    abbrev TermLayer : Type 0
    TermLayer = Term-F ((t : Term) × Same t)

    abbrev under : TermLayer → Term-F Term
    under = map-Term ((t : Term) × Same t) Term (λ e. e.0)

    abbrev m : (t : Term) × Same t → List ℕ → Bool
    m a = λ x. mentions x a.0

    same_layer : (y : TermLayer) → Agree (λ x. mentions_step x (map-Term Term Bool (mentions x) (under y))) →
        here (map-Term Term Value (value_by var init const b) (under y)) ≡ there (map-Term Term Value (value_by var' init' const' b) (under y))
    same_layer (Term-F.Lit n) e = refl
    same_layer (Term-F.Var x) e = (itself x e).0
    same_layer (Term-F.Init x) e = (itself x e).1
    same_layer (Term-F.Const x) e = (itself x e).2
    same_layer (Term-F.Bound k) e = refl
    same_layer (Term-F.Neg a) e = λ i. here (Term-F.Neg (a.1 e i))
    same_layer (Term-F.Add a c) e = λ i. here (Term-F.Add (a.1 (left (m a) (m c) e) i) (c.1 (right (m a) (m c) e) i))
    same_layer (Term-F.Sub a c) e = λ i. here (Term-F.Sub (a.1 (left (m a) (m c) e) i) (c.1 (right (m a) (m c) e) i))
    same_layer (Term-F.Mul a c) e = λ i. here (Term-F.Mul (a.1 (left (m a) (m c) e) i) (c.1 (right (m a) (m c) e) i))
    same_layer (Term-F.Div a c) e = λ i. here (Term-F.Div (a.1 (left (m a) (m c) e) i) (c.1 (right (m a) (m c) e) i))
    same_layer (Term-F.Mod a c) e = λ i. here (Term-F.Mod (a.1 (left (m a) (m c) e) i) (c.1 (right (m a) (m c) e) i))
    same_layer (Term-F.Read a c) e = λ i. here (Term-F.Read (a.1 (left (m a) (m c) e) i) (c.1 (right (m a) (m c) e) i))
    same_layer (Term-F.Put a c d) e =
        let front = left (λ x. m a x || m c x) (m d) e in
        λ i. here (Term-F.Put (a.1 (left (m a) (m c) front) i) (c.1 (right (m a) (m c) front) i) (d.1 (right (λ x. m a x || m c x) (m d) e) i))
    same_layer (Term-F.Fun f args) e = refl

    same_at : (y : TermLayer) → Same (roll-Term (under y))
    same_at y e =
        fold-roll-Term Value here (under y)
        ∙ same_layer y (λ x h. e x (fold-roll-Term Bool (mentions_step x) (under y) ∙ h))
        ∙ sym (fold-roll-Term Value there (under y))

    pub same_value : (t : Term) → Same t
    same_value = ind-Term Same (λ x y is. subst (λ z. Same (roll-Term z)) is (same_at y))

    same_values : (ts : List Term) → Agree (λ x. terms_mention x ts) → map (value_by var init const b) ts ≡ map (value_by var' init' const' b) ts
    same_values [] e = refl
    same_values (t ∷ ts) e =
        let p = same_value t (left (λ x. mentions x t) (λ x. terms_mention x ts) e) in
        let q = same_values ts (right (λ x. mentions x t) (λ x. terms_mention x ts) e) in
        λ i. p i ∷ q i

  abbrev truth : Formula → List Value → Type 0
  truth = holds_by predicates var init const

  abbrev truth' : Formula → List Value → Type 0
  truth' = holds_by predicates var' init' const'

  abbrev Kept : Formula → Type 0
  Kept f = Agree (λ x. formula_mentions x f) → (b : List Value) → truth f b ↔ truth' f b

  abbrev Layer : Type 0
  Layer = Formula-F ((f : Formula) × Kept f)

  abbrev inside : Layer → Formula-F Formula
  inside = map-Formula ((f : Formula) × Kept f) Formula (λ e. e.0)

  abbrev n : (f : Formula) × Kept f → List ℕ → Bool
  n a = λ x. formula_mentions x a.0

  terms_same : (t u : Term) → Agree (λ x. mentions x t || mentions x u) → (b : List Value) →
      (value_by var init const b t ≡ value_by var' init' const' b t) × (value_by var init const b u ≡ value_by var' init' const' b u)
  terms_same t u e b = (same_value b t (left (λ x. mentions x t) (λ x. mentions x u) e), same_value b u (right (λ x. mentions x t) (λ x. mentions x u) e))

  kept_layer : (y : Layer) → Agree (λ x. formula_mentions_step x (map-Formula Formula Bool (formula_mentions x) (inside y))) → (b : List Value) →
      layer_truth predicates var init const (inside y) b ↔ layer_truth predicates var' init' const' (inside y) b
  kept_layer Formula-F.True e b = (λ h. h, λ h. h)
  kept_layer Formula-F.False e b = (λ h. h, λ h. h)
  kept_layer (Formula-F.Eq t u) e b = let s = terms_same t u e b in along_both (λ p q. p ≡ q) s.0 s.1
  kept_layer (Formula-F.Less t u) e b = let s = terms_same t u e b in along_both (λ p q. whole p <ℤ whole q) s.0 s.1
  kept_layer (Formula-F.AtMost t u) e b = let s = terms_same t u e b in along_both (λ p q. whole p ≤ℤ whole q) s.0 s.1
  kept_layer (Formula-F.Not f) e b = not_iff (f.1 e b)
  kept_layer (Formula-F.And f g) e b = and_iff (f.1 (left (n f) (n g) e) b) (g.1 (right (n f) (n g) e) b)
  kept_layer (Formula-F.Or f g) e b = not_iff (and_iff (not_iff (f.1 (left (n f) (n g) e) b)) (not_iff (g.1 (right (n f) (n g) e) b)))
  kept_layer (Formula-F.Imp f g) e b = imp_iff (f.1 (left (n f) (n g) e) b) (g.1 (right (n f) (n g) e) b)
  kept_layer (Formula-F.All s f) e b = all_iff _ _ s (λ w. f.1 e (w ∷ b))
  kept_layer (Formula-F.Any s f) e b = not_iff (all_iff _ _ s (λ w. not_iff (f.1 e (w ∷ b))))
  kept_layer (Formula-F.App p args) e b = along (predicates p) (same_values b args e)

  kept_at : (y : Layer) → Kept (roll-Formula (inside y))
  kept_at y e b =
      let both = kept_layer y (λ x h. e x (fold-roll-Formula Bool (formula_mentions_step x) (inside y) ∙ h)) b in (
        λ h. from_layer predicates _ _ _ (inside y) b (both.0 (to_layer predicates _ _ _ (inside y) b h)),
        λ h. from_layer predicates _ _ _ (inside y) b (both.1 (to_layer predicates _ _ _ (inside y) b h)),
      )

  pub same_truth : (f : Formula) → Kept f
  same_truth = ind-Formula Kept (λ x y is. subst (λ z. Kept (roll-Formula z)) is (kept_at y))

pub values_agree : ValuesAgree
values_agree term s0 s t0 t e b =
    same_value (λ p vs. ⊥) (value_in s) (value_in s0) (value_in s) (value_in t) (value_in t0) (value_in t) b term (λ x m. ((e x m).1, (e x m).0, (e x m).1))

pub truth_agrees : TruthAgrees
truth_agrees library f s0 s t0 t e b =
    same_truth (predicates_of (reverse library)) (value_in s) (value_in s0) (value_in s) (value_in t) (value_in t0) (value_in t) f (λ x m. ((e x m).1, (e x m).0, (e x m).1)) b

-- a state has its value of each other name where that of one name is changed
other : (x z : List ℕ) (v : Value) (s : State) (c : Bool) → bytes_eq x z ≡ c → c ≡ false → value_in s z ≡ value_in (with_value x v s) z
other x z v s true e n = absurd (true≢false n)
other x z v s false e n = sym (ap (λ b. given (if b then Some v else s z)) e)

not_it : (f : Formula) (x z : List ℕ) → ¬ (IsTrue (formula_mentions x f)) → IsTrue (formula_mentions z f) → bytes_eq x z ≡ false
not_it f x z n m = differs (bytes_eq x z) refl
  where
    differs : (c : Bool) → bytes_eq x z ≡ c → c ≡ false
    differs true e = absurd (n (subst (λ w. IsTrue (formula_mentions w f)) (sym ((bytes_eq-Decides x z).0 e)) m))
    differs false e = refl

pub truth_ignores : TruthIgnores
truth_ignores library f x n v0 v s0 s b =
    truth_agrees library f s0 s (with_value x v0 s0) (with_value x v s)
    (λ z m. let d = not_it f x z n m in (other x z v0 s0 _ refl d, other x z v s _ refl d)) b
