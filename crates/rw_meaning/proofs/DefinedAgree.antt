-- Where terms and guards are defined depends on the names that they mention, and on no other.
use Rattle.std.proofs.Common.{◌≢◌, ℕ, pos, Bool, ◌||◌, List, [], ◌∷◌, map, All, ◌∙◌, subst}
use Rattle.std.proofs.lemmas.Bool.{or_left, or_right}
use Rattle.std.proofs.lemmas.List.Elements.{All-nil, All-cons, All-head, All-tail}
use Rattle.rw_terms.specs.declared.term.Term.{Term}
use Rattle.rw_terms.specs.declared.term.Term.TheOpen.{Term-F}
use Rattle.rw_terms.specs.declared.term.Term.TheViews.{roll-Term}
use Rattle.rw_terms.specs.declared.term.Term.TheFolds.{map-Term, ind-Term, fold-roll-Term}
use Rattle.rw_terms.specs.declared.term.Formula.{Formula}
use Rattle.rw_terms.specs.declared.term.Formula.TheOpen.{Formula-F}
use Rattle.rw_terms.specs.declared.term.Formula.TheViews.{roll-Formula}
use Rattle.rw_terms.specs.declared.term.Formula.TheFolds.{map-Formula, ind-Formula, fold-roll-Formula}
use Rattle.rw_terms.specs.Mentions.{any_of, mentions_step, mentions, terms_mention, formula_mentions_step, formula_mentions}
use Rattle.rw_terms.specs.State.{whole, cells, State}
use Rattle.rw_terms.specs.Value.{value}
use Rattle.rw_terms.specs.Validity.{Each}
use Rattle.rw_terms.specs.Agreement.{AgreeOn}
use Rattle.rw_terms.specs.Defined.{IsIndex, PartDefined, Defined, TermsDefined, GuardDefined}
use Rattle.rw_terms.proofs.Agree.{values_agree}
use Rattle.rw_subst.proofs.Every.{OfParts, every_term, OfFormulaParts, every_formula}

module _ (s0 s t0 t : State) where
  abbrev Agree : (List ℕ → Bool) → Type 0
  Agree test = AgreeOn test s0 s t0 t

  first : (f g : List ℕ → Bool) → Agree (λ x. f x || g x) → Agree f
  first f g e x m = e x (or_left (f x) (g x) m)

  second : (f g : List ℕ → Bool) → Agree (λ x. f x || g x) → Agree g
  second f g e x m = e x (or_right (f x) (g x) m)

  abbrev Moves : Term → Type 0
  Moves u = Agree (λ x. mentions x u) → Defined s0 s u → Defined t0 t u

  abbrev Moving : Type 0
  Moving = (u : Term) × Moves u

  abbrev under : Term-F Moving → Term-F Term
  under = map-Term Moving Term (λ e. e.0)

  abbrev m : Moving → List ℕ → Bool
  m a = λ x. mentions x a.0

  divides : (b : Term) → Agree (λ x. mentions x b) → whole (value s0 s [] b) ≢ pos 0 → whole (value t0 t [] b) ≢ pos 0
  divides b e = subst (λ v. whole v ≢ pos 0) (values_agree b s0 s t0 t e [])

  within : (a i : Term) → Agree (λ x. mentions x a) → Agree (λ x. mentions x i) → IsIndex (whole (value s0 s [] i)) (cells (value s0 s [] a)) → IsIndex (whole (value t0 t [] i)) (cells (value t0 t [] a))
  within a i e f h =
      subst (λ v. IsIndex (whole (value t0 t [] i)) (cells v)) (values_agree a s0 s t0 t e [])
      (subst (λ v. IsIndex (whole v) (cells (value s0 s [] a))) (values_agree i s0 s t0 t f []) h)

  both_move : (a b : Moving) → Agree (λ x. m a x || m b x) → Defined s0 s a.0 × Defined s0 s b.0 → Defined t0 t a.0 × Defined t0 t b.0
  both_move a b e h = (a.1 (first (m a) (m b) e) h.0, b.1 (second (m a) (m b) e) h.1)

  args_move : (us : List Moving) → Agree (λ x. any_of (map (mentions x) (map (λ e. e.0) us))) → Each (Defined s0 s) (map (λ e. e.0) us) → Each (Defined t0 t) (map (λ e. e.0) us)
  args_move [] e h = tt
  args_move (u ∷ us) e h =
      let rest : List ℕ → Bool = λ x. any_of (map (mentions x) (map (λ e. e.0) us)) in (u.1 (first (m u) rest e) h.0, args_move us (second (m u) rest e) h.1)

  layer_moves : (y : Term-F Moving) → Agree (λ x. mentions_step x (map-Term Term Bool (mentions x) (under y)))
      → PartDefined s0 s (under y) × OfParts (Defined s0 s) (under y) → PartDefined t0 t (under y) × OfParts (Defined t0 t) (under y)
  layer_moves (Term-F.Lit n) e h = h
  layer_moves (Term-F.Var n) e h = h
  layer_moves (Term-F.Init n) e h = h
  layer_moves (Term-F.Const n) e h = h
  layer_moves (Term-F.Bound k) e h = h
  layer_moves (Term-F.Neg a) e h = (tt, a.1 e h.1)
  layer_moves (Term-F.Add a b) e h = (tt, both_move a b e h.1)
  layer_moves (Term-F.Sub a b) e h = (tt, both_move a b e h.1)
  layer_moves (Term-F.Mul a b) e h = (tt, both_move a b e h.1)
  layer_moves (Term-F.Div a b) e h = (divides b.0 (second (m a) (m b) e) h.0, both_move a b e h.1)
  layer_moves (Term-F.Mod a b) e h = (divides b.0 (second (m a) (m b) e) h.0, both_move a b e h.1)
  layer_moves (Term-F.Read a i) e h = (within a.0 i.0 (first (m a) (m i) e) (second (m a) (m i) e) h.0, both_move a i e h.1)
  layer_moves (Term-F.Put a i z) e h =
      let front : Agree (λ x. m a x || m i x) = first (λ x. m a x || m i x) (m z) e in
      let array = first (m a) (m i) front in
      let index = second (m a) (m i) front in
      (within a.0 i.0 array index h.0, (a.1 array h.1.0, i.1 index h.1.1, z.1 (second (λ x. m a x || m i x) (m z) e) h.1.2))
  layer_moves (Term-F.Fun f us) e h = (tt, args_move us e h.1)

  moves_at : (y : Term-F Moving) → Moves (roll-Term (under y))
  moves_at y e h =
      (every_term (PartDefined t0 t) (under y)).1
      (layer_moves y (λ x k. e x (fold-roll-Term Bool (mentions_step x) (under y) ∙ k)) ((every_term (PartDefined s0 s) (under y)).0 h))

  pub term_defined : (u : Term) → Moves u
  term_defined = ind-Term Moves (λ u y is. subst (λ z. Moves (roll-Term z)) is (moves_at y))

  pub terms_defined : (us : List Term) → Agree (λ x. terms_mention x us) → All (Defined s0 s) us → All (Defined t0 t) us
  terms_defined [] e h = All-nil (Defined t0 t)
  terms_defined (u ∷ us) e h =
      let one : List ℕ → Bool = λ x. mentions x u in
      let rest : List ℕ → Bool = λ x. terms_mention x us in
      All-cons (Defined t0 t) u us (term_defined u (first one rest e) (All-head (Defined s0 s) u us h)) (terms_defined us (second one rest e) (All-tail (Defined s0 s) u us h))

  abbrev GuardMoves : Formula → Type 0
  GuardMoves g = Agree (λ x. formula_mentions x g) → GuardDefined s0 s g → GuardDefined t0 t g

  abbrev Guarding : Type 0
  Guarding = (g : Formula) × GuardMoves g

  abbrev inside : Formula-F Guarding → Formula-F Formula
  inside = map-Formula Guarding Formula (λ e. e.0)

  abbrev n : Guarding → List ℕ → Bool
  n a = λ x. formula_mentions x a.0

  two_terms : (u v : Term) → Agree (λ x. mentions x u || mentions x v) → Defined s0 s u × Defined s0 s v → Defined t0 t u × Defined t0 t v
  two_terms u v e h =
      let one : List ℕ → Bool = λ x. mentions x u in
      let other : List ℕ → Bool = λ x. mentions x v in
      (term_defined u (first one other e) h.0, term_defined v (second one other e) h.1)

  two_guards : (f g : Guarding) → Agree (λ x. n f x || n g x) → GuardDefined s0 s f.0 × GuardDefined s0 s g.0 → GuardDefined t0 t f.0 × GuardDefined t0 t g.0
  two_guards f g e h = (f.1 (first (n f) (n g) e) h.0, g.1 (second (n f) (n g) e) h.1)

  guard_layer : (y : Formula-F Guarding) → Agree (λ x. formula_mentions_step x (map-Formula Formula Bool (formula_mentions x) (inside y)))
      → TermsDefined s0 s (inside y) × OfFormulaParts (GuardDefined s0 s) (inside y) → TermsDefined t0 t (inside y) × OfFormulaParts (GuardDefined t0 t) (inside y)
  guard_layer Formula-F.True e h = h
  guard_layer Formula-F.False e h = h
  guard_layer (Formula-F.Eq u v) e h = (two_terms u v e h.0, tt)
  guard_layer (Formula-F.Less u v) e h = (two_terms u v e h.0, tt)
  guard_layer (Formula-F.AtMost u v) e h = (two_terms u v e h.0, tt)
  guard_layer (Formula-F.Not f) e h = (tt, f.1 e h.1)
  guard_layer (Formula-F.And f g) e h = (tt, two_guards f g e h.1)
  guard_layer (Formula-F.Or f g) e h = (tt, two_guards f g e h.1)
  guard_layer (Formula-F.Imp f g) e h = (tt, two_guards f g e h.1)
  guard_layer (Formula-F.All sort f) e h = (tt, f.1 e h.1)
  guard_layer (Formula-F.Any sort f) e h = (tt, f.1 e h.1)
  guard_layer (Formula-F.App p args) e h = (terms_defined args e h.0, tt)

  guard_at : (y : Formula-F Guarding) → GuardMoves (roll-Formula (inside y))
  guard_at y e h =
      (every_formula (TermsDefined t0 t) (inside y)).1
      (guard_layer y (λ x k. e x (fold-roll-Formula Bool (formula_mentions_step x) (inside y) ∙ k)) ((every_formula (TermsDefined s0 s) (inside y)).0 h))

  pub guard_defined : (g : Formula) → GuardMoves g
  guard_defined = ind-Formula GuardMoves (λ u y is. subst (λ z. GuardMoves (roll-Formula z)) is (guard_at y))
