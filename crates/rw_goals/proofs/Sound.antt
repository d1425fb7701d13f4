-- What it takes for a rule to be sound: where its premises are valid, so is the goal.
use Rattle.std.proofs.Common.{◌≡◌, ℕ, zero, suc, ◌-◌, Bool, true, false, List, [], ◌∷◌, ◌++◌, remove, slice_get, Option, Some, None, refl, sym, subst, arith, reverse}
use Rattle.std.proofs.lemmas.List.{append-nil}
use Rattle.rw_terms.specs.declared.term.Formula.{Formula}
use Rattle.rw_terms.specs.declared.term.Formula.TheOpen.{Formula-F}
use Rattle.rw_terms.specs.declared.term.Formula.TheViews.{out-Formula, roll-out-Formula}
use Rattle.rw_terms.specs.declared.sequent.Sequent.{Sequent}
use Rattle.rw_terms.specs.State.{State, value_in}
use Rattle.rw_terms.specs.Truth.{Definition, predicates_of, holds}
use Rattle.rw_terms.specs.Validity.{Each, FitsNames, Valid}
use Rattle.rw_terms.proofs.Truths.{to_layer, from_layer, layer_truth}
use Rattle.rw_goals.specs.declared.added.Added.{Added}
use Rattle.rw_goals.specs.declared.added.Parts.{Parts}
use Rattle.rw_goals.specs.declared.added.Parts.TheVariants as parts
use Rattle.rw_goals.specs.Premises.{Effect, Fails, Premises, with_added, unless_heavy, effect, numbered, principal, at_left, at_right}

pub joined : {X : Type 0} (P : X → Type 0) (l m : List X) → Each P l → Each P m → Each P (l ++ m)
joined P [] m h k = k
joined P (x ∷ xs) m h k = (h.0, joined P xs m h.1 k)

without : {X : Type 0} (P : X → Type 0) (l : List X) (i : ℕ) (x : X) → slice_get l i ≡ Some x → Each P l → P x × Each P (remove l i)
without P [] i x e h = absurd (cc)
without P (y ∷ ys) zero x e h = let q : y ≡ x = cc in (subst P q h.0, h.1)
without P (y ∷ ys) (suc i) x e h = let r = without P ys i x e h.1 in (r.0, (h.0, r.1))

-- the formula of a number, and the others
pub taken : (P : Formula → Type 0) (l : List Formula) (n : ℕ) (f : Formula) → numbered l n ≡ Some f → Each P l → P f × Each P (remove l (n - 1))
taken P l zero f e h = absurd (cc)
taken P l (suc i) f e h = let s : i ≡ suc i - 1 = omega arith in subst (λ k. P f × Each P (remove l k)) s (without P l i f e h)

module _ (library : List Definition) where
  abbrev pub Holds : State → State → Formula → Type 0
  Holds s0 s f = holds library f s0 s []

  abbrev pub Denies : State → State → Formula → Type 0
  Denies s0 s f = ¬ (holds library f s0 s [])

  -- of a layer of a formula
  abbrev pub HoldsAt : State → State → Formula-F Formula → Type 0
  HoldsAt s0 s x = layer_truth (predicates_of (reverse library)) (value_in s) (value_in s0) (value_in s) x []

  pub opened : (s0 s : State) (f : Formula) → Holds s0 s f → HoldsAt s0 s (out-Formula f)
  opened s0 s f h = to_layer (predicates_of (reverse library)) _ _ _ (out-Formula f) [] (subst (Holds s0 s) (sym (roll-out-Formula f)) h)

  pub closed : (s0 s : State) (f : Formula) → HoldsAt s0 s (out-Formula f) → Holds s0 s f
  closed s0 s f h = subst (Holds s0 s) (roll-out-Formula f) (from_layer (predicates_of (reverse library)) _ _ _ (out-Formula f) [] h)

  -- the line does not fail, and its premises are valid
  abbrev pub AllValid : Effect → Type 0
  AllValid (Fails sub cause) = ⊥
  AllValid (Premises ps) = Each (Valid library) ps

  pub premises_valid : (heavy : Bool) (ps : List Sequent) → AllValid (unless_heavy heavy ps) → Each (Valid library) ps
  premises_valid true ps v = absurd v
  premises_valid false ps v = v

  pub one_valid : (q : Sequent) (a : Added) → AllValid (effect (parts.One a) q) → Valid library (with_added q a)
  one_valid q a v = let r : Each (Valid library) (with_added q a ∷ []) = premises_valid _ _ v in r.0

  pub two_valid : (q : Sequent) (a b : Added) → AllValid (effect (parts.Two a b) q) → Valid library (with_added q a) × Valid library (with_added q b)
  two_valid q a b v = let r : Each (Valid library) (with_added q a ∷ with_added q b ∷ []) = premises_valid _ _ v in (r.0, r.1.0)

  -- states that refute a goal, where they give what is added the wrong way round too, refute the premise
  pub refuted : (q : Sequent) (l r : List Formula) → Valid library (with_added q (record { names = []; left = l; right = r })) → (s0 s : State) →
      FitsNames q.names s0 → FitsNames q.names s → Each (Holds s0 s) q.left → Each (Denies s0 s) q.right → Each (Holds s0 s) l → Each (Denies s0 s) r → ⊥
  refuted q l r v s0 s i j left right more_left more_right =
      v s0 s (subst (λ n. FitsNames n s0) (sym (append-nil q.names)) i) (subst (λ n. FitsNames n s) (sym (append-nil q.names)) j)
      (joined (Holds s0 s) q.left l left more_left) (joined (Denies s0 s) q.right r right more_right)

  -- the same of the one premise of a rule
  pub one_refuted : (q : Sequent) (l r : List Formula) → AllValid (effect (parts.One (record { names = []; left = l; right = r })) q) → (s0 s : State) →
      FitsNames q.names s0 → FitsNames q.names s → Each (Holds s0 s) q.left → Each (Denies s0 s) q.right → Each (Holds s0 s) l → Each (Denies s0 s) r → ⊥
  one_refuted q l r v = refuted q l r (one_valid q (record { names = []; left = l; right = r }) v)

  -- a rule for a left formula is sound where no states refute the rest of the goal and make the formula true
  abbrev pub LeftSound : (Formula → Parts) → Type 0
  LeftSound rule =
      (f : Formula) (q : Sequent) → AllValid (effect (rule f) q) → (s0 s : State) → FitsNames q.names s0 → FitsNames q.names s →
      Holds s0 s f → Each (Holds s0 s) q.left → ¬ (Each (Denies s0 s) q.right)

  abbrev pub RightSound : (Formula → Parts) → Type 0
  RightSound rule =
      (f : Formula) (q : Sequent) → AllValid (effect (rule f) q) → (s0 s : State) → FitsNames q.names s0 → FitsNames q.names s →
      Denies s0 s f → Each (Holds s0 s) q.left → ¬ (Each (Denies s0 s) q.right)

  -- the same of a rule that looks at the formula's outermost part
  abbrev pub LeftLayer : (Formula-F Formula → Parts) → Type 0
  LeftLayer rule =
      (x : Formula-F Formula) (q : Sequent) → AllValid (effect (rule x) q) → (s0 s : State) → FitsNames q.names s0 → FitsNames q.names s →
      HoldsAt s0 s x → Each (Holds s0 s) q.left → ¬ (Each (Denies s0 s) q.right)

  abbrev pub RightLayer : (Formula-F Formula → Parts) → Type 0
  RightLayer rule =
      (x : Formula-F Formula) (q : Sequent) → AllValid (effect (rule x) q) → (s0 s : State) → FitsNames q.names s0 → FitsNames q.names s →
      ¬ (HoldsAt s0 s x) → Each (Holds s0 s) q.left → ¬ (Each (Denies s0 s) q.right)

  pub by_left : (rule : Formula-F Formula → Parts) → LeftLayer rule → LeftSound (λ f. rule (out-Formula f))
  by_left rule sound f q v s0 s i j h = sound (out-Formula f) q v s0 s i j (opened s0 s f h)

  pub by_right : (rule : Formula-F Formula → Parts) → RightLayer rule → RightSound (λ f. rule (out-Formula f))
  by_right rule sound f q v s0 s i j deny = sound (out-Formula f) q v s0 s i j (λ h. deny (closed s0 s f h))

  left_found : (rule : Formula → Parts) → LeftSound rule → (q : Sequent) (n : ℕ) (o : Option Formula) → numbered q.left n ≡ o →
      AllValid (principal o (record { names = q.names; left = remove q.left (n - 1); right = q.right }) rule) → Valid library q
  left_found rule sound q n None e v = absurd v
  left_found rule sound q n (Some f) e v = λ s0 s i j left right.
      let t = taken (Holds s0 s) q.left n f e left in
      sound f (record { names = q.names; left = remove q.left (n - 1); right = q.right }) v s0 s i j t.0 t.1 right

  right_found : (rule : Formula → Parts) → RightSound rule → (q : Sequent) (n : ℕ) (o : Option Formula) → numbered q.right n ≡ o →
      AllValid (principal o (record { names = q.names; left = q.left; right = remove q.right (n - 1) }) rule) → Valid library q
  right_found rule sound q n None e v = absurd v
  right_found rule sound q n (Some f) e v = λ s0 s i j left right.
      let t = taken (Denies s0 s) q.right n f e right in
      sound f (record { names = q.names; left = q.left; right = remove q.right (n - 1) }) v s0 s i j t.0 left t.1

  pub at_left_sound : (rule : Formula → Parts) → LeftSound rule → (q : Sequent) (n : ℕ) → AllValid (at_left q n rule) → Valid library q
  at_left_sound rule sound q n v = left_found rule sound q n (numbered q.left n) refl v

  pub at_right_sound : (rule : Formula → Parts) → RightSound rule → (q : Sequent) (n : ℕ) → AllValid (at_right q n rule) → Valid library q
  at_right_sound rule sound q n v = right_found rule sound q n (numbered q.right n) refl v
