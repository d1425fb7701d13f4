-- Goals whose predicates are all among some: the rules keep them there.
use Rattle.std.proofs.Common.{◌≡◌, ℕ, ◌-◌, Bool, true, false, List, [], ◌∷◌, ◌++◌, remove, Option, Some, None, refl, subst}
use Rattle.rw_terms.specs.declared.term.Formula.{Formula}
use Rattle.rw_terms.specs.declared.term.Formula.TheOpen.{Formula-F}
use Rattle.rw_terms.specs.declared.term.Formula.TheViews.{out-Formula}
use Rattle.rw_terms.specs.declared.sequent.Sequent.{Sequent}
use Rattle.rw_terms.specs.Validity.{Each}
use Rattle.rw_goals.specs.declared.added.Added.{Added}
use Rattle.rw_goals.specs.declared.added.Parts.{Parts}
use Rattle.rw_goals.specs.declared.added.Parts.TheVariants as parts
use Rattle.rw_goals.specs.declared.connectives.Connective.{Connective}
use Rattle.rw_goals.specs.declared.connectives.Connective.TheVariants.{Not, And, Or, Imp}
use Rattle.rw_goals.specs.Premises.{Effect, Fails, Premises, with_added, unless_heavy, effect, numbered, principal, at_left, at_right}
use Rattle.rw_goals.specs.Connectives.{not_left, not_right, and_left, and_right, or_left, or_right, imp_left, imp_right, left_rule, right_rule}
use Rattle.rw_goals.proofs.Sound.{joined, taken}
use Rattle.rw_goals.proofs.Places.{at_number}
use Rattle.rw_lemmas.specs.Citing.{predicates}
use Rattle.rw_lemmas.proofs.Predicates.{in_parts, by_parts}

pub split : {X : Type 0} (P : X → Type 0) (l m : List X) → Each P (l ++ m) → Each P l × Each P m
split P [] m h = (tt, h)
split P (x ∷ xs) m h = let r = split P xs m h.1 in ((h.0, r.0), r.1)

module _ (S : List ℕ → Type 0) where
  abbrev pub Within : Formula → Type 0
  Within f = Each S (predicates f)

  abbrev pub LayerWithin : Formula-F Formula → Type 0
  LayerWithin x = Each S (in_parts x)

  abbrev pub GoalWithin : Sequent → Type 0
  GoalWithin q = Each Within q.left × Each Within q.right

  abbrev pub EffectWithin : Effect → Type 0
  EffectWithin (Fails sub cause) = Unit {0}
  EffectWithin (Premises ps) = Each GoalWithin ps

  abbrev pub AddedWithin : Added → Type 0
  AddedWithin a = Each Within a.left × Each Within a.right

  abbrev pub PartsWithin : Parts → Type 0
  PartsWithin (parts.Fails cause) = Unit {0}
  PartsWithin (parts.One a) = AddedWithin a
  PartsWithin (parts.Two a b) = AddedWithin a × AddedWithin b

  pub opened : (f : Formula) → Within f → LayerWithin (out-Formula f)
  opened f h = subst (Each S) (by_parts f) h

  with_within : (q : Sequent) (a : Added) → GoalWithin q → AddedWithin a → GoalWithin (with_added q a)
  with_within q a h k = (joined Within q.left a.left h.0 k.0, joined Within q.right a.right h.1 k.1)

  unless_within : (heavy : Bool) (ps : List Sequent) → Each GoalWithin ps → EffectWithin (unless_heavy heavy ps)
  unless_within true ps h = tt
  unless_within false ps h = h

  pub effect_within : (p : Parts) (q : Sequent) → PartsWithin p → GoalWithin q → EffectWithin (effect p q)
  effect_within (parts.Fails cause) q h k = tt
  effect_within (parts.One a) q h k = unless_within _ (with_added q a ∷ []) (with_within q a k h, tt)
  effect_within (parts.Two a b) q h k = unless_within _ (with_added q a ∷ with_added q b ∷ []) (with_within q a k h.0, (with_within q b k h.1, tt))

  abbrev pub RuleWithin : (Formula → Parts) → Type 0
  RuleWithin rule = (f : Formula) → Within f → PartsWithin (rule f)

  abbrev pub LayerRule : (Formula-F Formula → Parts) → Type 0
  LayerRule rule = (x : Formula-F Formula) → LayerWithin x → PartsWithin (rule x)

  pub by_layer : (rule : Formula-F Formula → Parts) → LayerRule rule → RuleWithin (λ f. rule (out-Formula f))
  by_layer rule keeps f h = keeps (out-Formula f) (opened f h)

  left_found : (rule : Formula → Parts) → RuleWithin rule → (q : Sequent) (n : ℕ) (o : Option Formula) → numbered q.left n ≡ o → GoalWithin q →
      EffectWithin (principal o (record { names = q.names; left = remove q.left (n - 1); right = q.right }) rule)
  left_found rule keeps q n None e h = tt
  left_found rule keeps q n (Some f) e h =
      let t = taken Within q.left n f e h.0 in effect_within (rule f) (record { names = q.names; left = remove q.left (n - 1); right = q.right }) (keeps f t.0) (t.1, h.1)

  pub at_left_within : (rule : Formula → Parts) → RuleWithin rule → (q : Sequent) (n : ℕ) → GoalWithin q → EffectWithin (at_left q n rule)
  at_left_within rule keeps q n h = left_found rule keeps q n (numbered q.left n) refl h

  right_found : (rule : Formula → Parts) → RuleWithin rule → (q : Sequent) (n : ℕ) (o : Option Formula) → numbered q.right n ≡ o → GoalWithin q →
      EffectWithin (principal o (record { names = q.names; left = q.left; right = remove q.right (n - 1) }) rule)
  right_found rule keeps q n None e h = tt
  right_found rule keeps q n (Some f) e h =
      let t = taken Within q.right n f e h.1 in effect_within (rule f) (record { names = q.names; left = q.left; right = remove q.right (n - 1) }) (keeps f t.0) (h.0, t.1)

  pub at_right_within : (rule : Formula → Parts) → RuleWithin rule → (q : Sequent) (n : ℕ) → GoalWithin q → EffectWithin (at_right q n rule)
  at_right_within rule keeps q n h = right_found rule keeps q n (numbered q.right n) refl h

  -- the principal formula stays
  stays : (rule : Formula → Parts) → RuleWithin rule → (q : Sequent) (fs : List Formula) (n : ℕ) (o : Option Formula) → numbered fs n ≡ o → Each Within fs → GoalWithin q → EffectWithin (principal o q rule)
  stays rule keeps q fs n None e k h = tt
  stays rule keeps q fs n (Some f) e k h = effect_within (rule f) q (keeps f (at_number Within fs n f e k)) h

  pub beside_left_within : (rule : Formula → Parts) → RuleWithin rule → (q : Sequent) (n : ℕ) → GoalWithin q → EffectWithin (principal (numbered q.left n) q rule)
  beside_left_within rule keeps q n h = stays rule keeps q q.left n (numbered q.left n) refl h.0 h

  pub beside_right_within : (rule : Formula → Parts) → RuleWithin rule → (q : Sequent) (n : ℕ) → GoalWithin q → EffectWithin (principal (numbered q.right n) q rule)
  beside_right_within rule keeps q n h = stays rule keeps q q.right n (numbered q.right n) refl h.1 h

  -- the connectives
  not_left_within : LayerRule not_left
  not_left_within (Formula-F.Not a) h = (tt, (h, tt))
  not_left_within _ h = tt

  not_right_within : LayerRule not_right
  not_right_within (Formula-F.Not a) h = ((h, tt), tt)
  not_right_within _ h = tt

  and_left_within : LayerRule and_left
  and_left_within (Formula-F.And a b) h = let r = split S (predicates a) (predicates b) h in ((r.0, (r.1, tt)), tt)
  and_left_within _ h = tt

  and_right_within : LayerRule and_right
  and_right_within (Formula-F.And a b) h = let r = split S (predicates a) (predicates b) h in ((tt, (r.0, tt)), (tt, (r.1, tt)))
  and_right_within _ h = tt

  or_left_within : LayerRule or_left
  or_left_within (Formula-F.Or a b) h = let r = split S (predicates a) (predicates b) h in (((r.0, tt), tt), ((r.1, tt), tt))
  or_left_within _ h = tt

  or_right_within : LayerRule or_right
  or_right_within (Formula-F.Or a b) h = let r = split S (predicates a) (predicates b) h in (tt, (r.0, (r.1, tt)))
  or_right_within _ h = tt

  imp_left_within : LayerRule imp_left
  imp_left_within (Formula-F.Imp a b) h = let r = split S (predicates a) (predicates b) h in ((tt, (r.0, tt)), ((r.1, tt), tt))
  imp_left_within _ h = tt

  imp_right_within : LayerRule imp_right
  imp_right_within (Formula-F.Imp a b) h = let r = split S (predicates a) (predicates b) h in ((r.0, tt), (r.1, tt))
  imp_right_within _ h = tt

  pub left_rule_within : (c : Connective) → RuleWithin (left_rule c)
  left_rule_within Not = by_layer not_left not_left_within
  left_rule_within And = by_layer and_left and_left_within
  left_rule_within Or = by_layer or_left or_left_within
  left_rule_within Imp = by_layer imp_left imp_left_within

  pub right_rule_within : (c : Connective) → RuleWithin (right_rule c)
  right_rule_within Not = by_layer not_right not_right_within
  right_rule_within And = by_layer and_right and_right_within
  right_rule_within Or = by_layer or_right or_right_within
  right_rule_within Imp = by_layer imp_right imp_right_within
