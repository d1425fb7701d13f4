-- The changes for parameters, one after another.
use Rattle.std.proofs.Common.{◌≡◌, ℕ, suc, ◌+◌, ◌<◌, ◌≤◌, List, [], ◌∷◌, ◌++◌, length, drop, get_or, refl, sym, ap, ◌∙◌, ◌⊎◌, inl, inr, add-one, drop-cons, min, subst, arith}
use Rattle.std.proofs.Math.Nat.{min-eq_left, min-eq_right}
use Rattle.std.proofs.lemmas.Bool.Decides.{leb_tells}
use Rattle.std.proofs.lemmas.List.{drop_all, append-nil, append_assoc}
use Rattle.rw_terms.specs.declared.term.Term.{Term}
use Rattle.rw_terms.specs.Named.{Named}
use Rattle.rw_subst.specs.declared.slot.Change.{Change}
use Rattle.rw_citations.specs.Cited.{changes_of, changes_for}

no_terms : (ps : List Named) → changes_for ps [] ≡ []
no_terms [] = refl
no_terms (p ∷ ps) = refl

-- a parameter and the term in its place, and those behind them
pub changes_step : (ps : List Named) (ts : List Term) (i : ℕ) (p : Named) (t : Term) → i < length ps → i < length ts → p ≡ get_or ps i p → t ≡ get_or ts i t →
    changes_for (drop i ps) (drop i ts) ≡ changes_of p.0 t ++ changes_for (drop (i + 1) ps) (drop (i + 1) ts)
changes_step ps ts i p t h k e f =
    rw (add-one, drop-cons ps i p h, drop-cons ts i t k)
    (ap (λ x. changes_of x.0 (get_or ts i t) ++ changes_for (drop (suc i) ps) (drop (suc i) ts)) (sym e) ∙ ap (λ x. changes_of p.0 x ++ changes_for (drop (suc i) ps) (drop (suc i) ts)) (sym f))

pub changes_grow : (acc : List Change) (ps : List Named) (ts : List Term) (i : ℕ) (p : Named) (t : Term) → i < length ps → i < length ts → p ≡ get_or ps i p → t ≡ get_or ts i t →
    acc ++ changes_for (drop i ps) (drop i ts) ≡ (acc ++ changes_of p.0 t) ++ changes_for (drop (i + 1) ps) (drop (i + 1) ts)
changes_grow acc ps ts i p t h k e f =
    ap (λ l. acc ++ l) (changes_step ps ts i p t h k e f) ∙ sym (append_assoc acc (changes_of p.0 t) (changes_for (drop (i + 1) ps) (drop (i + 1) ts)))

-- behind the last parameter or the last term there are none
pub changes_end : (acc : List Change) (ps : List Named) (ts : List Term) (i : ℕ) → (length ps ≤ i) ⊎ (length ts ≤ i) → acc ++ changes_for (drop i ps) (drop i ts) ≡ acc
changes_end acc ps ts i (inl h) = ap (λ l. acc ++ changes_for l (drop i ts)) (drop_all i ps h) ∙ append-nil acc
changes_end acc ps ts i (inr h) = ap (λ l. acc ++ changes_for (drop i ps) l) (drop_all i ts h) ∙ ap (λ l. acc ++ l) (no_terms (drop i ps)) ∙ append-nil acc

-- past the lesser of two numbers is past one of them
pub min_reached : (a b m i : ℕ) → m ≡ min a b → m ≤ i → (a ≤ i) ⊎ (b ≤ i)
min_reached a b m i e h = elim (leb_tells a b) [
  | inl k ↦ inl (subst (λ x. x ≤ i) (e ∙ min-eq_left k.1) h)
  | inr k ↦ inr (subst (λ x. x ≤ i) (e ∙ min-eq_right (let l = k.1 in omega arith)) h)
]
