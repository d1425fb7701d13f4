use Rattle.std.proofs.Common.{◌≡◌, ℕ, suc, ◌+◌, ◌<◌, ◌&&◌, Bool, true, false, List, [], ◌∷◌, length, map, drop, refl, sym, ◌∙◌, ap, arith, get_or, add-one, drop-cons, Option}
use Rattle.std.proofs.lemmas.List.{length-map}
use Rattle.rw_terms.specs.declared.term.Sort.{Sort}
use Rattle.rw_terms.specs.declared.term.Term.{Term}
use Rattle.rw_terms.specs.Named.{Named}
use Rattle.rw_terms.specs.Rules.{is_of, are_of}
use Rattle.rw_goals.specs.Sorting.{sort_of}
use Rattle.rw_goals.proofs.sorting.are_of.Goals as goal

-- lists of different lengths do not fit
not_as_many : (ss : List Sort) (os : List (Option Sort)) → ¬ (length ss ≡ length os) → false ≡ are_of ss os
not_as_many [] [] n = absurd (n refl)
not_as_many [] (o ∷ os) n = refl
not_as_many (s ∷ ss) [] n = refl
not_as_many (s ∷ ss) (o ∷ os) n = false_behind (is_of s o) (not_as_many ss os (λ e. n (ap suc e))) where
  false_behind : (b : Bool) {c : Bool} → false ≡ c → false ≡ (b && c)
  false_behind true e = e
  false_behind false e = refl

-- a parameter and the term in its place, and those behind them
from_here : (f : Term → Option Sort) (ps : List Named) (ts : List Term) (i : ℕ) (d : Named) (t : Term) → i < length ps → i < length ts → t ≡ get_or ts i t → d ≡ get_or ps i d → (b : Bool) →
    b ≡ is_of d.1 (f t) → are_of (map (λ p. p.1) (drop i ps)) (map f (drop i ts)) ≡ (b && are_of (map (λ p. p.1) (drop (i + 1) ps)) (map f (drop (i + 1) ts)))
from_here f ps ts i d t p q e k b h =
    rw (add-one, drop-cons ps i d p, drop-cons ts i t q)
    (ap (λ c. c && are_of (map (λ p. p.1) (drop (suc i) ps)) (map f (drop (suc i) ts))) (ap (λ x. is_of x.1 (f (get_or ts i t))) (sym k) ∙ ap (λ x. is_of d.1 (f x)) (sym e) ∙ sym h))

pub returns-then-params-args : goal.returns-then-params-args
returns-then-params-args c =
    not_as_many (map (λ p. p.1) c.args.params.now) (map (sort_of c.args.names.now c.args.binders.now) c.args.args.now)
    (λ e. c.if-params-args.true (sym (length-map c.args.params.now _) ∙ e ∙ length-map c.args.args.now _))

pub returns-then-not-is_of : goal.returns-then-not-is_of
returns-then-not-is_of c =
    sym (from_here (sort_of c.args.names.now c.args.binders.now) c.args.params.now c.args.args.now c.loop-i.i c.index-params-i.result c.index-args-i.result
    (omega arith) (omega arith) c.index-args-i.is c.index-params-i.is false (sym c.if-not-is_of.true ∙ c.is_of.ensures ∙ ap (is_of _) c.sort_of.ensures))
    ∙ c.loop-i.invariant.rest

pub loop-i-preserved : goal.loop-i-preserved
loop-i-preserved c = record {
  long = c.loop-i.invariant.long;
  rest =
      sym (from_here (sort_of c.args.names.now c.args.binders.now) c.args.params.now c.args.args.now c.loop-i.i c.index-params-i.result c.index-args-i.result
      (omega arith) (omega arith) c.index-args-i.is c.index-params-i.is true (sym c.if-not-is_of.false ∙ c.is_of.ensures ∙ ap (is_of _) c.sort_of.ensures))
      ∙ c.loop-i.invariant.rest;
}
