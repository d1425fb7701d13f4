use Rattle.std.proofs.Common.{◌≡◌, ◌+◌, ◌<◌, ◌∙◌, ◌&&◌, ℕ, suc, List, map, drop, length, true, ap, arith, get_or, add-one, drop-cons}
use Rattle.rw_terms.specs.declared.term.Sort.{Sort}
use Rattle.rw_terms.specs.declared.term.Term.{Term}
use Rattle.rw_faults.specs.declared.faults.Checked.{Checked}
use Rattle.rw_terms.specs.Formed.{may_be}
use Rattle.rw_faults.specs.Faults.{each_fits, checked}
use Rattle.rw_faults.proofs.faults.fit_in.Goals as goal

-- one sort and one term more
one_fits : (f : Term → Checked) (ss : List Sort) (ts : List Term) (i : ℕ) (d : Sort) (t : Term) → i < length ss → i < length ts → t ≡ get_or ts i t →
    true ≡ may_be (get_or ss i d) (f t).sort → each_fits (drop (i + 1) ss) (map f (drop (i + 1) ts)) ≡ each_fits (drop i ss) (map f (drop i ts))
one_fits f ss ts i d t p q e h =
    rw (add-one, drop-cons ss i d, drop-cons ts i t)
    (ap (λ b. b && each_fits (drop (suc i) ss) (map f (drop (suc i) ts))) (h ∙ ap (λ x. may_be (get_or ss i d) (f x).sort) e))

pub loop-i-preserved : goal.loop-i-preserved
loop-i-preserved c = record {
  long = c.loop-i.invariant.long;
  rest =
      one_fits (checked c.args.scope.now c.args.binders.now) c.args.sorts.now c.args.args.now c.loop-i.i _ c.index-args-i.result (omega arith) (omega arith) c.index-args-i.is
      (c.if-not-may_be.ensures ∙ ap (may_be _) (ap (λ x. x.sort) c.check_sorts.ensures))
      ∙ c.loop-i.invariant.rest;
}
