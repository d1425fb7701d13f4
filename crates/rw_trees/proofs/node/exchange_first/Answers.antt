use Rattle.std.proofs.Common.{◌≡◌, ◌<◌, ◌+◌, suc, sym, ap, ◌∙◌, subst, arith, take, set, length, Some, inl, inr}
use Rattle.std.specs.List.{slice_get}
use Rattle.std.proofs.lemmas.Bool.Decides.{leb_tells}
use Rattle.rw_trees.specs.Nodes.{over}
use Rattle.rw_trees.proofs.Overs.{over-nil}
use Rattle.rw_trees.proofs.Layers.{length-over}
use Rattle.rw_trees.proofs.Exchanged.{get_next, set_next, all_exchanged}
use Rattle.rw_trees.proofs.node.exchange_first.Goals as goal

pub loop-i-init : goal.loop-i-init
loop-i-init g c = record { one = sym (over-nil c.args.one.now); other = sym (over-nil c.args.other.now) }

pub item_mut-requires : goal.item_mut-requires
item_mut-requires g c =
    let within : c.loop-i.i < length c.args.one.now = omega (arith, c.lesser-i-end.ensures, c.len.ensures, c.len-2.ensures) in
    subst (λ n. c.loop-i.i < n) (sym (ap length c.loop-i.invariant.one ∙ length-over c.args.one.now (take c.loop-i.i c.args.other.now))) within

pub item_mut-requires-in-loop-i : goal.item_mut-requires-in-loop-i
item_mut-requires-in-loop-i g c =
    let within : c.loop-i.i < length c.args.other.now = omega (arith, c.lesser-i-end.ensures, c.len.ensures, c.len-2.ensures) in
    subst (λ n. c.loop-i.i < n) (sym (ap length c.loop-i.invariant.other ∙ length-over c.args.other.now (take c.loop-i.i c.args.one.now))) within

pub loop-i-preserved : goal.loop-i-preserved
loop-i-preserved g c =
    let next : suc c.loop-i.i ≡ c.loop-i.i + 1 = omega arith in
    let mine : slice_get c.args.one.now c.loop-i.i ≡ Some c.item_mut.result.now =
    sym (get_next c.args.one.now c.args.other.now c.loop-i.i) ∙ ap (λ xs. slice_get xs c.loop-i.i) (sym c.loop-i.invariant.one) ∙ c.item_mut.ensures.value in
    let theirs : slice_get c.args.other.now c.loop-i.i ≡ Some c.item_mut-in-loop-i.result.now =
    sym (get_next c.args.other.now c.args.one.now c.loop-i.i) ∙ ap (λ xs. slice_get xs c.loop-i.i) (sym c.loop-i.invariant.other) ∙ c.item_mut-in-loop-i.ensures.value in
    record {
      one = ap (set c.loop-i.one c.loop-i.i) c.swap.ensures.x_after
          ∙ ap (λ xs. set xs c.loop-i.i c.item_mut-in-loop-i.result.now) c.loop-i.invariant.one
          ∙ set_next c.args.one.now c.args.other.now c.loop-i.i c.item_mut-in-loop-i.result.now theirs
          ∙ ap (λ n. over c.args.one.now (take n c.args.other.now)) next;
      other = ap (set c.loop-i.other c.loop-i.i) c.swap.ensures.y_after
          ∙ ap (λ xs. set xs c.loop-i.i c.item_mut.result.now) c.loop-i.invariant.other
          ∙ set_next c.args.other.now c.args.one.now c.loop-i.i c.item_mut.result.now mine
          ∙ ap (λ n. over c.args.other.now (take n c.args.one.now)) next;
    }

pub returns-clause-one : goal.returns-clause-one
returns-clause-one g c = c.loop-i.invariant.one ∙ all_exchanged c.args.one.now c.args.other.now c.loop-i.i (elim (leb_tells (length c.args.one.now) (length c.args.other.now)) [
  | inl h ↦ inl (omega (arith, h.1, c.lesser-i-end.ensures, c.len.ensures, c.len-2.ensures))
  | inr h ↦ inr (omega (arith, h.1, c.lesser-i-end.ensures, c.len.ensures, c.len-2.ensures))
])

pub returns-clause-other : goal.returns-clause-other
returns-clause-other g c = c.loop-i.invariant.other ∙ all_exchanged c.args.other.now c.args.one.now c.loop-i.i (elim (leb_tells (length c.args.one.now) (length c.args.other.now)) [
  | inl h ↦ inr (omega (arith, h.1, c.lesser-i-end.ensures, c.len.ensures, c.len-2.ensures))
  | inr h ↦ inl (omega (arith, h.1, c.lesser-i-end.ensures, c.len.ensures, c.len-2.ensures))
])
