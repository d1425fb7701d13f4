use Rattle.std.proofs.Common.{rules, arith, ◌<◌, ◌≤◌, ◌+◌, ◌∙◌, [], ◌∷◌, ◌++◌, refl, sym, ap, subst, length, drop, map, add-one}
use Rattle.std.proofs.lemmas.Grind.{common_steps}
use Rattle.std.specs.Option.{option_copied}
use Rattle.std.specs.List.{slice_get}
use Rattle.rw_nodes.specs.declared.node.Node.{out-Node}
use Rattle.rw_nodes.specs.Nodes.{layer}
use Rattle.rw_nodes.proofs.Kids.{item_at}
use Rattle.rw_tree.specs.Mirror.{HasFewLines}
use Rattle.rw_sites.specs.Derived.{derived, sites, kid_sites}
use Rattle.rw_anew.specs.Anew.{mark_of}
use Rattle.rw_tree.proofs.Clauses.{on_ok}
use Rattle.rw_anew.proofs.Counted.{few_owed}
use Rattle.rw_anew.specs.Cost.{sites_cost}
use Rattle.rw_anew.proofs.Costs.{on_err, err_weaker, part_taken, part_within}
use Rattle.rw_anew.proofs.Marking.{all_marked, kid_marked, kid_cost, node_counted, node_within}
use Rattle.rw_nodes.proofs.Counts.{total_get, kids_fewer}
use Rattle.rw_tree.proofs.Sound.{kid_sound, few_kids}
use Rattle.rw_anew.proofs.anew.+marks.Goals as goal

pub mark_kids-mark_node-requires : goal.mark_kids-mark_node-requires
mark_kids-mark_node-requires g t c = λ κs lt.
    let there = item_at _ _ _ _ refl c.index-kids-i.is c.loop-i-test.true in
    let fewer = total_get c.args.kids.now c.loop-i.i c.index-kids-i.result there in
    (search (rules, fewer), (search rules, (c.requires.heads, (c.requires.few, c.requires.sound c.loop-i.i c.index-kids-i.result there))))

pub mark_node-mark-requires-clause-owed : goal.mark_node-mark-requires-clause-owed
mark_node-mark-requires-clause-owed g t c =
    subst (λ d. length d.obligations < 4294967295) (sym c.in_ok-derived.ensures) (few_owed c.args.heads.now (option_copied c.args.given) (out-Node c.args.node.now).step)

pub mark_node-mark-requires-clause-lines : goal.mark_node-mark-requires-clause-lines
mark_node-mark-requires-clause-lines g t c = subst HasFewLines (sym c.as_slice-certs.ensures) (c.requires.sound.each [] (layer c.args.node.now) refl)

pub mark_node-mark_kids-requires : goal.mark_node-mark_kids-requires
mark_node-mark_kids-requires g t c = λ κs lt.
    let all = kids_fewer c.args.node.now c.as_slice-kids.result.now c.as_slice-kids.ensures in (
      search (rules, all),
      (
        search rules,
        (
          c.requires.heads,
          (
            c.requires.few,
            (
              subst (λ ks. length ks ≤ 2048) (sym c.as_slice-kids.ensures) (few_kids c.args.node.now c.requires.sound),
              λ i x is. kid_sound c.args.node.now x i c.requires.sound (ap (λ ks. slice_get ks i) (sym c.as_slice-kids.ensures) ∙ is),
            ),
          ),
        ),
      ),
    )

pub mark_node-returns-clause-marks : goal.mark_node-returns-clause-marks
mark_node-returns-clause-marks g t c =
    on_ok c.mark_kids.result _ _
    (λ e. all_marked c.args.library.now c.args.heads.now c.args.node.now (option_copied c.args.given) c.args.path.now c.args.marks.now c.push.new.self _ c.in_ok-mark.mark c.as_slice-children.result.now c.as_slice-kids.result.now
    c.in_ok-push.ensures.ok
    (c.in_ok-mark.ensures.mark (out-Node c.args.node.now).step (c.in_ok-derived.ensures ∙ ap (λ hs. derived hs (option_copied c.args.given) (out-Node c.args.node.now).step) c.requires.heads)
    ∙ ap (λ ps. mark_of c.args.library.now (record { path = ps; given = option_copied c.args.given; step = (out-Node c.args.node.now).step; certs = c.as_slice-certs.result.now })) c.as_slice.ensures
    ∙ ap (λ cs. mark_of c.args.library.now (record { path = c.args.path.now; given = option_copied c.args.given; step = (out-Node c.args.node.now).step; certs = cs })) c.as_slice-certs.ensures)
    (c.as_slice-children.ensures ∙ ap (λ d. d.children) c.in_ok-derived.ensures)
    c.as_slice-kids.ensures
    e)
    c.mark_kids.ensures.marks

pub mark_node-returns-clause-cost : goal.mark_node-returns-clause-cost
mark_node-returns-clause-cost g t c =
    on_ok c.mark_kids.result _ _
    (λ e. node_counted c.args.library.now c.args.heads.now c.args.node.now (option_copied c.args.given) c.args.path.now c.in_ok-derived.derived.obligations c.as_slice-certs.result.now c.as_slice-children.result.now c.as_slice-kids.result.now
    (ap (λ d. d.obligations) (c.in_ok-derived.ensures ∙ ap (λ hs. derived hs (option_copied c.args.given) (out-Node c.args.node.now).step) c.requires.heads))
    c.as_slice-certs.ensures
    (c.as_slice-children.ensures ∙ ap (λ d. d.children) c.in_ok-derived.ensures)
    c.as_slice-kids.ensures
    _ _ _ c.in_ok-mark.ensures.cost e)
    c.mark_kids.ensures.cost

pub mark_node-returns-clause-memory : goal.mark_node-returns-clause-memory
mark_node-returns-clause-memory g t c =
    err_weaker c.mark_kids.result _ _
    (λ e. node_within c.args.library.now c.args.heads.now c.args.node.now (option_copied c.args.given) c.args.path.now c.in_ok-derived.derived.obligations c.as_slice-certs.result.now c.as_slice-children.result.now c.as_slice-kids.result.now
    (ap (λ d. d.obligations) (c.in_ok-derived.ensures ∙ ap (λ hs. derived hs (option_copied c.args.given) (out-Node c.args.node.now).step) c.requires.heads))
    c.as_slice-certs.ensures
    (c.as_slice-children.ensures ∙ ap (λ d. d.children) c.in_ok-derived.ensures)
    c.as_slice-kids.ensures
    _ _ _ c.in_ok-mark.ensures.cost e)
    c.mark_kids.ensures.memory

pub mark_kids-returns-in_err-mark_node-clause-memory : goal.mark_kids-returns-in_err-mark_node-clause-memory
mark_kids-returns-in_err-mark_node-clause-memory g t c =
    let there = item_at _ _ _ _ refl c.index-kids-i.is c.loop-i-test.true in
    on_err c.from_residual-in_err-mark_node.result
    (part_within _ _ _ _ _ _ _
    (subst (λ x. c.mark_node.new.steps ≤ c.loop-i.steps + x)
    (ap (λ o. sites_cost c.args.library.now (sites c.args.heads.now c.index-kids-i.result o c.push.new.self)) c.at-given.ensures
    ∙ ap (λ p. sites_cost c.args.library.now (sites c.args.heads.now c.index-kids-i.result (slice_get c.args.children.now c.loop-i.i) p)) (c.in_ok-push.ensures.ok ∙ ap (λ p. p ++ (c.loop-i.i + 1) ∷ []) c.loop-i.invariant.same))
    c.in_err-mark_node.ensures.memory)
    (kid_cost c.args.library.now c.args.heads.now c.args.kids.now c.args.children.now c.loop-i.i c.args.path.now c.index-kids-i.result there)
    c.loop-i.invariant.cost)

pub mark_kids-loop-i-preserved : goal.mark_kids-loop-i-preserved
mark_kids-loop-i-preserved g t c =
    let there = item_at _ _ _ _ refl c.index-kids-i.is c.loop-i-test.true in
    record {
      rest = ap (λ j. c.mark_node.new.marks ++ map (mark_of c.args.library.now) (kid_sites (map (sites c.args.heads.now) (drop j c.args.kids.now)) c.args.children.now (c.loop-i.i + 1) c.args.path.now)) (add-one c.loop-i.i)
          ∙ kid_marked c.args.library.now c.args.heads.now c.args.kids.now c.args.children.now c.loop-i.i c.args.path.now c.index-kids-i.result _ _ there
          (c.in_ok-mark_node.ensures.marks
          ∙ ap (λ o. c.loop-i.marks ++ map (mark_of c.args.library.now) (sites c.args.heads.now c.index-kids-i.result o c.push.new.self)) c.at-given.ensures
          ∙ ap (λ p. c.loop-i.marks ++ map (mark_of c.args.library.now) (sites c.args.heads.now c.index-kids-i.result (slice_get c.args.children.now c.loop-i.i) p)) (c.in_ok-push.ensures.ok ∙ ap (λ p. p ++ (c.loop-i.i + 1) ∷ []) c.loop-i.invariant.same))
          ∙ c.loop-i.invariant.rest;
      same = grind (arith, common_steps);
      cost = ap (λ j. c.mark_node.new.steps + sites_cost c.args.library.now (kid_sites (map (sites c.args.heads.now) (drop j c.args.kids.now)) c.args.children.now (c.loop-i.i + 1) c.args.path.now)) (add-one c.loop-i.i)
          ∙ part_taken _ _ _ _ _ _ _
          (c.in_ok-mark_node.ensures.cost
          ∙ ap (λ o. c.loop-i.steps + sites_cost c.args.library.now (sites c.args.heads.now c.index-kids-i.result o c.push.new.self)) c.at-given.ensures
          ∙ ap (λ p. c.loop-i.steps + sites_cost c.args.library.now (sites c.args.heads.now c.index-kids-i.result (slice_get c.args.children.now c.loop-i.i) p)) (c.in_ok-push.ensures.ok ∙ ap (λ p. p ++ (c.loop-i.i + 1) ∷ []) c.loop-i.invariant.same))
          (kid_cost c.args.library.now c.args.heads.now c.args.kids.now c.args.children.now c.loop-i.i c.args.path.now c.index-kids-i.result there)
          c.loop-i.invariant.cost;
    }
