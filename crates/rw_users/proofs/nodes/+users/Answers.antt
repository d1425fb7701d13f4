use Rattle.std.proofs.Common.{rules, ◌≤◌, ◌∙◌, refl, sym, ap, subst, length}
use Rattle.rw_trees.proofs.Kids.{item_at}
use Rattle.rw_trees.proofs.Counts.{total_get, kids_fewer}
use Rattle.rw_users.proofs.Clauses.{if_ok}
use Rattle.rw_users.proofs.Firsts.{user_below, lengths}
use Rattle.rw_users.proofs.nodes.+users.Goals as goal

pub kids_user-node_user-requires : goal.kids_user-node_user-requires
kids_user-node_user-requires t c =
    let there = item_at _ _ _ _ refl c.index-kids-i.is c.loop-i-test.true in
    let fewer = total_get c.args.kids.now c.loop-i.i c.index-kids-i.result there in
    search (rules, fewer)

pub kids_user-overflow_cast-i : goal.kids_user-overflow_cast-i
kids_user-overflow_cast-i t c = let few = lengths c.args.kids.now in search (rules, few)

pub kids_user-overflow_add-i : goal.kids_user-overflow_add-i
kids_user-overflow_add-i t c = let few = lengths c.args.kids.now in search (rules, few)

pub node_user-kids_user-requires : goal.node_user-kids_user-requires
node_user-kids_user-requires t c = let all = kids_fewer c.args.node.now c.as_slice.result.now c.as_slice.ensures in search (rules, all)

pub node_user-returns-clause-found : goal.node_user-returns-clause-found
node_user-returns-clause-found t c =
    if_ok c.kids_user.result _ _
    (λ b told is. user_below c.args.name.now c.args.node.now c.args.path.now c.as_slice.result.now _ c.is_user.ensures c.if-is_user.false c.as_slice.ensures ∙ told is)
    c.kids_user.ensures.found

pub node_user-returns-clause-none : goal.node_user-returns-clause-none
node_user-returns-clause-none t c =
    if_ok c.kids_user.result _ _
    (λ b told is. (user_below c.args.name.now c.args.node.now c.args.path.now c.as_slice.result.now _ c.is_user.ensures c.if-is_user.false c.as_slice.ensures ∙ (told is).0, (told is).1))
    c.kids_user.ensures.none
