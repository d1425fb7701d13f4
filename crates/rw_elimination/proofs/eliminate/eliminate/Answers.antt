use Rattle.std.proofs.Common.{◌≡◌, ◌+◌, ◌≤◌, length, sym, ◌∙◌, arith}
use Rattle.rw_elimination.specs.Rows.{all_given}
use Rattle.rw_elimination.proofs.Pairing.{given_on, given_end, on, at_end, all_done}
use Rattle.rw_elimination.proofs.eliminate.eliminate.Goals as goal

pub returns-then-branch-clause-rows : goal.returns-then-branch-clause-rows
returns-then-branch-clause-rows c =
    (given_end c.args.atoms.now (all_given c.args.atoms.now c.args.used.now) c.args.rows.now c.push_all_given.new.rows c.requires c.in_ok-push_all_given.ensures.rows
    (sym c.in_ok-push_all_given.ensures.ended ∙ c.if-branch.true)).0

pub returns-then-branch-clause-ended : goal.returns-then-branch-clause-ended
returns-then-branch-clause-ended c =
    (given_end c.args.atoms.now (all_given c.args.atoms.now c.args.used.now) c.args.rows.now c.push_all_given.new.rows c.requires c.in_ok-push_all_given.ensures.rows
    (sym c.in_ok-push_all_given.ensures.ended ∙ c.if-branch.true)).1

pub loop-at-init : goal.loop-at-init
loop-at-init c =
    let start = given_on c.args.atoms.now (all_given c.args.atoms.now c.args.used.now) c.args.rows.now c.push_all_given.new.rows c.requires c.in_ok-push_all_given.ensures.rows
    (sym c.in_ok-push_all_given.ensures.ended ∙ c.if-branch.false) in
    record { rows = start.0; goes_on = start.1 }

pub returns-then-branch-2-clause-rows : goal.returns-then-branch-2-clause-rows
returns-then-branch-2-clause-rows c =
    let within : c.loop-at.at + 1 ≤ length c.args.atoms.now = omega arith in
    (at_end c.args.atoms.now (all_given c.args.atoms.now c.args.used.now) c.loop-at.rows c.push_pairs.new.rows c.loop-at.at c.loop-at.invariant.rows c.loop-at.invariant.goes_on
    c.in_ok-push_pairs.ensures.rows (length c.args.atoms.now) within (sym c.in_ok-push_pairs.ensures.ended ∙ c.if-branch-2.true)).0

pub returns-then-branch-2-clause-ended : goal.returns-then-branch-2-clause-ended
returns-then-branch-2-clause-ended c =
    let within : c.loop-at.at + 1 ≤ length c.args.atoms.now = omega arith in
    (at_end c.args.atoms.now (all_given c.args.atoms.now c.args.used.now) c.loop-at.rows c.push_pairs.new.rows c.loop-at.at c.loop-at.invariant.rows c.loop-at.invariant.goes_on
    c.in_ok-push_pairs.ensures.rows (length c.args.atoms.now) within (sym c.in_ok-push_pairs.ensures.ended ∙ c.if-branch-2.true)).1

pub loop-at-preserved : goal.loop-at-preserved
loop-at-preserved c =
    let next = on c.args.atoms.now (all_given c.args.atoms.now c.args.used.now) c.loop-at.rows c.push_pairs.new.rows c.loop-at.at c.loop-at.invariant.rows c.loop-at.invariant.goes_on
    c.in_ok-push_pairs.ensures.rows (sym c.in_ok-push_pairs.ensures.ended ∙ c.if-branch-2.false) in
    record { rows = next.0; goes_on = next.1 }

pub returns-clause-rows : goal.returns-clause-rows
returns-clause-rows c =
    let end : c.loop-at.at ≡ length c.args.atoms.now = omega arith in
    all_done c.args.atoms.now (all_given c.args.atoms.now c.args.used.now) c.loop-at.rows c.loop-at.at end c.loop-at.invariant.rows c.loop-at.invariant.goes_on
