use Rattle.rw_lemmas.proofs.Changed.{all_changes}
use Rattle.rw_lemmas.proofs.differing.changes_between.Goals as goal

pub returns : goal.returns
returns c =
    all_changes c.args.old.now c.args.new.now c.in_ok-lemmas.lemmas c.in_ok-predicates.predicates c.in_ok-definitions.definitions c.add_users.new.names c.in_ok-lemmas.ensures c.in_ok-predicates.ensures
    c.in_ok-definitions.ensures c.in_ok-add_users.ensures.kept c.in_ok-add_users.ensures.closed c.in_ok-add_users.ensures.each
