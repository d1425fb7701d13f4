use Rattle.rw_terms.specs.Validity.{Each}
use Rattle.rw_lemmas.specs.Differing.{Keeps, ReachesOne}
use Rattle.rw_lemmas.proofs.Changed.{count_others}
use Rattle.rw_lemmas.proofs.differing.add_users.Given as goal

abbrev pub invariant-users : goal.invariant-users
invariant-users l = record {
  kept : Keeps l.fn.names l.names;
  each : Each (ReachesOne l.entries l.fn.names) l.names;
}

abbrev pub decreases-users : goal.decreases-users
decreases-users l = count_others l.names l.entries
