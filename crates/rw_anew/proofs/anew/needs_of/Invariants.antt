use Rattle.std.proofs.Common.{◌≡◌, ◌+◌, ◌++◌, drop}
use Rattle.rw_anew.specs.Anew.{needs_from}
use Rattle.rw_anew.specs.Cost.{needs_cost}
use Rattle.rw_nodes.specs.Nodes.{certified}
use Rattle.rw_anew.proofs.anew.needs_of.Given as goal

abbrev pub invariant-loop-at : goal.invariant-loop-at
invariant-loop-at g l = record {
  rest : l.needs ++ needs_from l.library (l.at + 1) (drop l.at l.obligations) (certified l.certs) ≡ needs_from l.library 1 l.obligations (certified l.certs);
  cost : l.steps + needs_cost l.library (l.at + 1) (drop l.at l.obligations) (certified l.certs) ≡ l.fn.steps + needs_cost l.library 1 l.obligations (certified l.certs);
}
