use Rattle.std.proofs.Common.{◌≡◌, ℕ, ◌++◌, drop}
use Rattle.rw_lemmas.specs.States.{statuses_from}
use Rattle.rw_lemmas.specs.Affected.{CostsFrom}
use Rattle.rw_lemmas.specs.Differing.{TellsChanges}
use Rattle.rw_lemmas.proofs.table.Lemmas.statuses_in.Given as goal

abbrev pub invariant-loop-i : goal.invariant-loop-i
invariant-loop-i g l = record {
  told : TellsChanges l.self.library.entries l.library.entries l.changes;
  done : l.statuses ++ statuses_from l.library l.proofs l.i (drop l.i l.entries) ≡ statuses_from l.library l.proofs 0 l.library.entries;
  cost : (m : ℕ) → CostsFrom l.self l.library l.proofs l.i (drop l.i l.entries) l.steps m → CostsFrom l.self l.library l.proofs 0 l.library.entries l.fn.steps m;
}
