use Rattle.std.proofs.Common.{◌≡◌, ◌+◌, ◌++◌, drop}
use Rattle.rw_anew.specs.Anew.{lemma_marks}
use Rattle.rw_anew.specs.Cost.{lemmas_cost}
use Rattle.rw_anew.proofs.anew.lemma_marks.Given as goal

abbrev pub invariant-loop-i : goal.invariant-loop-i
invariant-loop-i g l = record {
  rest : l.marks ++ lemma_marks l.library l.proofs l.i (drop l.i l.entries) ≡ lemma_marks l.library l.proofs 0 l.entries;
  cost : l.steps + lemmas_cost l.library l.proofs l.i (drop l.i l.entries) ≡ l.fn.steps + lemmas_cost l.library l.proofs 0 l.entries;
}
