use Rattle.std.proofs.Common.{◌≡◌, ◌++◌, ◌+◌, drop}
use Rattle.rw_project.specs.Goals.{needs_texts}
use Rattle.rw_project.proofs.goals.push_needs.Given as goal

-- the lines so far and those of the obligations that are left
abbrev pub invariant-loop-need : goal.invariant-loop-need
invariant-loop-need l = record {
  rest : l.texts ++ needs_texts l.number (drop l.need-index l.needs) ≡ l.fn.texts ++ needs_texts 1 l.needs;
  next : l.number ≡ l.need-index + 1;
}
