use Rattle.std.proofs.Common.{◌≡◌, take, map, false}
use Rattle.rw_anew.proofs.uses.no_marks.Given as goal

abbrev pub invariant-loop-entry : goal.invariant-loop-entry
invariant-loop-entry l = l.marks ≡ map (λ e. false) (take l._entry-index l.entries)
