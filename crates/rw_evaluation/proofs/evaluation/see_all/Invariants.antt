use Rattle.std.proofs.Common.{◌≡◌, ◌-◌, drop, length}
use Rattle.rw_evaluation.specs.Evaluation.{all_seen}
use Rattle.rw_evaluation.specs.Stored.{map_of, sights}
use Rattle.rw_evaluation.proofs.evaluation.see_all.Given as goal

abbrev pub invariant-loop-back : goal.invariant-loop-back
invariant-loop-back l = sights l.values ≡ all_seen (map_of l.store) (drop (length l.terms - l.back) l.terms)
