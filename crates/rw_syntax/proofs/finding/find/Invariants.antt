use Rattle.std.proofs.Common.{◌≡◌, ◌+◌, ◌-◌, ◌≤◌, length, drop}
use Rattle.std.specs.Prelude.{option_map}
use Rattle.rw_syntax.specs.Grammar.{find}
use Rattle.rw_syntax.specs.Machine.{scope}
use Rattle.rw_syntax.proofs.finding.find.Given as goal

abbrev pub invariant-frames : goal.invariant-frames
invariant-frames l = record {
  few : l.count + length (scope (drop l.depth l.stack)) ≤ 512;
  found : option_map (λ n. l.count + n) (find l.binder (scope (drop l.depth l.stack))) ≡ find l.binder (scope l.stack);
}

abbrev pub decreases-frames : goal.decreases-frames
decreases-frames l = length l.stack - l.depth
