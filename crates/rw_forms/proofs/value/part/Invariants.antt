use Rattle.std.proofs.Common.{◌≤◌, ◌-◌, length}
use Rattle.rw_syntax.specs.Machine.{nest}
use Rattle.rw_forms.specs.Progress.{IsPlace}
use Rattle.rw_forms.proofs.Values.{Inside}
use Rattle.rw_forms.proofs.value.part.Given as goal

abbrev pub invariant-tokens : goal.invariant-tokens
invariant-tokens l = record {
  place : IsPlace l.line l.at;
  on : l.fn.at ≤ l.at;
  inside : Inside l.most l.goal l.line l.fn.at l.at l.state;
  opened : nest l.state ≤ 512;
}

abbrev pub decreases-tokens : goal.decreases-tokens
decreases-tokens l = length l.line - l.at
