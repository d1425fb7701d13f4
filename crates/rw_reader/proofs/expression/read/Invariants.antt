use Rattle.std.proofs.Common.{◌≤◌, ◌-◌, drop, length}
use Rattle.rw_syntax.specs.Machine.{nest}
use Rattle.rw_forms.specs.Progress.{IsPlace}
use Rattle.rw_reader.proofs.Expressions.{Read}
use Rattle.rw_reader.proofs.expression.read.Given as goal

abbrev pub invariant-tokens : goal.invariant-tokens
invariant-tokens l = record {
  place : IsPlace l.text l.at;
  read : Read l.goal l.text (drop l.at l.text) l.state;
  opened : nest l.state ≤ 512;
}

abbrev pub decreases-tokens : goal.decreases-tokens
decreases-tokens l = length l.text - l.at
