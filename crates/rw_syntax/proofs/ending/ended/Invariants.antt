use Rattle.std.proofs.Common.{◌≡◌, ◌+◌, ◌≤◌, length}
use Rattle.rw_syntax.specs.Machine.{ended, stack_nest}
use Rattle.rw_syntax.proofs.ending.ended.Given as goal

abbrev pub invariant-frames : goal.invariant-frames
invariant-frames l = record {
  same : ended l.bound l.part l.level l.chain l.stack ≡ ended l.bound l.fn.operand.part l.fn.operand.level l.fn.operand.chain l.fn.operand.stack;
  within : stack_nest l.stack + l.chain ≤ 512;
}

abbrev pub decreases-frames : goal.decreases-frames
decreases-frames l = length l.stack
