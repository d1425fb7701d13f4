use Rattle.std.proofs.Common.{◌≡◌, ◌≤◌, drop}
use Rattle.rw_tokens.specs.Tokens.{value}
use Rattle.rw_tokens.proofs.token.value.Given as goal

abbrev pub invariant-loop-b : goal.invariant-loop-b
invariant-loop-b l = record { least : l.n ≤ 170141183460469231731687303715884105727; same : value l.n (drop l.b-index l.digits) ≡ value 0 l.digits }
