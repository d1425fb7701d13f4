use Rattle.std.proofs.Common.{◌≡◌, drop}
use Rattle.rw_fits.specs.Fits.{arms_calls_fit}
use Rattle.rw_fits.proofs.calls.+calls_fit.Given as goal

abbrev pub invariant-arms_calls_fit-loop-arm : goal.invariant-arms_calls_fit-loop-arm
invariant-arms_calls_fit-loop-arm l = arms_calls_fit l.code l.place l.scope l.fn.arms ≡ arms_calls_fit l.code l.place l.scope (drop l.arm-index l.arms)
