use Rattle.std.proofs.Common.{◌≡◌, take}
use Rattle.rw_lemmas.proofs.placing.copy_proofs.Given as goal

abbrev pub invariant-loop-proof : goal.invariant-loop-proof
invariant-loop-proof l = l.copies ≡ take l.proof-index l.proofs
