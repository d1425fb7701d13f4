use Rattle.std.proofs.Common.{◌≡◌, drop}
use Rattle.std.specs.List.{list_any}
use Rattle.rw_uses.specs.Uses.{proof_cites}
use Rattle.rw_uses.proofs.uses.any_cites.Given as goal

abbrev pub invariant-loop-cert : goal.invariant-loop-cert
invariant-loop-cert l = list_any (proof_cites l.name) (drop l.cert-index l.certs) ≡ list_any (proof_cites l.name) l.certs
