use Rattle.std.proofs.Common.{◌≡◌, drop}
use Rattle.std.specs.List.{list_any}
use Rattle.rw_users.specs.Users.{proof_names}
use Rattle.rw_users.proofs.nodes.any_names.Given as goal

abbrev pub invariant-loop-cert : goal.invariant-loop-cert
invariant-loop-cert l = list_any (proof_names l.name) (drop l.cert-index l.certs) ≡ list_any (proof_names l.name) l.certs
