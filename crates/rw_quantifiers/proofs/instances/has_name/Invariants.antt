use Rattle.std.proofs.Common.{◌≡◌, drop}
use Rattle.std.specs.List.{list_any}
use Rattle.rw_terms.specs.Named.{is_named}
use Rattle.rw_quantifiers.proofs.instances.has_name.Given as goal

abbrev pub invariant-loop-known : goal.invariant-loop-known
invariant-loop-known l = list_any (is_named l.name) (drop l.known-index l.names) ≡ list_any (is_named l.name) l.names
