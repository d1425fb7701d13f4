use Rattle.std.proofs.Common.{◌≡◌, drop}
use Rattle.std.specs.List.{list_any}
use Rattle.rw_terms.specs.Named.{is_named}
use Rattle.rw_library.proofs.parameters.any_named.Given as goal

abbrev pub invariant-loop-other : goal.invariant-loop-other
invariant-loop-other l = list_any (is_named l.name) (drop l.other-index l.params) ≡ list_any (is_named l.name) l.params
