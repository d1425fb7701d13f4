use Rattle.std.proofs.Common.{◌≡◌, drop}
use Rattle.std.specs.List.{list_any}
use Rattle.rw_terms.specs.Scopes.{is_fresh}
use Rattle.rw_derived.proofs.parts.any_new.Given as goal

abbrev pub invariant-loop-name : goal.invariant-loop-name
invariant-loop-name l = list_any (λ x. is_fresh x l.scope) l.fn.names ≡ list_any (λ x. is_fresh x l.scope) (drop l.name-index l.names)
