use Rattle.std.proofs.Common.{◌≡◌, drop}
use Rattle.rw_terms.specs.Scopes.{is_fresh}
use Rattle.rw_derived.specs.Causes.{each_is}
use Rattle.rw_derived.proofs.parts.are_new.Given as goal

abbrev pub invariant-loop-name : goal.invariant-loop-name
invariant-loop-name l = each_is (λ x. is_fresh x l.scope) l.fn.names ≡ each_is (λ x. is_fresh x l.scope) (drop l.name-index l.names)
