use Rattle.std.proofs.Common.{◌≡◌, drop}
use Rattle.std.specs.List.{list_any}
use Rattle.rw_wpview.specs.Misfits.{is_outside}
use Rattle.rw_wpview.proofs.parts.any_outside.Given as goal

abbrev pub invariant-loop-name : goal.invariant-loop-name
invariant-loop-name l = list_any (is_outside l.scope l.frame) l.fn.names ≡ list_any (is_outside l.scope l.frame) (drop l.name-index l.names)
