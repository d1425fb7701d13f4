use Rattle.std.proofs.Common.{◌≡◌, drop}
use Rattle.std.specs.List.{list_all}
use Rattle.rw_arith.specs.Lines.{is_allowed}
use Rattle.rw_arith.proofs.lines.are_allowed.Given as goal

abbrev pub invariant-loop-part : goal.invariant-loop-part
invariant-loop-part l = list_all (is_allowed l.left l.right l.made) (drop l.part-index l.parts) ≡ list_all (is_allowed l.left l.right l.made) l.parts
