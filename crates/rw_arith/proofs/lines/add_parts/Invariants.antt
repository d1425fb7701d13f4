use Rattle.std.proofs.Common.{◌≡◌, [], drop}
use Rattle.rw_arith.specs.declared.poly.Expansion.TheVariants.{Polynomial}
use Rattle.rw_arith.specs.Lines.{with_parts}
use Rattle.rw_arith.proofs.lines.add_parts.Given as goal

abbrev pub invariant-loop-part : goal.invariant-loop-part
invariant-loop-part l = with_parts l.left l.right l.made (drop l.part-index l.parts) l.sum ≡ with_parts l.left l.right l.made l.parts (Polynomial [])
