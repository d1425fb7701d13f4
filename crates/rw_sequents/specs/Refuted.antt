-- Arithmetic lines as a line of a certificate.
use Rattle.std.specs.Prelude.{List, [], Option, Some, None}
use Rattle.rw_terms.specs.declared.sequent.Sequent.{Sequent}
use Rattle.rw_arith.specs.declared.line.LinLine.{LinLine}
use Rattle.rw_arith.specs.declared.error.LinError.{LinError}
use Rattle.rw_arith.specs.declared.error.LinError.TheVariants as fault
use Rattle.rw_arith.specs.Lines.{lines_fault}
use Rattle.rw_goals.specs.Causes as causes
use Rattle.rw_goals.specs.Premises.{Effect, Fails, Premises}

-- lines that refute close the goal; else it fails at the arithmetic line by its cause (want of memory is no fault of lines)
abbrev pub by_fault : Option LinError → Effect
by_fault None = Premises []
by_fault (Some (fault.BadLine k)) = Fails k causes.bad_line
by_fault (Some (fault.Wide k)) = Fails k causes.wide
by_fault (Some (fault.NotContradiction k)) = Fails k causes.no_contradiction
by_fault (Some fault.Memory) = Fails 0 0

-- the lines refute that the left formulas of the goal are true and the right ones false
abbrev pub refuted_by : List LinLine → Sequent → Effect
refuted_by lines q = by_fault (lines_fault q.left q.right lines)
