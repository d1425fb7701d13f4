use Rattle.rw_equations.proofs.Sides.{equations_have_sides}
use Rattle.rw_equations.proofs.laws.equations.Goals as goal

pub returns : goal.returns
returns c = equations_have_sides
