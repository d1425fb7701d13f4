use Rattle.std.proofs.Common.{arith, sym, drop}
use Rattle.rw_forms.specs.Forms.{a_variable, takes}
use Rattle.rw_tokens.specs.Seen.{seen}
use Rattle.rw_tokens.proofs.Shorter.{moves_on}
use Rattle.rw_forms.proofs.Parts.{none_stops, misfit_stops, fits_goes, stops_here, moved}
use Rattle.rw_forms.proofs.taking.variable.Goals as goal

pub returns-in-None-clause-took : goal.returns-in-None-clause-took
returns-in-None-clause-took c = stops_here (takes a_variable) c.args.line.now c.args.at.now _ c.fault-in-None.ensures c.requires.within (none_stops a_variable (drop c.args.at.now c.args.line.now) c.in-None.ensures)

pub returns-in-None-variable_of-clause-took : goal.returns-in-None-variable_of-clause-took
returns-in-None-variable_of-clause-took c = stops_here (takes a_variable) c.args.line.now c.args.at.now _ c.fault.ensures c.requires.within (misfit_stops a_variable (drop c.args.at.now c.args.line.now) (seen c.in-Some.token) _ c.in-Some.ensures.1 (sym c.in-None-variable_of.ensures))

pub returns-in-Some-variable_of-clause-took : goal.returns-in-Some-variable_of-clause-took
returns-in-Some-variable_of-clause-took c = (moved c.args.line.now c.args.at.now c.in-Some.next c.requires c.in-Some.ensures.0, fits_goes a_variable (drop c.args.at.now c.args.line.now) (seen c.in-Some.token) _ _ c.in-Some.ensures.1 (sym c.in-Some-variable_of.ensures))

pub returns-in-Some-variable_of-clause-on : goal.returns-in-Some-variable_of-clause-on
returns-in-Some-variable_of-clause-on c = let h = moves_on c.args.line.now c.args.at.now c.in-Some.next (seen c.in-Some.token) c.in-Some.ensures.1 in omega arith
